-- Calls in a row make a trace, in one buffer; so the law of the open holds of where they led. Assumes nothing.
use Rattle.std.proofs.Common.{◌≡◌, ℕ, Bool, List, [], ◌∷◌, IfOk, Some, None, Ok, Err, Option, Result, refl, subst}
use Rattle.concluding.specs.Conserving.{Conserved, Brought}
use Rattle.law.specs.Calls.{Status, Request, step, kill, poll, halt, Called, Opened}
use Rattle.law.specs.Law.{LawFrom, ReadsBackFrom}
use Rattle.law.specs.Traces.{Moment, obtained, released, just_opened, after_call, after_event, taken_up, laid_down, Trace, begin, call, obtain, release, InOneBuffer, at_open, by_call, by_obtain, by_release}
use Rattle.pool.specs.Ways.{Ways}
use Rattle.rules.specs.Plans.{plan_of}
use Rattle.rules.specs.declared.refusal.Refusal.{Refusal}
use Rattle.tool.specs.Grants.{Obtain, Release}
use Rattle.tool.specs.declared.grants.Grant.{Grant}
use Rattle.tool.specs.declared.grants.Unreleased.{Unreleased}
use Rattle.tree.specs.Questions.{nodes_of}
use Rattle.tree.specs.declared.tree.Tree.{Tree}

module _ {P : Type 0} (w : Ways P) (s₀ : Status) (p₀ : P) (first : List ℕ) where
  -- a trace leads here, all of it in one buffer
  record Reached (now : Moment P) (buffer : List ℕ) : Type 0 where
    pub trace : Trace w (just_opened s₀ p₀ first) now
    pub one : InOneBuffer first now trace buffer

  start : Reached (just_opened s₀ p₀ first) first
  start = record { trace = begin; one = at_open }

  by_a_call : (now : Moment P) (old : List ℕ) → Reached now old → (c : Request) (r : Result ℕ Refusal) (s : Status) (q : P) (new : List ℕ) → Called w c now.status now.pool old r s q new → Reached (after_call now c r s q new) new
  by_a_call now old so c r s q new d = record { trace = call so.trace c r s q old new d; one = by_call now so.trace c r s q old new d so.one }

  by_an_obtain : (now : Moment P) (buffer : List ℕ) → Reached now buffer → (g : Option Grant) (q : P) → Obtain w now.pool g q → Reached (after_event now (obtained g) (taken_up g now.hands) q) buffer
  by_an_obtain now buffer so g q d = record { trace = obtain so.trace g q d; one = by_obtain now so.trace buffer g q d so.one }

  by_a_release : (now : Moment P) (buffer : List ℕ) → Reached now buffer → (g : Grant) → now.hands ≡ g ∷ [] → (r : Result Unit Unreleased) (q : P) → Release w now.pool g r q → Reached (after_event now (released g r) (laid_down r [] g []) q) buffer
  by_a_release now buffer so g held r q d = record { trace = release so.trace [] g [] held r q d; one = by_release now so.trace buffer [] g [] held r q d so.one }

  -- what is known after the poll, for each grant that was obtained
  module _ (tree : Tree) (keep : Bool) (node n : ℕ) (before : Status) (p : P) (old : List ℕ) (begun : Opened w (plan_of (nodes_of tree)) keep before p old (Ok n) s₀ p₀ first) (law : LawFrom w tree p s₀ p₀ first) (back : ReadsBackFrom w s₀ p₀ first) where
    pub conserving :
        (g : Option Grant) (p₁ : P) → Obtain w p₀ g p₁ →
        (r₂ : Result ℕ Refusal) (s₂ : Status) (p₂ : P) (b₂ : List ℕ) → Called w (step node) s₀ p₁ first r₂ s₂ p₂ b₂ →
        (r₃ : Result ℕ Refusal) (s₃ : Status) (p₃ : P) (b₃ : List ℕ) → Called w (kill node) s₂ p₂ b₂ r₃ s₃ p₃ b₃ →
        (r₄ : Result ℕ Refusal) (s₄ : Status) (p₄ : P) (b₄ : List ℕ) → Called w poll s₃ p₃ b₃ r₄ s₄ p₄ b₄ →
        (p₅ : P) → Brought w p₄ g p₅ →
        (r₆ : Result ℕ Refusal) (s₆ : Status) (p₆ : P) (b₆ : List ℕ) → Called w halt s₄ p₅ b₄ r₆ s₆ p₆ b₆ →
        Conserved w tree keep node n before p old s₆ p₆ b₆
    conserving None p₁ d₁ r₂ s₂ p₂ b₂ d₂ r₃ s₃ p₃ b₃ d₃ r₄ s₄ p₄ b₄ d₄ p₅ d₅ r₆ s₆ p₆ b₆ d₆ =
        let t₁ = by_an_obtain _ _ start None p₁ d₁ in
        let t₂ = by_a_call _ _ t₁ (step node) r₂ s₂ p₂ b₂ d₂ in
        let t₃ = by_a_call _ _ t₂ (kill node) r₃ s₃ p₃ b₃ d₃ in
        let t₄ = by_a_call _ _ t₃ poll r₄ s₄ p₄ b₄ d₄ in
        let t₆ = by_a_call _ _ t₄ halt r₆ s₆ p₆ b₆ (subst (λ m. Called w halt s₄ m b₄ r₆ s₆ p₆ b₆) d₅ d₆) in
        record {
          start = s₀;
          start_pool = p₀;
          start_buffer = first;
          begun = begun;
          calls = _;
          hands = _;
          trace = t₆.trace;
          asked = refl;
          law = law _ t₆.trace;
          back = back _ t₆.trace b₆ t₆.one;
        }
    conserving (Some g) p₁ d₁ r₂ s₂ p₂ b₂ d₂ r₃ s₃ p₃ b₃ d₃ r₄ s₄ p₄ b₄ d₄ p₅ d₅ r₆ s₆ p₆ b₆ d₆ =
        let t₁ = by_an_obtain _ _ start (Some g) p₁ d₁ in
        let t₂ = by_a_call _ _ t₁ (step node) r₂ s₂ p₂ b₂ d₂ in
        let t₃ = by_a_call _ _ t₂ (kill node) r₃ s₃ p₃ b₃ d₃ in
        let t₄ = by_a_call _ _ t₃ poll r₄ s₄ p₄ b₄ d₄ in
        let t₅ = by_a_release _ _ t₄ g refl d₅.0 p₅ d₅.1 in
        let t₆ = by_a_call _ _ t₅ halt r₆ s₆ p₆ b₆ d₆ in
        record {
          start = s₀;
          start_pool = p₀;
          start_buffer = first;
          begun = begun;
          calls = _;
          hands = _;
          trace = t₆.trace;
          asked = refl;
          law = law _ t₆.trace;
          back = back _ t₆.trace b₆ t₆.one;
        }

-- so too where the open may have been refused
pub conserved_made :
    {P : Type 0} (w : Ways P) (s₀ : Status) (p₀ : P) (first : List ℕ) (tree : Tree) (keep : Bool) (node : ℕ) (before : Status) (p : P) (old : List ℕ) →
    (r₀ : Result ℕ Refusal) → Opened w (plan_of (nodes_of tree)) keep before p old r₀ s₀ p₀ first → IfOk r₀ (λ _. LawFrom w tree p s₀ p₀ first) → IfOk r₀ (λ _. ReadsBackFrom w s₀ p₀ first) →
    (g : Option Grant) (p₁ : P) → Obtain w p₀ g p₁ →
    (r₂ : Result ℕ Refusal) (s₂ : Status) (p₂ : P) (b₂ : List ℕ) → Called w (step node) s₀ p₁ first r₂ s₂ p₂ b₂ →
    (r₃ : Result ℕ Refusal) (s₃ : Status) (p₃ : P) (b₃ : List ℕ) → Called w (kill node) s₂ p₂ b₂ r₃ s₃ p₃ b₃ →
    (r₄ : Result ℕ Refusal) (s₄ : Status) (p₄ : P) (b₄ : List ℕ) → Called w poll s₃ p₃ b₃ r₄ s₄ p₄ b₄ →
    (p₅ : P) → Brought w p₄ g p₅ →
    (r₆ : Result ℕ Refusal) (s₆ : Status) (p₆ : P) (b₆ : List ℕ) → Called w halt s₄ p₅ b₄ r₆ s₆ p₆ b₆ →
    IfOk r₀ (λ n. Conserved w tree keep node n before p old s₆ p₆ b₆)
conserved_made w s₀ p₀ first tree keep node before p old (Ok n) begun law back g p₁ d₁ r₂ s₂ p₂ b₂ d₂ r₃ s₃ p₃ b₃ d₃ r₄ s₄ p₄ b₄ d₄ p₅ d₅ r₆ s₆ p₆ b₆ d₆ =
    conserving w s₀ p₀ first tree keep node n before p old begun law back g p₁ d₁ r₂ s₂ p₂ b₂ d₂ r₃ s₃ p₃ b₃ d₃ r₄ s₄ p₄ b₄ d₄ p₅ d₅ r₆ s₆ p₆ b₆ d₆
conserved_made w s₀ p₀ first tree keep node before p old (Err e) begun law back g p₁ d₁ r₂ s₂ p₂ b₂ d₂ r₃ s₃ p₃ b₃ d₃ r₄ s₄ p₄ b₄ d₄ p₅ d₅ r₆ s₆ p₆ b₆ d₆ = tt
