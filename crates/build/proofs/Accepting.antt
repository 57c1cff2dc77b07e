-- What is so where no refusal applies. Assumes nothing.
use Rattle.std.proofs.Common.{◌≡◌, ℕ, ◌<◌, ◌≤◌, Bool, true, false, cond, not, ◌&&◌, ltb, List, [], ◌∷◌, length, Some, None, Ok, Option, sym, refl, ap, ◌∙◌, subst, ⊎_elim, arith}
use Rattle.law.specs.Calls.{Request, Called, refusal_of, run_of}
use Rattle.pool.specs.Ways.{Ways}
use Rattle.rules.specs.Builds.{Build, unbegun, at, finished, running}
use Rattle.rules.specs.Lists.{any}
use Rattle.rules.specs.Plans.{is_make, needed}
use Rattle.rules.specs.Refusing.{short_of, call_refusal, or_18, job_refusal, answer}
use Rattle.rules.specs.declared.progress.Progress.{Progress}
use Rattle.rules.specs.declared.progress.State.{State}
use Rattle.rules.specs.declared.progress.State.TheVariants.{Waiting, Running}
use Rattle.rules.specs.Builds.{Held}
use Rattle.std.proofs.lemmas.List.{get_or_past}
use Rattle.std.proofs.lemmas.Bool.{and_parts, both_ways, cases_eq, cases_lt, ltb-false, not-false, not-true}
use Rattle.build.specs.Hands.{in_hands, short_at}
use Rattle.build.specs.Leads.{Point, Ends}
use Rattle.build.proofs.Handing.{in_hands_on, in_hands_none}
use Rattle.build.proofs.Leading.{ran}
use Rattle.build.proofs.Seeking.{any_here, any_there}
use Rattle.build.proofs.Upwards.{running_state}

-- of none of these tokens' bytes is there a shortage
enough_of : (all : List Held) (outs : ℕ → ℕ) (hs : List Held) → any (short_at all outs) hs ≡ false → (k : ℕ) → 0 < in_hands k hs → in_hands k all ≤ outs k
enough_of all outs [] e k some = absurd (omega (arith, in_hands_none k))
enough_of all outs (h ∷ hs) e k some = either (short_at all outs h) refl e (λ rest. enough_of all outs hs rest k)
  where
    either : (t : Bool) → short_at all outs h ≡ t → any (short_at all outs) (h ∷ hs) ≡ false → (any (short_at all outs) hs ≡ false → 0 < in_hands k hs → in_hands k all ≤ outs k) → in_hands k all ≤ outs k
    either true is e on = absurd (both_ways _ e (any_here (short_at all outs) h hs is))
    either false is e on =
        ⊎_elim
        (λ same. subst (λ j. in_hands j all ≤ outs j) same (ltb-false (outs h.byte) (in_hands h.byte all) is))
        (λ apart. on (sym (any_there (short_at all outs) h hs is) ∙ e) (omega (arith, in_hands_on k h hs apart)))
        (cases_eq h.byte k)

-- so the pool backs all tokens
pub enough_out : (b : Build) (outs : ℕ → ℕ) → short_of b outs ≡ false → (k : ℕ) → in_hands k b.tokens ≤ outs k
enough_out b outs e k = ⊎_elim (λ some. enough_of b.tokens outs b.tokens e k some) (λ none. omega arith) (cases_lt 0 (in_hands k b.tokens))

-- what is so where a call is accepted
pub record Accepts (b : Build) (outs : ℕ → ℕ) (buffer : ℕ) : Type 0 where
  pub long : needed b.plan ≤ buffer
  pub live : (at b 0).state ≡ Running
  pub backed : (k : ℕ) → in_hands k b.tokens ≤ outs k

pub call_accepts : (b : Build) (outs : ℕ → ℕ) (buffer : ℕ) → None ≡ call_refusal b outs buffer → Accepts b outs buffer
call_accepts b outs buffer e = first (ltb buffer (needed b.plan)) refl (finished b) refl (short_of b outs) refl e
  where
    first : (s : Bool) → ltb buffer (needed b.plan) ≡ s → (f : Bool) → finished b ≡ f → (m : Bool) → short_of b outs ≡ m → ◌≡◌ {A = Option ℕ} None (cond s (Some 15) (cond f (Some 16) (cond m (Some 17) None))) → Accepts b outs buffer
    first true i f j m k e = let z : ◌≡◌ {A = ℕ} 0 1 = cc in absurd (omega arith)
    first false i true j m k e = let z : ◌≡◌ {A = ℕ} 0 1 = cc in absurd (omega arith)
    first false i false j true k e = let z : ◌≡◌ {A = ℕ} 0 1 = cc in absurd (omega arith)
    first false i false j false k e = record {
      long = ltb-false buffer (needed b.plan) i;
      live = running_state (at b 0).state (not-false (running b 0) j);
      backed = enough_out b outs k;
    }

-- a node that runs is one of the tree
pub runs_inside : (b : Build) (n : ℕ) → (at b n).state ≡ Running → n < length b.nodes
runs_inside b n is =
    ⊎_elim (λ within. within)
    (λ past.
    let none : ◌≡◌ {A = State} Waiting Running = sym (ap (λ (x : Progress). x.state) (get_or_past b.nodes n unbegun past)) ∙ is in
    let z : ◌≡◌ {A = ℕ} 0 1 = cc in absurd (omega arith))
    (cases_lt n (length b.nodes))

-- the job runs
pub record AcceptsJob (b : Build) (outs : ℕ → ℕ) (buffer n : ℕ) : Type 0 where
  pub call : Accepts b outs buffer
  pub runs : (at b n).state ≡ Running
  pub job : is_make b.plan n ≡ false

pub job_accepts : (b : Build) (outs : ℕ → ℕ) (buffer n : ℕ) → None ≡ job_refusal b outs buffer n → AcceptsJob b outs buffer n
job_accepts b outs buffer n e = split (call_refusal b outs buffer) refl (running b n && not (is_make b.plan n)) refl e
  where
    last : (t : Bool) → (running b n && not (is_make b.plan n)) ≡ t → None ≡ call_refusal b outs buffer → ◌≡◌ {A = Option ℕ} None (cond t None (Some 18)) → AcceptsJob b outs buffer n
    last true is none e =
        let parts = and_parts (running b n) (not (is_make b.plan n)) is in
        record { call = call_accepts b outs buffer none; runs = running_state (at b n).state parts.0; job = not-true (is_make b.plan n) parts.1 }
    last false is none e = let z : ◌≡◌ {A = ℕ} 0 1 = cc in absurd (omega arith)

    split : (o : Option ℕ) → call_refusal b outs buffer ≡ o → (t : Bool) → (running b n && not (is_make b.plan n)) ≡ t → None ≡ or_18 b n o → AcceptsJob b outs buffer n
    split None is t so e = last t so (sym is) (e ∙ ap (λ u. cond u None (Some 18)) so)
    split (Some x) is t so e = let z : ◌≡◌ {A = ℕ} 0 1 = cc in absurd (omega arith)

-- the whole call
pub called : {P : Type 0} (w : Ways P) (c : Request) (x y : Point P) (n : ℕ) → None ≡ refusal_of c x.status.build (w.means x.pool).outs (length x.buffer) → Ends w (run_of c) x y → n ≡ answer y.status.build → Called w c x.status x.pool x.buffer (Ok n) y.status y.pool y.buffer
called w c x y n none ends jobs = (sym none, ran w (run_of c) x y ends, jobs)
