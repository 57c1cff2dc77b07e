-- A table of nodes of which one entry changed. Assumes nothing.
use Rattle.std.proofs.Common.{◌≡◌, ℕ, ◌<◌, Bool, true, false, cond, eqb, List, length, get_or, set, sym, refl, ap, ◌∙◌, subst, ⊎_elim, length-set, get_or-set_other, get_or-set_same}
use Rattle.law.specs.Sound.{entry, state_of}
use Rattle.rules.specs.Builds.{unbegun, with_state}
use Rattle.rules.specs.Ending.{marked}
use Rattle.rules.specs.declared.progress.Progress.{Progress}
use Rattle.rules.specs.declared.progress.State.{State}
use Rattle.rules.proofs.Telling.{set_keeps}
use Rattle.std.proofs.lemmas.Bool.{cases_eq, eq-eqb, ne_eqb}

-- node c is now in this state; no other state and no count of steps changed
pub record Turned (c : ℕ) (s : State) (ns ms : List Progress) : Type 0 where
  pub long : length ms ≡ length ns
  pub states : (k : ℕ) → state_of ms k ≡ cond (eqb c k) s (state_of ns k)
  pub dones : (k : ℕ) → (entry ms k).done ≡ (entry ns k).done

-- what one new entry leaves
pub set_at : (ns : List Progress) (c : ℕ) (x : Progress) (k : ℕ) → c < length ns → get_or (set ns c x) k unbegun ≡ cond (eqb c k) x (get_or ns k unbegun)
set_at ns c x k within =
    ⊎_elim
    (λ same.
    subst (λ j. get_or (set ns c x) j unbegun ≡ cond (eqb c j) x (get_or ns j unbegun)) (sym same) (get_or-set_same ns c x unbegun within ∙ sym (ap (λ t. cond t x (get_or ns c unbegun)) (eq-eqb c c refl))))
    (λ apart. get_or-set_other ns c k x unbegun apart ∙ sym (ap (λ t. cond t x (get_or ns k unbegun)) (ne_eqb c k (λ e. apart (sym e)))))
    (cases_eq k c)

-- a field of what one new entry leaves
pub set_field : {B : Type 0} (f : Progress → B) (ns : List Progress) (c : ℕ) (x : Progress) (k : ℕ) → c < length ns → f (get_or (set ns c x) k unbegun) ≡ cond (eqb c k) (f x) (f (get_or ns k unbegun))
set_field f ns c x k within = ap f (set_at ns c x k within) ∙ through (eqb c k)
  where
    through : (t : Bool) → f (cond t x (get_or ns k unbegun)) ≡ cond t (f x) (f (get_or ns k unbegun))
    through true = refl
    through false = refl

-- the node alone
pub turned : (ns : List Progress) (c : ℕ) (s : State) → c < length ns → Turned c s ns (set ns c (with_state (entry ns c) s))
turned ns c s within = record {
  long = length-set ns c _;
  states = λ k. set_field (λ x. x.state) ns c (with_state (entry ns c) s) k within;
  dones = λ k. set_keeps (λ x. x.done) ns c (with_state (entry ns c) s) unbegun k refl;
}

-- the node, and then its make is marked
pub turned_marked : {c : ℕ} {s : State} {ns ms : List Progress} → Turned c s ns ms → (keep : Bool) (m : ℕ) → Turned c s ns (set ms m (marked keep c (entry ms m)))
turned_marked {c} {s} {ns} {ms} v keep m = record {
  long = length-set ms m _ ∙ v.long;
  states = λ k. set_keeps (λ x. x.state) ms m (marked keep c (entry ms m)) unbegun k refl ∙ v.states k;
  dones = λ k. set_keeps (λ x. x.done) ms m (marked keep c (entry ms m)) unbegun k refl ∙ v.dones k;
}

-- the state at the node itself and at any other
pub turned_here : {c : ℕ} {s : State} {ns ms : List Progress} → Turned c s ns ms → state_of ms c ≡ s
turned_here {c} {s} {ns} {ms} v = v.states c ∙ ap (λ t. cond t s (state_of ns c)) (eq-eqb c c refl)

pub turned_there : {c : ℕ} {s : State} {ns ms : List Progress} → Turned c s ns ms → (k : ℕ) → (k ≡ c → ⊥) → state_of ms k ≡ state_of ns k
turned_there {c} {s} {ns} {ms} v k apart = v.states k ∙ ap (λ t. cond t s (state_of ns k)) (ne_eqb c k (λ e. apart (sym e)))
