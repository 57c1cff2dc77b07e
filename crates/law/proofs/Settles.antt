-- Settling keeps the shape of the build, and leaves no live make idle. Assumes nothing.
use Rattle.std.proofs.Common.{◌≡◌, ℕ, zero, suc, ◌+◌, ◌-◌, ◌<◌, ◌≤◌, Bool, true, false, eqb, ◌⊎◌, None, sym, refl, ap, ◌∙◌, subst, inl, inr, ⊎_elim, arith}
use Rattle.law.proofs.Bridges.{running_some, running_none}
use Rattle.law.proofs.Ends.{Shaped}
use Rattle.law.proofs.Moves.{Moves, still, in_slot, with_token, no_more}
use Rattle.law.proofs.Running.{one_true, one_false, run_wait}
use Rattle.law.proofs.Shapes.{shape_start}
use Rattle.law.proofs.Views.{turned, turned_there}
use Rattle.law.specs.Counts.{one_if}
use Rattle.law.specs.Sound.{children_running, BelowTop}
use Rattle.rules.specs.Builds.{Build, is_running, running, waiting, has_running}
use Rattle.rules.specs.Lists.{numbers, those, put_if}
use Rattle.rules.specs.Settled.{Settles, SlotsUsed, NothingStarts, slot, token, no_token, nothing}
use Rattle.rules.specs.Settling.{Store, Run, start_in_slot, start_with_token, settle}
use Rattle.rules.specs.Settling.{Start}
use Rattle.rules.specs.Words.{Each, Startable, Make}
use Rattle.rules.specs.declared.progress.State.TheVariants.{Running}
use Rattle.rules.proofs.Starts.{each_at, settles}
use Rattle.std.proofs.lemmas.Bool.{cases_Bool, eqb-true}

-- those that pass, among the numbers from k on, lie within bounds and pass
each_among : (q : ℕ → Bool) (lo hi k n : ℕ) → lo ≤ k → k + n ≤ hi → Each (λ i. (lo ≤ i) × (i < hi) × (q i ≡ true)) (those q (numbers k n))
each_among q lo hi k zero from to = tt
each_among q lo hi k (suc n) from to = put (q k) refl (each_among q lo hi (k + 1) n (omega arith) (omega arith))
  where
    put : (t : Bool) → q k ≡ t → Each (λ i. (lo ≤ i) × (i < hi) × (q i ≡ true)) (those q (numbers (k + 1) n)) → Each (λ i. (lo ≤ i) × (i < hi) × (q i ≡ true)) (put_if t k (those q (numbers (k + 1) n)))
    put true is rest = ((from, omega arith, is), rest)
    put false is rest = rest

-- a child that may start is a child of its make
pub startable_child : (b : Build) (m c : ℕ) → Startable b m c → BelowTop b.plan c × (b.plan.make c ≡ m)
startable_child b m c s =
    let P : ℕ → Type 0 = λ i. (1 ≤ i) × (i < 1 + (b.plan.nodes - 1)) × (eqb (b.plan.make i) m ≡ true) in
    let at_c = each_at P s.before c s.after (subst (Each P) s.child (each_among (λ k. eqb (b.plan.make k) m) 1 (1 + (b.plan.nodes - 1)) 1 (b.plan.nodes - 1) (omega arith) (omega arith))) in
    ((omega (arith, at_c.0), omega (arith, at_c.0, at_c.1)), eqb-true (b.plan.make c) m at_c.2)

module _ {P : Type 0} (store : Store P) where
  -- it ended since no token came, or since nothing may start
  abbrev pub Stands : Run P → Type 0
  Stands r = ((p : P) × (store.take p ≡ (None, r.pool))) ⊎ NothingStarts r.build

  pub record Rested (r r' : Run P) : Type 0 where
    pub shape : Shaped false r'.build.plan.nodes r'.build
    pub moves : Moves store r r'
    pub plan : r'.build.plan ≡ r.build.plan
    pub used : SlotsUsed r'.build
    pub stands : Stands r'
    pub stay : (j : ℕ) → running r.build j ≡ true → running r'.build j ≡ true

  -- a start keeps the shape
  module _ (r : Run P) (s : Start) (sh : Shaped false r.build.plan.nodes r.build) (st : Startable r.build s.make s.child) where
    below : BelowTop r.build.plan s.child
    below = (startable_child r.build s.make s.child st).0

    its : r.build.plan.make s.child ≡ s.make
    its = (startable_child r.build s.make s.child st).1

    live : running r.build (r.build.plan.make s.child) ≡ true
    live = ap (running r.build) its ∙ st.live

    pub slot_shape : has_running r.build s.make ≡ false → Shaped false r.build.plan.nodes (start_in_slot s r).build
    slot_shape idle =
        shape_start sh s.child below live st.unbegun r.build.tokens
        (λ j. let none = running_none r.build s.make idle in
        ⊎_elim
        (λ so. let eq : s.make ≡ j = sym its ∙ eqb-true _ j so in omega (arith, sh.paid j, one_true _ so, none, ap (children_running r.build.plan r.build.nodes) eq))
        (λ other. omega (arith, sh.paid j, one_false _ other))
        (cases_Bool (eqb (r.build.plan.make s.child) j)))

    pub token_shape : SlotsUsed r.build → Make r.build.plan s.make → (byte : ℕ) (p : P) → Shaped false r.build.plan.nodes (start_with_token s byte p r).build
    token_shape used make byte p =
        let on : has_running r.build s.make ≡ true = ⊎_elim (λ t. t) (λ idle. absurd (used s.make s.child make idle st)) (cases_Bool (has_running r.build s.make)) in
        let some = running_some r.build s.make on in
        shape_start sh s.child below live st.unbegun _
        (λ j. let same : one_if (eqb s.make j) ≡ one_if (eqb (r.build.plan.make s.child) j) = ap (λ m. one_if (eqb m j)) (sym its) in
        ⊎_elim
        (λ so. let eq : s.make ≡ j = sym its ∙ eqb-true _ j so in omega (arith, sh.paid j, one_true _ so, some, same, ap (children_running r.build.plan r.build.nodes) eq))
        (λ other. omega (arith, sh.paid j, one_false _ other, same))
        (cases_Bool (eqb (r.build.plan.make s.child) j)))

    -- what runs goes on
    pub start_stays : (j : ℕ) → running r.build j ≡ true → running (start_in_slot s r).build j ≡ true
    start_stays j on =
        let v = turned r.build.nodes s.child Running (omega (arith, below.1, sh.whole)) in
        ap is_running (turned_there v j (λ same. run_wait _ on (ap (waiting r.build) same ∙ st.unbegun))) ∙ on

  pub rested : {r r' : Run P} → Settles store r r' → Shaped false r.build.plan.nodes r.build → Rested r r'
  rested {r} (slot s i rest) sh =
      let next = rested rest (slot_shape r s sh i.child i.idle) in
      record {
        shape = next.shape;
        moves = in_slot s i next.moves;
        plan = next.plan;
        used = next.used;
        stands = next.stands;
        stay = λ j on. next.stay j (start_stays r s sh i.child j on);
      }
  rested {r} (token s byte p used w e rest) sh =
      let next = rested rest (token_shape r s sh w.child used w.make byte p) in
      record {
        shape = next.shape;
        moves = with_token s byte p w e next.moves;
        plan = next.plan;
        used = next.used;
        stands = next.stands;
        stay = λ j on. next.stay j (start_stays r s sh w.child j on);
      }
  rested {r} (no_token s p used w e) sh = record {
    shape = sh;
    moves = no_more p e still;
    plan = refl;
    used = used;
    stands = inl (r.pool, e);
    stay = λ j on. on;
  }
  rested {r} (nothing none) sh = record {
    shape = sh;
    moves = still;
    plan = refl;
    used = λ m c make idle st. none m c make st;
    stands = inr none;
    stay = λ j on. on;
  }

  pub settle_rests : (r : Run P) → Shaped false r.build.plan.nodes r.build → Rested r (settle store r)
  settle_rests r sh = rested (settles store r sh.whole) sh
