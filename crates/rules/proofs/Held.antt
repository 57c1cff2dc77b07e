-- What holds of a run through one of two ways, and through settling. Assumes nothing.
use Rattle.std.proofs.Common.{◌≡◌, ℕ, zero, suc, Bool, true, false, Some, None, Option, refl}
use Rattle.rules.specs.Lists.{if_so}
use Rattle.rules.specs.Settling.{Store, Run, Start, next_in_slot, next_with_token, start_in_slot, start_with_token, taken, try_token, try_slot, settle_by, settle}

-- one of two ways
pub if_holds : {A : Type 0} (Q : A → Type 0) (t : Bool) (x y : Unit {0} → A) → (t ≡ true → Q (x tt)) → (t ≡ false → Q (y tt)) → Q (if_so t x y)
if_holds Q true x y f g = f refl
if_holds Q false x y f g = g refl

-- what holds before and after every start holds when the build has settled
module _ {P : Type 0} (store : Store P) (Q : Run P → Type 0) (on_slot : (s : Start) (r : Run P) → Q r → Q (start_in_slot s r)) (on_token : (s : Start) (b : ℕ) (p : P) (r : Run P) → Q r → Q (start_with_token s b p r)) (on-pool : (p : P) (r : Run P) → Q r → Q (record { build = r.build; pool = p; records = r.records })) where
  held_taken : (s : Start) (o : Option ℕ) (p : P) (r : Run P) (onward : Run P → Run P) → ((q : Run P) → Q q → Q (onward q)) → Q r → Q (taken s o p r onward)
  held_taken s None p r onward k h = on-pool p r h
  held_taken s (Some b) p r onward k h = k (start_with_token s b p r) (on_token s b p r h)

  held_token : (o : Option Start) (r : Run P) (onward : Run P → Run P) → ((q : Run P) → Q q → Q (onward q)) → Q r → Q (try_token store o r onward)
  held_token None r onward k h = h
  held_token (Some s) r onward k h = held_taken s (store.take r.pool).0 (store.take r.pool).1 r onward k h

  held_slot : (o : Option Start) (r : Run P) (onward : Run P → Run P) → ((q : Run P) → Q q → Q (onward q)) → Q r → Q (try_slot store o r onward)
  held_slot (Some s) r onward k h = k (start_in_slot s r) (on_slot s r h)
  held_slot None r onward k h = held_token (next_with_token r.build) r onward k h

  held_by : (n : ℕ) (r : Run P) → Q r → Q (settle_by store n r)
  held_by zero r h = h
  held_by (suc n) r h = held_slot (next_in_slot r.build) r (settle_by store n) (held_by n) h

  pub settle_holds : (r : Run P) → Q r → Q (settle store r)
  settle_holds r h = held_by r.build.plan.nodes r h
