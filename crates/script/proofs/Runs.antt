-- Forms one after the other.
use Rattle.std.proofs.Common.{◌≡◌, ℕ, Bool, List, [], ◌∷◌, ◌++◌, Ok, Err, Result, sym, refl, ◌∙◌}
use Rattle.lines.specs.declared.forms.Form.{Form}
use Rattle.tree.specs.declared.node.Node.{Node}
use Rattle.tree.specs.Growth.{Growth}
use Rattle.script.specs.Reading.{then, grow}

-- what forms do, one after the other
abbrev pub run : Growth → List Form → Result Growth ℕ
run g [] = Ok g
run g (f ∷ fs) = then (grow f g) (λ h. run h fs)

abbrev pub state : List Node → ℕ → List ℕ → Bool → Growth
state ns m o w = record { nodes = ns; make = m; outer = o; wait = w }

then_then : {X Y Z E : Type 0} (r : Result X E) (f : X → Result Y E) (k : Y → Result Z E) → then (then r f) k ≡ then r (λ x. then (f x) k)
then_then (Ok x) f k = refl
then_then (Err e) f k = refl

then_same : {X Y E : Type 0} (r : Result X E) (f k : X → Result Y E) → ((x : X) → f x ≡ k x) → then r f ≡ then r k
then_same (Ok x) f k h = h x
then_same (Err e) f k h = refl

pub run_append : (xs ys : List Form) (g : Growth) → run g (xs ++ ys) ≡ then (run g xs) (λ h. run h ys)
run_append [] ys g = refl
run_append (x ∷ xs) ys g =
    then_same (grow x g) (λ h. run h (xs ++ ys)) (λ h. then (run h xs) (λ k. run k ys)) (λ h. run_append xs ys h) ∙
    sym (then_then (grow x g) (λ h. run h xs) (λ k. run k ys))
