-- Small tools on lists and numbers. A continuation is passed as a function, so that it is run only where it is wanted.
use Rattle.std.specs.Prelude.{ℕ, zero, suc, ◌+◌, Bool, true, false, List, [], ◌∷◌, Some, None, Option}

-- n numbers from k on
abbrev pub numbers : ℕ → ℕ → List ℕ
numbers k zero = []
numbers k (suc n) = k ∷ numbers (k + 1) n

-- x in front, if it is wanted
abbrev pub put_if : {A : Type 0} → Bool → A → List A → List A
put_if true x xs = x ∷ xs
put_if false x xs = xs

-- those that pass the test, in their order
abbrev pub those : {A : Type 0} → (A → Bool) → List A → List A
those p [] = []
those p (x ∷ xs) = put_if (p x) x (those p xs)

-- this if it is there, else what comes
abbrev pub or_else : {A : Type 0} → Option A → (Unit {0} → Option A) → Option A
or_else None next = next tt
or_else (Some x) next = Some x

-- the first answer of f along the list
abbrev pub first_of : {A B : Type 0} → (A → Option B) → List A → Option B
first_of f [] = None
first_of f (x ∷ xs) = or_else (f x) (λ _. first_of f xs)

-- whether one passes the test
abbrev pub any : {A : Type 0} → (A → Bool) → List A → Bool
any p [] = false
any p (x ∷ xs) = either_way (p x) (λ _. any p xs)
  where
    either_way : Bool → (Unit {0} → Bool) → Bool
    either_way true next = true
    either_way false next = next tt

-- this answer if the test is passed, else none
abbrev pub when : {A : Type 0} → Bool → (Unit {0} → Option A) → Option A
when true answer = answer tt
when false answer = None

-- one of two ways
abbrev pub if_so : {A : Type 0} → Bool → (Unit {0} → A) → (Unit {0} → A) → A
if_so true then-way else-way = then-way tt
if_so false then-way else-way = else-way tt

-- whether there is an answer
abbrev pub is_some : {A : Type 0} → Option A → Bool
is_some None = false
is_some (Some x) = true
