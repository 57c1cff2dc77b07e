-- The parts that a byte cuts.
use Rattle.std.proofs.Common.{◌≡◌, ℕ, suc, ◌+◌, ◌<◌, ◌≤◌, true, false, cond, eqb, List, [], ◌∷◌, length, take, drop, refl, ap, ◌∙◌, add-one, arith}
use Rattle.lines.specs.Words.{before, parts, onto}

-- where b stands, the first part ends
pub parts_cut : (b : ℕ) (xs : List ℕ) → before b xs < length xs → parts b xs ≡ take (before b xs) xs ∷ parts b (drop (before b xs + 1) xs)
unfolding parts
parts_cut b [] h = absurd (omega arith)
parts_cut b (x ∷ xs) h =
    elim (eqb x b) as (λ t. cond t 0 (suc (before b xs)) < suc (length xs) → cond t ([] ∷ parts b xs) (onto x (parts b xs)) ≡ take (cond t 0 (suc (before b xs))) (x ∷ xs) ∷ parts b (drop (cond t 0 (suc (before b xs)) + 1) (x ∷ xs))) [
      | true ↦ λ _. refl
      | false ↦ λ lt. ap (onto x) (parts_cut b xs (omega arith)) ∙ rw (add-one (suc (before b xs)), add-one (before b xs))
    ] h

-- where b does not stand, there is one part
pub parts_one : (b : ℕ) (xs : List ℕ) → length xs ≤ before b xs → parts b xs ≡ xs ∷ []
unfolding parts
parts_one b [] h = refl
parts_one b (x ∷ xs) h =
    elim (eqb x b) as (λ t. suc (length xs) ≤ cond t 0 (suc (before b xs)) → cond t ([] ∷ parts b xs) (onto x (parts b xs)) ≡ (x ∷ xs) ∷ []) [
      | true ↦ λ le. absurd (omega arith)
      | false ↦ λ le. ap (onto x) (parts_one b xs (omega arith))
    ] h

-- there is always a part
pub some_parts : (b : ℕ) (xs : List ℕ) → (p : List ℕ) × (ps : List (List ℕ)) × (parts b xs ≡ p ∷ ps)
unfolding parts
some_parts b [] = ([], [], refl)
some_parts b (x ∷ xs) =
    let more = some_parts b xs in
    elim (eqb x b) as (λ t. (p : List ℕ) × (ps : List (List ℕ)) × (cond t ([] ∷ parts b xs) (onto x (parts b xs)) ≡ p ∷ ps))
    [ true ↦ ([], parts b xs, refl) | false ↦ (x ∷ more.0, more.1, ap (onto x) more.2) ]
