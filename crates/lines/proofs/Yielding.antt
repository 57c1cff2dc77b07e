-- Words as the iterators of std give them.
use Rattle.std.proofs.Common.{◌≡◌, ℕ, suc, ◌+◌, ◌-◌, ◌<◌, get_or, Bool, true, false, cond, not, ◌&&◌, eqb, List, [], ◌∷◌, ◌++◌, length, sym, refl, ap, ◌∙◌, arith}
use Rattle.std.proofs.lemmas.List.{get_or_append_left, get_or-append_right, length-append}
use Rattle.std.proofs.lemmas.List.Splits.{slice_split_at, slice_split_none}
use Rattle.std.specs.Bool.{MatchBool}
use Rattle.std.specs.List.{IsFirstMatchOrLen, list_all, onto_first, prefix_len, slice_split}
use Rattle.lines.specs.Words.{before, indent, every, parts, onto}

pub before_len : (b : ℕ) (xs : List ℕ) → prefix_len (λ x. not (eqb x b)) xs ≡ before b xs
before_len b [] = refl
before_len b (x ∷ xs) =
    let more : 1 + prefix_len (λ x. not (eqb x b)) xs ≡ suc (before b xs) = omega (arith, before_len b xs) in
    elim (eqb x b) as (λ t. cond (not t) (1 + prefix_len (λ x. not (eqb x b)) xs) 0 ≡ cond t 0 (suc (before b xs)))
    [ true ↦ refl | false ↦ more ]

pub indent_len : (xs : List ℕ) → prefix_len (λ x. eqb x 32) xs ≡ indent xs
indent_len [] = refl
indent_len (x ∷ xs) = ap (λ n. cond (eqb x 32) n 0) (omega (arith, indent_len xs))

pub every_all : (f : ℕ → Bool) (xs : List ℕ) → list_all f xs ≡ every f xs
every_all f [] = refl
every_all f (x ∷ xs) = ap (λ t. f x && t) (every_all f xs)

onto_is : (x : ℕ) (ps : List (List ℕ)) → onto_first x ps ≡ onto x ps
onto_is x [] = refl
onto_is x (p ∷ ps) = refl

parts_split : (b : ℕ) (xs : List ℕ) → slice_split (λ x. eqb x b) xs ≡ parts b xs
unfolding parts
parts_split b [] = refl
parts_split b (x ∷ xs) =
    ap (λ ps. cond (eqb x b) ([] ∷ ps) (onto_first x ps)) (parts_split b xs) ∙ ap (λ ps. cond (eqb x b) ([] ∷ parts b xs) ps) (onto_is x (parts b xs))

-- a space
abbrev pub is_space : ℕ → Bool
is_space x = eqb x 32

-- the parts that are to come: none, or those of the rest
abbrev left : Bool → List ℕ → List (List ℕ)
left true rest = []
left false rest = slice_split is_space rest

-- the part that a call of `next` gave is the first
came : (xs front : List ℕ) (done : Bool) (back : List ℕ) → MatchBool done (xs ≡ front) ((y : ℕ) × (xs ≡ front ++ (y ∷ back))) → IsFirstMatchOrLen is_space xs (length front) → slice_split is_space xs ≡ front ∷ left done back
came xs front true back whole first =
    let none : (k : ℕ) (d : ℕ) → k < length xs → is_space (get_or xs k d) ≡ false = λ k d within. first.0 k d (omega arith) (omega (arith, ap length whole)) in
    slice_split_none is_space xs none ∙ ap (λ l. l ∷ []) whole
came xs front false back split first =
    let here : length front < length xs = omega (arith, ap length split.1, length-append front (split.0 ∷ back)) in
    let none : (k : ℕ) (d : ℕ) → k < length front → is_space (get_or front k d) ≡ false = λ k d within. ap is_space (sym (get_or_append_left front (split.0 ∷ back) d k within) ∙ ap (λ l. get_or l k d) (sym split.1)) ∙ first.0 k d (omega arith) within in
    let nought : length front - length front ≡ 0 = omega arith in
    let at : get_or xs (length front) 0 ≡ split.0 = ap (λ l. get_or l (length front) 0) split.1 ∙ get_or-append_right front (split.0 ∷ back) (length front) (length front) 0 refl (omega arith) ∙ ap (λ n. get_or (split.0 ∷ back) n 0) nought in
    let space : is_space split.0 ≡ true = ap is_space (sym at) ∙ first.1 here 0 in
    ap (slice_split is_space) split.1 ∙ slice_split_at is_space front split.0 back none space

-- so are those behind it, where one is to come or none
pub came_more : (xs front : List ℕ) (done : Bool) (back : List ℕ) → MatchBool done (xs ≡ front) ((y : ℕ) × (xs ≡ front ++ (y ∷ back))) → IsFirstMatchOrLen is_space xs (length front) → done ≡ false → parts 32 xs ≡ front ∷ parts 32 back
came_more xs front done back split first more =
    sym (parts_split 32 xs) ∙ came xs front done back split first ∙ ap (λ d. front ∷ left d back) more ∙ ap (λ l. front ∷ l) (parts_split 32 back)

pub came_last : (xs front : List ℕ) (done : Bool) (back : List ℕ) → MatchBool done (xs ≡ front) ((y : ℕ) × (xs ≡ front ++ (y ∷ back))) → IsFirstMatchOrLen is_space xs (length front) → done ≡ true → parts 32 xs ≡ front ∷ []
came_last xs front done back split first last =
    sym (parts_split 32 xs) ∙ came xs front done back split first ∙ ap (λ d. front ∷ left d back) last
