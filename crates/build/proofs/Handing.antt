-- Tokens in hand, from the one taken last on. Assumes nothing.
use Rattle.std.proofs.Common.{◌≡◌, ℕ, suc, ◌+◌, ◌-◌, ◌<◌, ◌≤◌, Bool, true, false, eqb, List, [], ◌∷◌, ◌++◌, map, reverse, length, get_or, take, drop, Some, None, Option, sym, refl, ap, ◌∙◌, arith}
use Rattle.pool.specs.Meaning.{count, only}
use Rattle.pool.proofs.Counts.{count_first}
use Rattle.rules.specs.Ending.{goes_back, keep_held}
use Rattle.rules.specs.Lists.{if_so, those, put_if}
use Rattle.rules.specs.Builds.{Build, Held, tokens_of}
use Rattle.std.proofs.lemmas.List.{take_more, drop_more, drop_all, reverse-append, get_or-map, get_or-drop, get_or-reverse, length-map, length-drop, length-reverse, map_push, append_assoc, append-nil, take-append-drop}
use Rattle.std.specs.List.{AllWithin, HoldsAt}
use Rattle.std.proofs.lemmas.Bool.{eq-eqb, ne_eqb}
use Rattle.std.proofs.lemmas.Bool.Decides.{nat_tests}
use Rattle.build.specs.Hands.{in_hands, own_bytes, LastOf}
use Rattle.build.specs.Models.{held}
use Rattle.build.specs.declared.tokens.Token.{Token}

module _ {A : Type 0} (xs : List A) (i : ℕ) (x : A) (some : 0 < i) (within : i ≤ length xs) (read : x ≡ get_or xs (i - 1) x) where
  before : i - 1 + 1 ≡ i
  before = omega arith

  -- the last of a front
  pub last_first : reverse (take i xs) ≡ x ∷ reverse (take (i - 1) xs)
  last_first =
      ap (λ n. reverse (take n xs)) (sym before) ∙ ap reverse (take_more xs (i - 1) x (omega arith)) ∙ reverse-append (take (i - 1) xs) (get_or xs (i - 1) x ∷ [])
      ∙ ap (λ y. y ∷ reverse (take (i - 1) xs)) (sym read)

-- how many tokens of a byte: of none, and with one more
pub in_hands_none : (k : ℕ) → in_hands k [] ≡ 0
unfolding count
in_hands_none k = refl

pub in_hands_more : (k : ℕ) (h : Held) (hs : List Held) → in_hands k (h ∷ hs) ≡ in_hands k hs + only h.byte 1 k
in_hands_more k h hs = count_first k h.byte (map (λ x. x.byte) hs)

pub in_hands_on : (k : ℕ) (h : Held) (hs : List Held) → (h.byte ≡ k → ⊥) → in_hands k (h ∷ hs) ≡ in_hands k hs
in_hands_on k h hs e = let more = in_hands_more k h hs in grind (arith, nat_tests)

-- tokens that are kept, before what is found behind them
pub kept : List Held → Option (ℕ × List Held) → Option (ℕ × List Held)
kept [] found = found
kept (h ∷ hs) found = keep_held h (kept hs found)

pub kept_none : (hs : List Held) → kept hs None ≡ None
unfolding kept
kept_none [] = refl
kept_none (x ∷ hs) = ap (keep_held x) (kept_none hs)

pub kept_some : (hs : List Held) (b : ℕ) (rest : List Held) → kept hs (Some (b, rest)) ≡ Some (b, hs ++ rest)
unfolding kept
kept_some [] b rest = refl
kept_some (x ∷ hs) b rest = ap (keep_held x) (kept_some hs b rest)

-- none of these is the make's
abbrev NoneOf : ℕ → List Held → Type 0
NoneOf m hs = (k : ℕ) (d : Held) → k < length hs → (get_or hs k d).by ≡ m → ⊥

passed_by : (m : ℕ) (hs : List Held) → NoneOf m hs → (back : List Held) → goes_back m (hs ++ back) ≡ kept hs (goes_back m back)
unfolding kept
passed_by m [] none back = refl
passed_by m (h ∷ hs) none back =
    ap (λ t. if_so t (λ _. Some (h.byte, hs ++ back)) (λ _. keep_held h (goes_back m (hs ++ back)))) (ne_eqb h.by m (none 0 h (omega arith)))
    ∙ ap (keep_held h) (passed_by m hs (λ k d inside. none (suc k) d (omega arith)) back)

-- the tokens behind a place, from the last one on
none_behind : (m : ℕ) (ts : List Token) (low : ℕ) → AllWithin (λ (t : Token). t.by ≡ m → ⊥) ts low (length ts) → NoneOf m (reverse (drop low (map held ts)))
none_behind m ts low none k d inside own =
    let zs = map held ts in
    let rest = drop low zs in
    let long = length-map ts held in
    let less : k < length rest = omega (arith, length-reverse rest) in
    let short = length-drop low zs in
    let at : ℕ = low + (length rest - 1 - k) in
    let within : at < length ts = omega arith in
    let t : Token = record { by = d.by; byte = d.byte } in
    none at t (omega arith) within
    (ap (λ h. h.by) (sym (get_or-map held ts at t d within) ∙ sym (get_or-drop low zs (length rest - 1 - k) d) ∙ sym (get_or-reverse rest k d less)) ∙ own)

pub last_none : (m : ℕ) (ts : List Token) → AllWithin (λ (t : Token). t.by ≡ m → ⊥) ts 0 (length ts) → goes_back m (reverse (map held ts)) ≡ None
last_none m ts none =
    let hs = reverse (map held ts) in
    ap (goes_back m) (sym (append-nil hs)) ∙ passed_by m hs (none_behind m ts 0 none) [] ∙ kept_none hs

pub last_some : (m : ℕ) (ts : List Token) (i : ℕ) → i < length ts → HoldsAt (λ (t : Token). t.by ≡ m) ts i → AllWithin (λ (t : Token). t.by ≡ m → ⊥) ts (i + 1) (length ts) → LastOf m (map held ts) (Some i)
last_some m ts i inside own none = (
  omega (arith, length-map ts held),
  λ x read.
      let zs = map held ts in
      let back = reverse (take i zs) in
      let behind = reverse (drop (i + 1) zs) in
      let long = length-map ts held in
      let low : i + 1 - 1 ≡ i = omega arith in
      let t : Token = record { by = x.by; byte = x.byte } in
      let mine : x.by ≡ m = ap (λ h. h.by) (read ∙ get_or-map held ts i t x inside) ∙ own t in
      let split : reverse zs ≡ behind ++ x ∷ back =
      ap reverse (sym (take-append-drop (i + 1) zs)) ∙ reverse-append (take (i + 1) zs) (drop (i + 1) zs)
      ∙ ap (λ l. behind ++ l) (last_first zs (i + 1) x (omega arith) (omega arith) (read ∙ ap (λ j. get_or zs j x) (sym low)) ∙ ap (λ j. x ∷ reverse (take j zs)) low) in
      ap (goes_back m) split ∙ passed_by m behind (none_behind m ts (i + 1) none) (x ∷ back)
      ∙ ap (λ b. kept behind (if_so b (λ _. Some (x.byte, back)) (λ _. keep_held x (goes_back m back)))) (eq-eqb x.by m mine) ∙ kept_some behind x.byte back,
)

-- those that pass a test, in a list turned round
pub those_append : {A : Type 0} (p : A → Bool) (xs ys : List A) → those p (xs ++ ys) ≡ those p xs ++ those p ys
those_append p [] ys = refl
those_append p (x ∷ xs) ys = put (p x) (those_append p xs ys)
  where
    put : (t : Bool) → those p (xs ++ ys) ≡ those p xs ++ those p ys → put_if t x (those p (xs ++ ys)) ≡ put_if t x (those p xs) ++ those p ys
    put true e = ap (λ l. x ∷ l) e
    put false e = e

-- those that pass a test are no more; so a make holds no more tokens than all makes
those_few : {A : Type 0} (p : A → Bool) (xs : List A) → length (those p xs) ≤ length xs
those_few p [] = omega arith
those_few p (x ∷ xs) = put (p x) (those_few p xs)
  where
    put : (t : Bool) → length (those p xs) ≤ length xs → length (put_if t x (those p xs)) ≤ suc (length xs)
    put true h = omega arith
    put false h = omega arith

pub tokens_few : (b : Build) (m : ℕ) → length (tokens_of b m) ≤ length b.tokens
tokens_few b m =
    let own = those (λ h. eqb h.by m) b.tokens in
    omega (arith, length-reverse (map (λ h. h.byte) own), length-map own (λ h. h.byte), those_few (λ h. eqb h.by m) b.tokens)

turned_those : {A : Type 0} (p : A → Bool) (xs : List A) → reverse (those p (reverse xs)) ≡ those p xs
turned_those p [] = refl
turned_those p (x ∷ xs) =
    ap (λ l. reverse (those p l)) (reverse-append (x ∷ []) xs) ∙ ap reverse (those_append p (reverse xs) (x ∷ []))
    ∙ reverse-append (those p (reverse xs)) (those p (x ∷ [])) ∙ ap (λ l. reverse (those p (x ∷ [])) ++ l) (turned_those p xs) ∙ put (p x)
  where
    put : (t : Bool) → reverse (put_if t x []) ++ those p xs ≡ put_if t x (those p xs)
    put true = refl
    put false = refl

map_turned : {A B : Type 0} (f : A → B) (xs : List A) → reverse (map f xs) ≡ map f (reverse xs)
map_turned f [] = refl
map_turned f (x ∷ xs) =
    reverse-append (f x ∷ []) (map f xs) ∙ ap (λ l. l ++ f x ∷ []) (map_turned f xs) ∙ sym (map_push f (reverse xs) x) ∙ ap (map f) (sym (reverse-append (x ∷ []) xs))

-- the bytes of a make from the oldest token on
pub oldest_bytes : ℕ → List Held → List ℕ
oldest_bytes m xs = map (λ h. h.byte) (those (λ h. eqb h.by m) xs)

pub own_oldest : (m : ℕ) (xs : List Held) → own_bytes m (reverse xs) ≡ oldest_bytes m xs
unfolding oldest_bytes
own_oldest m xs =
    map_turned (λ h. h.byte) (those (λ h. eqb h.by m) (reverse xs)) ∙ ap (map (λ h. h.byte)) (turned_those (λ h. eqb h.by m) xs)

-- so far these are added, with the tokens from place i on still to be looked at
pub record Adding (m : ℕ) (xs : List Held) (old : List ℕ) (i : ℕ) (bytes : List ℕ) : Type 0 where
  pub left : bytes ++ oldest_bytes m (drop i xs) ≡ old ++ own_bytes m (reverse xs)

pub adding_none : (m : ℕ) (xs : List Held) (old : List ℕ) → Adding m xs old 0 old
adding_none m xs old = record { left = ap (λ l. old ++ l) (sym (own_oldest m xs)) }

module _ {m : ℕ} {xs : List Held} {old : List ℕ} {i : ℕ} {bytes : List ℕ} (so : Adding m xs old i bytes) (x : Held) (within : i < length xs) (read : x ≡ get_or xs i x) where
  next : drop i xs ≡ x ∷ drop (i + 1) xs
  next = drop_more xs i x within ∙ ap (λ y. y ∷ drop (i + 1) xs) (sym read)

  pub adding_one : x.by ≡ m → (more : List ℕ) → more ≡ bytes ++ x.byte ∷ [] → Adding m xs old (i + 1) more
  unfolding oldest_bytes
  adding_one own more e =
      let found : oldest_bytes m (drop i xs) ≡ x.byte ∷ oldest_bytes m (drop (i + 1) xs) = ap (oldest_bytes m) next ∙ ap (λ t. map (λ h. h.byte) (put_if t x (those (λ h. eqb h.by m) (drop (i + 1) xs)))) (eq-eqb x.by m own) in
      record {
        left =
            ap (λ l. l ++ oldest_bytes m (drop (i + 1) xs)) e
            ∙ append_assoc bytes (x.byte ∷ []) (oldest_bytes m (drop (i + 1) xs))
            ∙ ap (λ l. bytes ++ l) (sym found) ∙ so.left;
      }

  pub adding_on : (x.by ≡ m → ⊥) → Adding m xs old (i + 1) bytes
  unfolding oldest_bytes
  adding_on other =
      let none : oldest_bytes m (drop i xs) ≡ oldest_bytes m (drop (i + 1) xs) = ap (oldest_bytes m) next ∙ ap (λ t. map (λ h. h.byte) (put_if t x (those (λ h. eqb h.by m) (drop (i + 1) xs)))) (ne_eqb x.by m other) in
      record { left = ap (λ l. bytes ++ l) (sym none) ∙ so.left }

pub adding_all : (m : ℕ) (xs : List Held) (old : List ℕ) (i : ℕ) (bytes : List ℕ) → Adding m xs old i bytes → length xs ≤ i → bytes ≡ old ++ own_bytes m (reverse xs)
unfolding oldest_bytes
adding_all m xs old i bytes so past = sym (append-nil bytes) ∙ ap (λ l. bytes ++ oldest_bytes m l) (sym (drop_all i xs past)) ∙ so.left
