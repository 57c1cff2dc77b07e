-- Tokens and losses, as the rules have them. Assumes nothing.
use Rattle.std.proofs.Common.{Iter, ◌≡◌, ℕ, suc, ◌-◌, ◌<◌, ◌≤◌, min, eqb, List, [], ◌∷◌, ◌++◌, map, reverse, length, get_or, take, drop, Some, None, Option, sym, refl, ap, ◌∙◌, ⊎_elim, arith}
use Rattle.std.proofs.Math.Seq.{drop-append_seam, take-append_seam}
use Rattle.std.proofs.lemmas.Bool.{cases_lt, eq-eqb, ne_eqb}
use Rattle.std.proofs.lemmas.Iterator.Adapters.{YieldsList-from_rev_slice}
use Rattle.std.proofs.lemmas.Iterator.Consumers.{YieldsList-turn, YieldsList-end}
use Rattle.std.proofs.lemmas.List.{drop_all, take_all, take-take, get_or-map, get_or-reverse, length-map, length-reverse, length-take, reverse-append}
use Rattle.std.specs.Iterator.{Yields}
use Rattle.std.specs.Iterator.Adapters.{rev_source, rev_steps}
use Rattle.std.specs.Slice.Iter.{iter_rest, iter_steps_back}
use Rattle.std.specs.declared.iter.Rev.{Rev}
use denote.Ref.{Bor}
use Rattle.rules.specs.Faults.{tokens_at}
use Rattle.rules.specs.Lists.{if_so}
use Rattle.build.specs.Lost.{losses_by, noted_losses}
use Rattle.build.specs.Models.{held, in_hand}
use Rattle.build.specs.declared.losses.Loss.{Loss as Mark}
use Rattle.build.specs.declared.losses.Losses.{Losses}
use Rattle.build.specs.declared.tokens.Token.{Token}
use Rattle.build.specs.declared.tokens.Tokens.{Tokens}
use Rattle.build.proofs.Handing.{last_first}

-- the token x stands at place i, also as the rules have them
pub record Stands (ts : List Token) (i : ℕ) (x : Token) : Type 0 where
  pub within : i < length (map held ts)
  pub is : held x ≡ get_or (map held ts) i (held x)

pub stands : (ts : List Token) (i : ℕ) (x : Token) → i < length ts → x ≡ get_or ts i x → Stands ts i x
stands ts i x within e = record { within = omega (arith, length-map ts held); is = ap held e ∙ sym (get_or-map held ts i x (held x) within) }

-- as many tokens are in hand as are kept
pub length_hand : (t : Tokens) → length (in_hand t) ≡ length t.held.items
length_hand t = length-reverse (map held t.held.items) ∙ length-map t.held.items held

length_losses : (ms : List Mark) (bytes : List ℕ) → length (losses_by ms bytes) ≡ length ms
length_losses [] bytes = refl
length_losses (m ∷ ms) bytes = ap suc (length_losses ms (take m.from bytes))

-- and as many losses as jobs are noted
pub noted_long : (s : Losses) → length (noted_losses s) ≡ length s.jobs.items
noted_long s = length_losses (reverse s.jobs.items) s.bytes.items ∙ length-reverse s.jobs.items

-- one loss more, with its tokens behind all others
pub noted_more : (ms : List Mark) (bytes more : List ℕ) (job : ℕ) → losses_by (reverse (ms ++ record { job = job; from = length bytes } ∷ [])) (bytes ++ more) ≡ record { job = job; tokens = more } ∷ losses_by (reverse ms) bytes
noted_more ms bytes more job =
    let mark : Mark = record { job = job; from = length bytes } in
    ap (λ l. losses_by l (bytes ++ more)) (reverse-append ms (mark ∷ []))
    ∙ (λ i. record { job = job; tokens = drop-append_seam bytes more i } ∷ losses_by (reverse ms) (take-append_seam bytes more i))

-- a part up to some place
part_from : (bytes : List ℕ) (from end : ℕ) → drop (min from end) (take end bytes) ≡ drop from (take end bytes)
part_from bytes from end =
    ⊎_elim
    (λ less. let same : min from end ≡ from = omega arith in ap (λ n. drop n (take end bytes)) same)
    (λ past.
    let same : min from end ≡ end = omega arith in
    let short : length (take end bytes) ≤ end = omega (arith, length-take end bytes) in
    ap (λ n. drop n (take end bytes)) same ∙ drop_all end (take end bytes) short ∙ sym (drop_all from (take end bytes) (omega arith)))
    (cases_lt from end)

take_least : {A : Type 0} (xs : List A) (m n : ℕ) → take m (take n xs) ≡ take (min m n) xs
take_least xs m n =
    ⊎_elim
    (λ less. let same : min m n ≡ m = omega arith in take-take m n xs (omega arith) ∙ ap (λ k. take k xs) (sym same))
    (λ past.
    let same : min m n ≡ n = omega arith in
    let short : length (take n xs) ≤ n = omega (arith, length-take n xs) in
    take_all m (take n xs) (omega arith) ∙ ap (λ k. take k xs) (sym same))
    (cases_lt m n)

-- of the first i losses, up to some byte, the tokens of job n are those of all losses
pub record Left (n : ℕ) (ms : List Mark) (bytes : List ℕ) (i end : ℕ) : Type 0 where
  pub same : tokens_at n (losses_by (reverse (take i ms)) (take end bytes)) ≡ tokens_at n (losses_by (reverse ms) bytes)

module _ (n : ℕ) (ms : List Mark) (bytes : List ℕ) (i end : ℕ) (x : Mark) (some : 0 < i) (within : i ≤ length ms) (read : x ≡ get_or ms (i - 1) x) (left : Left n ms bytes i end) where
  first : tokens_at n (losses_by (reverse (take i ms)) (take end bytes)) ≡ if_so (eqb x.job n) (λ _. drop x.from (take end bytes)) (λ _. tokens_at n (losses_by (reverse (take (i - 1) ms)) (take x.from (take end bytes))))
  first = ap (λ l. tokens_at n (losses_by l (take end bytes))) (last_first ms i x some within read)

  pub left_found : x.job ≡ n → drop (min x.from end) (take end bytes) ≡ tokens_at n (losses_by (reverse ms) bytes)
  left_found own =
      part_from bytes x.from end
      ∙ sym (ap (λ t. if_so t (λ _. drop x.from (take end bytes)) (λ _. tokens_at n (losses_by (reverse (take (i - 1) ms)) (take x.from (take end bytes))))) (eq-eqb x.job n own))
      ∙ sym first ∙ left.same

  pub left_on : (x.job ≡ n → ⊥) → Left n ms bytes (i - 1) (min x.from end)
  left_on other = record {
    same =
        ap (λ l. tokens_at n (losses_by (reverse (take (i - 1) ms)) l)) (sym (take_least bytes x.from end))
        ∙ sym (ap (λ t. if_so t (λ _. drop x.from (take end bytes)) (λ _. tokens_at n (losses_by (reverse (take (i - 1) ms)) (take x.from (take end bytes))))) (ne_eqb x.job n other))
        ∙ sym first ∙ left.same;
  }

pub left_all : (n : ℕ) (ms : List Mark) (bytes : List ℕ) (i end : ℕ) → take i ms ≡ ms → take end bytes ≡ bytes → Left n ms bytes i end
left_all n ms bytes i end all whole = record { same = λ j. tokens_at n (losses_by (reverse (all j)) (whole j)) }

pub left_none : (n : ℕ) (ms : List Mark) (bytes : List ℕ) (i end : ℕ) → i ≡ 0 → Left n ms bytes i end → [] ≡ tokens_at n (losses_by (reverse ms) bytes)
left_none n ms bytes i end none left = ap (λ k. tokens_at n (losses_by (reverse (take k ms)) (take end bytes))) (sym none) ∙ left.same

-- the losses, one after the other from the last one on: the next one, and the end
module _ (from : Rev (Iter Mark)) (ms : List Mark) (begins : iter_rest (rev_source from) ≡ ms) (seen : List (Bor Mark)) (it : Rev (Iter Mark)) (went : Yields (rev_steps iter_steps_back) from seen it) where
  pub next_back : (r : Option (Bor Mark)) (u : Rev (Iter Mark)) (x : Bor Mark) → r ≡ Some x → rev_steps iter_steps_back it r u → (length seen < length ms) × (x.now ≡ get_or ms (length ms - length seen - 1) x.now)
  next_back r u x is step =
      let turn = YieldsList-turn (YieldsList-from_rev_slice ms begins) seen it went r u x is step in
      let long = length-reverse ms in
      let less : length seen < length ms = omega (arith, turn.0) in
      let place : length ms - 1 - length seen ≡ length ms - length seen - 1 = omega arith in
      (less, turn.1 ∙ get_or-reverse ms (length seen) x.now less ∙ ap (λ k. get_or ms k x.now) place)

  pub none_left : (r : Option (Bor Mark)) (u : Rev (Iter Mark)) → r ≡ None → rev_steps iter_steps_back it r u → length ms - length seen ≡ 0
  none_left r u is step = let end = YieldsList-end (YieldsList-from_rev_slice ms begins) seen it went r u is step in omega (arith, end.1, length-reverse ms)
