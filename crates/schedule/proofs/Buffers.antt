-- Writes into a buffer, one behind the other. Assumes nothing.
use Rattle.std.proofs.Common.{◌≡◌, ℕ, ◌+◌, ◌-◌, ◌≤◌, List, [], ◌++◌, length, take, drop, sym, refl, ap, ◌∙◌, append_assoc, add-zero, arith, length-append, length-drop}
use borrow.Rule.Slice.PartMut.{put_mid}
use Rattle.std.proofs.lemmas.List.{drop-drop, take-append-drop, length-take-le, take_at, drop_at}
use Rattle.std.proofs.lemmas.Slice.{between_is}
use Rattle.std.specs.List.{between}
use Rattle.schedule.specs.Buffers.{Wrote}

-- a write to the part of a buffer between two places
pub wrote_part : (old : List ℕ) (from to : ℕ) (added part : List ℕ) → part ≡ added → to ≡ from + length added → to ≤ length old → Wrote old from added (put_mid from (to - from) old part) to
wrote_part old from to added part e end room = record {
  end = end;
  room = room;
  after = let n : to - from ≡ length added = omega arith in rw (e, n, drop-drop (length added) from old) refl;
}

pub wrote_none : (old : List ℕ) (from : ℕ) → from ≤ length old → Wrote old from [] old from
wrote_none old from h = record { end = omega arith; room = h; after = sym (rw add-zero (take-append-drop from old)) }

module _ {old : List ℕ} {from : ℕ} {added new : List ℕ} {to : ℕ} (w : Wrote old from added new to) where
  front_length : length (take from old) ≡ from
  front_length = length-take-le from old (omega (arith, w.end, w.room))

  long : length (take from old ++ added) ≡ to
  long = omega (arith, length-append (take from old) added, front_length, w.end)

  parts : new ≡ (take from old ++ added) ++ drop to old
  parts = w.after ∙ sym (append_assoc (take from old) added (drop (from + length added) old)) ∙ ap (λ n. (take from old ++ added) ++ drop n old) (sym w.end)

  -- up to the second place stands what stood up to the first, and what was written
  pub wrote_front : take to new ≡ take from old ++ added
  wrote_front = ap (take to) parts ∙ take_at (take from old ++ added) (drop to old) to long

  -- behind it stands what stood there
  pub wrote_rest : drop to new ≡ drop to old
  wrote_rest = ap (drop to) parts ∙ drop_at (take from old ++ added) (drop to old) to long

  -- between them stands what was written
  pub wrote_between : between from to new ≡ added
  wrote_between = between_is new from to ∙ ap (drop from) wrote_front ∙ drop_at (take from old) added from front_length

  pub wrote_length : length new ≡ length old
  wrote_length = ap length parts ∙ length-append (take from old ++ added) (drop to old) ∙ omega (arith, long, length-drop to old, w.room)

-- two writes, the second behind the first, are one write of both
pub wrote_both : {old : List ℕ} {from : ℕ} {first mid : List ℕ} {at : ℕ} {second new : List ℕ} {to : ℕ} → Wrote old from first mid at → Wrote mid at second new to → Wrote old from (first ++ second) new to
wrote_both {old} {from} {first} {mid} {at} {second} {new} {to} w v =
    let many : at + length second ≡ from + length (first ++ second) = omega (arith, length-append first second, w.end) in
    let rest : drop (at + length second) mid ≡ drop (from + length (first ++ second)) old =
    sym (drop-drop (length second) at mid) ∙ ap (drop (length second)) (wrote_rest w) ∙ drop-drop (length second) at old ∙ ap (λ n. drop n old) many in
    record { end = v.end ∙ many; room = omega (arith, v.room, wrote_length w); after = v.after ∙ rw (wrote_front w, rest) (simp append_assoc) }
