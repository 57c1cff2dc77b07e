-- How a reading goes on behind a record. Assumes nothing.
use Rattle.std.proofs.Common.{◌≡◌, ℕ, zero, suc, ◌+◌, ◌<◌, ◌≤◌, List, [], ◌∷◌, ◌++◌, length, drop, Some, None, Ok, Err, sym, refl, ap, ◌∙◌, arith, length-drop}
use Rattle.std.proofs.lemmas.List.{drop_at, drop-drop}
use Rattle.schedule.specs.declared.record.Record.{Record}
use Rattle.schedule.specs.Records.{bytes, size, encoded}
use Rattle.schedule.specs.Reading.{Found, found, behind, begun, divided, division, all_of}
use Rattle.schedule.proofs.Table.{found_written}

-- a record takes at least one byte
pub size_some : (r : Record) → 0 < size r
size_some r = grind arith

pub shorter : (r : Record) (bs : List ℕ) (n : ℕ) → length bs ≤ suc n → length (drop (size r) bs) ≤ n
shorter r bs n h = rw (length-drop (size r) bs) (omega (arith, size_some r))

-- a reading of at most as many records as there are bytes, or more, is the whole reading
divided_enough : (n m : ℕ) (bs : List ℕ) (place : ℕ) → length bs ≤ n → length bs ≤ m → divided n bs place ≡ divided m bs place
divided_enough zero zero bs place h k = refl
divided_enough zero (suc m) bs place h k = grind arith
divided_enough (suc n) zero bs place h k = grind arith
divided_enough (suc n) (suc m) bs place h k =
    ap (begun (found bs place)) (λ i r. divided_enough n m (drop (size r) bs) (place + size r) (shorter r bs n h) (shorter r bs m k) i)

pub division_step : (bs : List ℕ) (place : ℕ) → division bs place ≡ begun (found bs place) (λ r. division (drop (size r) bs) (place + size r))
division_step [] place = refl
division_step (b ∷ bs) place =
    ap (begun (found (b ∷ bs) place))
    (λ i r. divided_enough (length bs) (length (drop (size r) (b ∷ bs))) (drop (size r) (b ∷ bs)) (place + size r) (shorter r (b ∷ bs) (length bs) (omega arith)) (omega arith) i)

pub division_encoded : (rs : List Record) (place : ℕ) → division (encoded rs) place ≡ all_of place rs
division_encoded [] place = refl
division_encoded (r ∷ rs) place =
    let on = division_encoded rs (place + size r) in
    let rest = drop_at (bytes r) (encoded rs) (size r) refl in
    division_step (bytes r ++ encoded rs) place ∙ rw (found_written r (encoded rs) place, rest, on) refl

-- a reading goes on behind what was found
pub reading_on : (s : List ℕ) (place : ℕ) (x : Found) → x ≡ found (drop place s) place → division (drop place s) place ≡ begun x (λ _. division (drop (behind place x) s) (behind place x))
reading_on s place (Ok None) e = division_step (drop place s) place ∙ rw (sym e) refl
reading_on s place (Ok (Some x)) e = division_step (drop place s) place ∙ rw (sym e, drop-drop (size x.1) place s) refl
reading_on s place (Err refusal) e = division_step (drop place s) place ∙ rw (sym e) refl
