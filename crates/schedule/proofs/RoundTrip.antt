-- A written schedule reads back, and a reading that comes to the end has read what was written. Assumes nothing.
use Rattle.std.proofs.Common.{◌≡◌, ℕ, zero, suc, ◌+◌, ◌≤◌, List, [], ◌∷◌, ◌++◌, length, drop, Some, None, Ok, Err, Option, sym, refl, ap, ◌∙◌, append-nil, arith}
use Rattle.std.proofs.lemmas.Grind.{common_steps}
use Rattle.std.proofs.lemmas.List.{length-take-le, take-append-drop}
use Rattle.schedule.specs.declared.record.Record.{Record}
use Rattle.schedule.specs.Records.{Kind, kind_of, bytes, size, encoded}
use Rattle.schedule.specs.Reading.{Found, found_of_kind, found, begun, divided, division, records_read, all_of, Faithful}
use Rattle.schedule.proofs.Divisions.{shorter, division_encoded}
use Rattle.schedule.proofs.Encodings.{encoded_append}
use Rattle.schedule.proofs.Table.{bytes_made}

-- what stands at a place, put back into bytes
Stands : List ℕ → Found → Type 0
Stands bs (Ok None) = bs ≡ []
Stands bs (Ok (Some e)) = bs ≡ bytes e.1 ++ drop (size e.1) bs
Stands bs (Err refusal) = Unit {0}

stands_of_kind : (byte : ℕ) (rest : List ℕ) (place : ℕ) (kind : Option Kind) → kind_of byte ≡ kind → Stands (byte ∷ rest) (found_of_kind kind rest place)
unfolding Stands
stands_of_kind byte rest place kind e = grind (arith, common_steps, bytes_made, length-take-le, take-append-drop)

stands : (bs : List ℕ) (place : ℕ) → Stands bs (found bs place)
unfolding Stands
stands [] place = refl
stands (byte ∷ rest) place = stands_of_kind byte rest place (kind_of byte) refl

-- where a reading comes to the end, its records' bytes are what was read
read_whole : (n : ℕ) (bs : List ℕ) (place : ℕ) → length bs ≤ n → (divided n bs place).stop ≡ None → bs ≡ encoded (records_read (divided n bs place))
unfolding Stands
read_whole zero [] place h e = refl
read_whole zero (b ∷ bs) place h e = absurd (omega arith)
read_whole (suc n) bs place h e = split (found bs place) (stands bs place) e (λ r. read_whole n (drop (size r) bs) (place + size r) (shorter r bs n h))
  where
    split : (x : Found) → Stands bs x → (begun x (λ r. divided n (drop (size r) bs) (place + size r))).stop ≡ None → ((r : Record) → (divided n (drop (size r) bs) (place + size r)).stop ≡ None → drop (size r) bs ≡ encoded (records_read (divided n (drop (size r) bs) (place + size r)))) → bs ≡ encoded (records_read (begun x (λ r. divided n (drop (size r) bs) (place + size r))))
    split x s e on = grind arith

records_placed : (place : ℕ) (rs : List Record) → records_read (all_of place rs) ≡ rs
records_placed place [] = refl
records_placed place (r ∷ rs) = ap (λ l. r ∷ l) (records_placed (place + size r) rs)

pub read_back : (rs : List Record) → records_read (division (encoded rs) 0) ≡ rs
read_back rs = ap records_read (division_encoded rs 0) ∙ records_placed 0 rs

pub faithful : (schedule : List ℕ) → Faithful schedule (division schedule 0)
faithful schedule = record {
  back = λ rs e. rw e (division_encoded rs 0);
  whole = read_whole (length schedule) schedule 0 (omega arith);
  apart = λ rs others e. sym (read_back rs) ∙ ap (λ bs. records_read (division bs 0)) e ∙ read_back others;
}

-- a record behind others
pub division_behind : (rs : List Record) (r : Record) (bs : List ℕ) → bs ≡ encoded rs ++ bytes r → division bs 0 ≡ all_of 0 (rs ++ (r ∷ []))
division_behind rs r bs e =
    ap (λ l. division l 0) (e ∙ ap (λ l. encoded rs ++ l) (sym (append-nil (bytes r))) ∙ sym (encoded_append rs (r ∷ []))) ∙ division_encoded (rs ++ (r ∷ [])) 0
