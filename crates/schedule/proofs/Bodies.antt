-- A record that stands at a place, or why none does. Assumes nothing.
use Rattle.std.proofs.Common.{◌≡◌, ℕ, ◌+◌, ◌-◌, ◌≤◌, Bor, List, ◌∷◌, ◌++◌, length, take, drop, Some, None, Ok, Err, Option, sym, refl, ap, ◌∙◌, arith, length-drop, le-leb}
use Rattle.std.proofs.lemmas.List.{drop-drop, drop_all, length-take-le, take-append-drop, drop_more}
use Rattle.std.specs.Slice.{IsItemAt}
use Rattle.schedule.specs.declared.refusal.ReadRefusal.{ReadRefusal}
use Rattle.schedule.specs.declared.view.RecordView.{RecordView}
use Rattle.schedule.specs.Records.{Kind, kind_of, size}
use Rattle.schedule.specs.Reading.{length_of_kind, body_length, record_of, Found, found_of_kind, found, begun, division}
use Rattle.schedule.specs.Views.{span, viewed}
use Rattle.schedule.proofs.Divisions.{reading_on}
use Rattle.schedule.proofs.Table.{bytes_made}

-- the length of a body is known: its kind, and that it is there whole
pub record Whole (kind : Option Kind) (n left : ℕ) : Type 0 where
  pub known : Kind
  pub is : kind ≡ Some known
  pub long : known.follow ≡ n
  pub there : n ≤ left

pub whole : (kind : Option Kind) (left place n : ℕ) → length_of_kind kind left place ≡ Ok n → Whole kind n left
whole None left place n e = cc
whole (Some k) left place n e = record { known = k; is = refl; long = grind arith; there = grind arith }

pub found_whole : {kind : Option Kind} (rest : List ℕ) (place : ℕ) {n : ℕ} → (w : Whole kind n (length rest)) → found_of_kind kind rest place ≡ Ok (Some (place, w.known.filled (take n rest)))
found_whole rest place w = grind arith

pub found_refused : (kind : Option Kind) (rest : List ℕ) (place : ℕ) (e : ReadRefusal) → length_of_kind kind (length rest) place ≡ Err e → found_of_kind kind rest place ≡ Err e
found_refused kind rest place e r = grind arith

pub found_end : (s : List ℕ) (place : ℕ) → length s ≤ place → Ok None ≡ found (drop place s) place
found_end s place h = rw (drop_all place s h) refl

-- the bytes behind the kind byte at a place
abbrev rest_of : List ℕ → ℕ → List ℕ
rest_of s place = drop (place + 1) s

-- the first n of them, as the reader cuts them
abbrev body_of : List ℕ → ℕ → ℕ → List ℕ
body_of s place n = take (((place + 1) + n) - (place + 1)) (rest_of s place)

-- the letter that was found at a place stands there, and the rest behind it
pub starts_with : (s : List ℕ) (place : ℕ) (x : Bor ℕ) → IsItemAt s place (Some x) → drop place s ≡ x.now ∷ rest_of s place
starts_with s place x found =
    drop_more s place 0 found.3.0 ∙ ap (λ l. l ∷ rest_of s place) (sym (found.4 (omega arith) 0))

module _ (s : List ℕ) (place letter : ℕ) (starts : drop place s ≡ letter ∷ rest_of s place) where
  found_kind : found (drop place s) place ≡ found_of_kind (kind_of letter) (rest_of s place) place
  found_kind = ap (λ l. found l place) starts

  left : length s - (place + 1) ≡ length (rest_of s place)
  left = sym (length-drop (place + 1) s)

  pub found_none : (e : ReadRefusal) → Err e ≡ body_length letter (length s - (place + 1)) place → Err e ≡ found (drop place s) place
  found_none e r = sym (found_kind ∙ found_refused (kind_of letter) (rest_of s place) place e (rw left at (sym r)))

  -- a whole body stands behind the letter, and v shows it
  pub record Taken (n : ℕ) (v : RecordView) : Type 0 where
    pub here : ◌≡◌ {A = Found} (Ok (Some (place, viewed v))) (found (drop place s) place)
    pub on : (place + 1) + n ≡ place + size (viewed v)
    pub part : drop place s ≡ span v ++ drop ((place + 1) + n) s
    pub law : division (drop place s) place ≡ begun (Ok (Some (place, viewed v))) (λ _. division (drop ((place + 1) + n) s) ((place + 1) + n))

  pub fitting : (n : ℕ) → Ok n ≡ body_length letter (length s - (place + 1)) place → Whole (kind_of letter) n (length (rest_of s place))
  fitting n e = whole (kind_of letter) (length (rest_of s place)) place n (rw left at (sym e))

  pub body_is : (n : ℕ) → (body_of s place n) ≡ take n (rest_of s place)
  body_is n = let e : ((place + 1) + n) - (place + 1) ≡ n = omega arith in rw e refl

  pub taken : (n : ℕ) (v : RecordView) → Ok n ≡ body_length letter (length s - (place + 1)) place → span v ≡ letter ∷ (body_of s place n) → Some (viewed v) ≡ record_of letter (body_of s place n) → Taken n v
  taken n v e part value =
      let w = fitting n e in
      let k = w.known in
      let short = body_is n in
      let long = length-take-le n (rest_of s place) w.there in
      let made : viewed v ≡ k.filled (take n (rest_of s place)) = let told = rw (w.is, short) at value in cc in
      let taken-size = ap length (bytes_made letter k w.is (take n (rest_of s place)) (long ∙ sym w.long)) in
      let here : ◌≡◌ {A = Found} (Ok (Some (place, viewed v))) (found (drop place s) place) = sym (found_kind ∙ found_whole (rest_of s place) place w ∙ rw (sym made) refl) in
      let on : (place + 1) + n ≡ place + size (viewed v) = rw made (omega (arith, taken-size, long)) in
      record {
        here = here;
        on = on;
        part = starts ∙ rw (part, short) (ap (λ l. letter ∷ l) (sym (take-append-drop n (rest_of s place)) ∙ rw (drop-drop n (place + 1) s) refl));
        law = reading_on s place (Ok (Some (place, viewed v))) here ∙ rw on refl;
      }

  pub body_fits : (n : ℕ) → Ok n ≡ body_length letter (length s - (place + 1)) place → body_length letter (length (body_of s place n)) 0 ≡ Ok (length (body_of s place n))
  body_fits n e =
      let w = fitting n e in
      let long = ap length (body_is n) ∙ length-take-le n (rest_of s place) w.there in
      rw (long, w.is, w.long, le-leb n n (omega arith)) refl
