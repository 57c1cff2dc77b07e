-- A token that goes back. Assumes nothing.
use Rattle.std.proofs.Common.{◌≡◌, ℕ, ◌+◌, ◌<◌, ◌≤◌, Bool, true, false, eqb, List, [], ◌∷◌, length, Some, None, Ok, Err, Option, Result, is_ok, sym, refl, ap, ◌∙◌, subst, arith}
use Rattle.law.specs.Answers.{answering}
use Rattle.pool.specs.Chain.{put_back}
use Rattle.pool.specs.Meaning.{Returned, only}
use Rattle.pool.specs.Ways.{Ways, Put}
use Rattle.pool.specs.declared.refusals.Refusal.{Refusal}
use Rattle.rules.specs.Builds.{Build, with_tokens}
use Rattle.rules.specs.Ending.{goes_back, keep_held, put_found, put_one}
use Rattle.rules.specs.Lists.{if_so}
use Rattle.rules.specs.Builds.{Held}
use Rattle.schedule.specs.Buffers.{Wrote}
use Rattle.schedule.specs.Records.{bytes}
use Rattle.schedule.specs.declared.record.Record.TheVariants.{PutBack}
use Rattle.schedule.proofs.Buffers.{wrote_none}
use Rattle.std.proofs.lemmas.Bool.Decides.{nat_tests}
use Rattle.build.specs.Hands.{Backed}
use Rattle.build.specs.Hands.{in_hands, GaveBack}
use Rattle.build.specs.Leads.{on, Leads}
use Rattle.build.proofs.Handing.{in_hands_more}
use Rattle.build.proofs.Settles.{point}

-- one token of this byte fewer is in hand
pub record Fewer (hs : List Held) (byte : ℕ) (hs' : List Held) : Type 0 where
  pub counted : (k : ℕ) → in_hands k hs ≡ in_hands k hs' + only byte 1 k
  pub long : length hs ≡ length hs' + 1

fewer_kept : (h : Held) (hs : List Held) (o : Option (ℕ × List Held)) (byte : ℕ) (hs' : List Held) → ((b : ℕ) (r : List Held) → o ≡ Some (b, r) → Fewer hs b r) → keep_held h o ≡ Some (byte, hs') → Fewer (h ∷ hs) byte hs'
fewer_kept h hs None byte hs' less e = let z : ◌≡◌ {A = ℕ} 0 1 = cc in absurd (omega arith)
fewer_kept h hs (Some (b, r)) byte hs' less e =
    let got : ◌≡◌ {A = ℕ × List Held} (b, h ∷ r) (byte, hs') = cc in
    let so = less b r refl in
    let kept : Fewer (h ∷ hs) b (h ∷ r) = record {
      counted = λ k. omega (arith, so.counted k, in_hands_more k h hs, in_hands_more k h r);
      long = omega (arith, so.long);
    } in
    subst (λ (x : ℕ × List Held). Fewer (h ∷ hs) x.0 x.1) got kept

pub back_fewer : (m : ℕ) (hs : List Held) (byte : ℕ) (hs' : List Held) → goes_back m hs ≡ Some (byte, hs') → Fewer hs byte hs'
back_fewer m [] byte hs' e = let z : ◌≡◌ {A = ℕ} 0 1 = cc in absurd (omega arith)
back_fewer m (h ∷ hs) byte hs' e = either (eqb h.by m) e (λ b r is. back_fewer m hs b r is)
  where
    either : (t : Bool) → if_so t (λ _. Some (h.byte, hs)) (λ _. keep_held h (goes_back m hs)) ≡ Some (byte, hs') → ((b : ℕ) (r : List Held) → goes_back m hs ≡ Some (b, r) → Fewer hs b r) → Fewer (h ∷ hs) byte hs'
    either true e less =
        let got : ◌≡◌ {A = ℕ × List Held} (h.byte, hs) (byte, hs') = cc in
        let first : Fewer (h ∷ hs) h.byte hs = record { counted = λ k. in_hands_more k h hs; long = omega arith } in
        subst (λ (x : ℕ × List Held). Fewer (h ∷ hs) x.0 x.1) got first
    either false e less = fewer_kept h hs (goes_back m hs) byte hs' less e

-- where none was given back, none is held
pub gave_none : (m : ℕ) (hs hs' : List Held) → GaveBack m hs None hs' → (goes_back m hs ≡ None) × (hs' ≡ hs)
gave_none m hs hs' none = none

-- so no more are in hand
pub gave_fewer : (m : ℕ) (hs : List Held) (r : Option ℕ) (hs' : List Held) → GaveBack m hs r hs' → length hs' ≤ length hs
gave_fewer m hs None hs' none = omega (arith, ap length none.1)
gave_fewer m hs (Some byte) hs' gave = omega (arith, (back_fewer m hs byte hs' gave).long)

-- what goes back is out, so that the pool takes it
pub back_out : {P : Type 0} (w : Ways P) (p : P) (m : ℕ) (hs : List Held) (byte : ℕ) (hs' : List Held) → Backed w p hs → goes_back m hs ≡ Some (byte, hs') → 0 < (w.means p).outs byte
back_out w p m hs byte hs' backed e = let some = (back_fewer m hs byte hs' e).counted byte in let held = backed byte in grind (arith, nat_tests)

pub put_goes : {P : Type 0} (w : Ways P) (p q : P) (byte : ℕ) (r : Result Unit Refusal) → Put w p byte r q → 0 < (w.means p).outs byte → is_ok r ≡ true
put_goes w p q byte (Ok _) put some = refl
put_goes w p q byte (Err e) put some = absurd (omega (arith, put.1))

pub backed_fewer : {P : Type 0} (w : Ways P) (p q : P) (m : ℕ) (hs : List Held) (byte : ℕ) (hs' : List Held) → Backed w p hs → goes_back m hs ≡ Some (byte, hs') → Returned (w.means p) byte (w.means q) → Backed w q hs'
backed_fewer w p q m hs byte hs' backed e returned k = omega (arith, (back_fewer m hs byte hs' e).counted k, backed k, returned.outs k)

module _ {P : Type 0} (w : Ways P) (b : Build) (m : ℕ) where
  pub put_none_leads : (b' : Build) (p : P) (buffer : List ℕ) (n : ℕ) → n ≤ length buffer → goes_back m b.tokens ≡ None → b' ≡ b → Leads w (put_one answering m) (λ r. r) (point b n p buffer) (point b' n p buffer)
  put_none_leads b' p buffer n inside none is = record {
    answers = [];
    asked = [];
    records = [];
    runs = λ coming ops rs. ap (λ o. put_found answering m o (on b coming ops rs)) none ∙ ap (λ d. on d coming ops rs) (sym is);
    pool = refl;
    wrote = wrote_none buffer n inside;
  }

  pub put_one_leads : (b' : Build) (byte : ℕ) (hs : List Held) {p q : P} {old new : List ℕ} {from to : ℕ} → goes_back m b.tokens ≡ Some (byte, hs) → w.back p byte q → b' ≡ with_tokens b hs → Wrote old from (bytes (PutBack m byte)) new to → Leads w (put_one answering m) (λ r. r) (point b from p old) (point b' to q new)
  put_one_leads b' byte hs {p} {q} found back is wrote = record {
    answers = [];
    asked = put_back byte ∷ [];
    records = PutBack m byte ∷ [];
    runs = λ coming ops rs. ap (λ o. put_found answering m o (on b coming ops rs)) found ∙ ap (λ d. on d coming (put_back byte ∷ ops) (PutBack m byte ∷ rs)) (sym is);
    pool = (q, back, refl);
    wrote = wrote;
  }
