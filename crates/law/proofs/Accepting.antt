-- What an accepted call has found: no refusal applied. Assumes nothing.
use Rattle.std.proofs.Common.{◌≡◌, ℕ, zero, suc, ◌<◌, ◌≤◌, Bool, true, false, cond, not, ◌&&◌, ltb, List, [], ◌∷◌, length, get_or, Some, None, Option, sym, refl, ◌∙◌, arith}
use Rattle.law.proofs.Carried.{RunningJob}
use Rattle.law.proofs.Ends.{Shaped}
use Rattle.rules.specs.Builds.{Build, unbegun, is_running, running, finished}
use Rattle.rules.specs.Plans.{is_make, needed}
use Rattle.rules.specs.Refusing.{call_refusal, or_18, job_refusal, short_of}
use Rattle.rules.specs.declared.progress.Progress.{Progress}
use Rattle.std.proofs.lemmas.Bool.{and_parts, ltb-false, false≢true, not-true, not-false}

pub record Accepts (b : Build) (outs : ℕ → ℕ) (buffer : ℕ) : Type 0 where
  pub long : needed b.plan ≤ buffer
  pub live : running b 0 ≡ true
  pub lent : short_of b outs ≡ false

pub accepts : (b : Build) (outs : ℕ → ℕ) (buffer : ℕ) → call_refusal b outs buffer ≡ None → Accepts b outs buffer
accepts b outs buffer e = by (ltb buffer (needed b.plan)) refl (finished b) refl (short_of b outs) refl e
  where
    by : (x : Bool) → ltb buffer (needed b.plan) ≡ x → (y : Bool) → finished b ≡ y → (z : Bool) → short_of b outs ≡ z → ◌≡◌ {A = Option ℕ} (cond x (Some 15) (cond y (Some 16) (cond z (Some 17) None))) None → Accepts b outs buffer
    by true a y c z d h = let no_way : ◌≡◌ {A = ℕ} 0 1 = cc in absurd (omega arith)
    by false a true c z d h = let no_way : ◌≡◌ {A = ℕ} 0 1 = cc in absurd (omega arith)
    by false a false c true d h = let no_way : ◌≡◌ {A = ℕ} 0 1 = cc in absurd (omega arith)
    by false a false c false d h = record { long = ltb-false buffer (needed b.plan) a; live = not-false (running b 0) c; lent = d }

-- what runs is in the table
inside : (ns : List Progress) (n : ℕ) → is_running (get_or ns n unbegun).state ≡ true → n < length ns
inside [] n r = absurd (false≢true r)
inside (x ∷ ns) zero r = omega arith
inside (x ∷ ns) (suc n) r = omega (arith, inside ns n r)

-- the last check
abbrev or_so : Option ℕ → Bool → Option ℕ
or_so (Some x) t = Some x
or_so None t = cond t None (Some 18)

or_same : (b : Build) (n : ℕ) (o : Option ℕ) → or_18 b n o ≡ or_so o (running b n && not (is_make b.plan n))
or_same b n (Some x) = refl
or_same b n None = refl

pub job_accepts : {h : Bool} {p : ℕ} (b : Build) → Shaped h p b → (outs : ℕ → ℕ) (buffer n : ℕ) → job_refusal b outs buffer n ≡ None → Accepts b outs buffer × RunningJob b n
job_accepts b s outs buffer n e = by (call_refusal b outs buffer) refl (running b n && not (is_make b.plan n)) refl (sym (or_same b n (call_refusal b outs buffer)) ∙ e)
  where
    by : (o : Option ℕ) → call_refusal b outs buffer ≡ o → (x : Bool) → (running b n && not (is_make b.plan n)) ≡ x → or_so o x ≡ None → Accepts b outs buffer × RunningJob b n
    by (Some r) a x c h = let no_way : ◌≡◌ {A = ℕ} 0 1 = cc in absurd (omega arith)
    by None a false c h = let no_way : ◌≡◌ {A = ℕ} 0 1 = cc in absurd (omega arith)
    by None a true c h =
        let parts = and_parts (running b n) (not (is_make b.plan n)) c in
        (accepts b outs buffer a, record { within = omega (arith, inside b.nodes n parts.0, s.whole); job = not-true _ parts.1; runs = parts.0 })
