-- A round, turn by turn, and the rounds. Assumes nothing.
use Rattle.std.proofs.Common.{◌≡◌, ℕ, ◌+◌, ◌-◌, ◌<◌, ◌≤◌, true, false, not, ◌&&◌, List, [], ◌∷◌, length, Ok, sym, refl, ap, ◌∙◌, subst, arith}
use native.Mathlib.Nat.{sub-zero}
use Rattle.law.proofs.Rounds.{Walked, one_step, others_run, all_steps}
use Rattle.law.specs.Calls.{Status, step, Called}
use Rattle.law.specs.Rounds.{Stepped, none, more, Rounds, over, round}
use Rattle.law.specs.Sound.{Sound}
use Rattle.pool.specs.Ways.{Ways}
use Rattle.rules.specs.Builds.{Build, Held, finished, running, running_jobs}
use Rattle.rules.specs.Lists.{any, numbers, those}
use Rattle.rules.specs.Plans.{is_make}
use Rattle.rules.specs.Refusing.{short_of}
use Rattle.std.proofs.lemmas.Bool.{and_parts, le-ltb, not-true}
use Rattle.build.proofs.Halts.{those_turn, those_over}
use Rattle.build.proofs.Seeking.{any_there}
use Rattle.build.specs.Hands.{Backed, in_hands, short_at}
use Rattle.build.specs.Models.{model, status, in_hand}
use Rattle.build.specs.Turns.{runs_as_job}
use Rattle.build.specs.declared.work.Work.{Work}

-- where the pool backs all tokens there is no shortage
pub enough : (b : Build) (outs : ℕ → ℕ) → ((k : ℕ) → in_hands k b.tokens ≤ outs k) → short_of b outs ≡ false
enough b outs backed = none_short b.tokens
  where
    none_short : (hs : List Held) → any (short_at b.tokens outs) hs ≡ false
    none_short [] = refl
    none_short (h ∷ hs) = any_there (short_at b.tokens outs) h hs (le-ltb (outs h.byte) (in_hands h.byte b.tokens) (backed h.byte)) ∙ none_short hs

module _ {P : Type 0} (w : Ways P) where
  -- of the jobs that ran at first those below n were stepped, and the others are still to be
  pub record Rounding (e : Work) (p : P) (old : List ℕ) (n : ℕ) (now : Work) (q : P) (new : List ℕ) : Type 0 where
    pub left : {s : Status} {r : P} {b : List ℕ} → Stepped w (those (runs_as_job (model e)) (numbers n ((model e).plan.nodes - n))) (status now) q new s r b → Stepped w (running_jobs (model e)) (status e) p old s r b
    pub sound : Sound (status now)
    pub plan : (model now).plan ≡ (model e).plan
    pub backed : Backed w q (in_hand now.tokens)
    pub runs : (j : ℕ) → n ≤ j → runs_as_job (model e) j ≡ true → runs_as_job (model now) j ≡ true

  pub rounding_none : (e : Work) (p : P) (old : List ℕ) → Sound (status e) → Backed w p (in_hand e.tokens) → Rounding e p old 0 e p old
  rounding_none e p old sound backed = record {
    left = λ {s} {r} {b} rest. subst (λ n. Stepped w (those (runs_as_job (model e)) (numbers 0 n)) (status e) p old s r b) (sub-zero (model e).plan.nodes) rest;
    sound = sound;
    plan = refl;
    backed = backed;
    runs = λ j from is. is;
  }

  module _ {e : Work} {p : P} {old : List ℕ} {n : ℕ} {now : Work} {q : P} {new : List ℕ} (s : Rounding e p old n now q new) (less : n < (model e).plan.nodes) where
    pub rounding_one : (next : Work) (q' : P) (new' : List ℕ) (jobs : ℕ) → runs_as_job (model e) n ≡ true → Called w (step n) (status now) q new (Ok jobs) (status next) q' new' → Backed w q' (in_hand next.tokens) → Rounding e p old (n + 1) next q' new'
    rounding_one next q' new' jobs on called backed =
        let t = (model e).plan in
        let turn = those_turn (runs_as_job (model e)) t.nodes n true less on in
        let one = one_step w n jobs (status now) (status next) q q' new new' s.sound called in
        record {
          left = λ {s = f} {r} {b} rest. s.left (subst (λ l. Stepped w l (status now) q new f r b) (sym turn) (more called rest));
          sound = one.sound;
          plan = one.plan ∙ s.plan;
          backed = backed;
          runs = λ j from is.
              let parts = and_parts (running (model now) j) (not (is_make (model now).plan j)) (s.runs j (omega arith) is) in
              let on_still = others_run w n jobs (status now) (status next) q q' new new' s.sound called j (not-true _ parts.1) (λ same. omega arith) parts.0 in
              ap (λ u. u && not (is_make (model next).plan j)) on_still ∙ ap (λ x. not (is_make x j)) one.plan ∙ parts.1;
        }

    pub rounding_on : runs_as_job (model e) n ≡ false → Rounding e p old (n + 1) now q new
    rounding_on off =
        let turn = those_turn (runs_as_job (model e)) (model e).plan.nodes n false less off in
        record {
          left = λ {s = f} {r} {b} rest. s.left (subst (λ l. Stepped w l (status now) q new f r b) (sym turn) rest);
          sound = s.sound;
          plan = s.plan;
          backed = s.backed;
          runs = λ j from is. s.runs j (omega arith) is;
        }

  pub rounding_all : {e : Work} {p : P} {old : List ℕ} {n : ℕ} {now : Work} {q : P} {new : List ℕ} → Rounding e p old n now q new → (model e).plan.nodes ≤ n → Stepped w (running_jobs (model e)) (status e) p old (status now) q new
  rounding_all {e} {p} {old} {n} {now} {q} {new} s past = s.left (subst (λ l. Stepped w l (status now) q new (status now) q new) (sym (those_over (runs_as_job (model e)) (model e).plan.nodes n past)) none)

  -- the rounds so far, and what is still to be done
  pub record SoFar (e : Work) (p : P) (old : List ℕ) (steps : ℕ) (now : Work) (q : P) (new : List ℕ) : Type 0 where
    pub left : {n : ℕ} {s : Status} {r : P} {b : List ℕ} → Rounds w n (status now) q new s r b → Rounds w (steps + n) (status e) p old s r b
    pub walked : Walked (status e) (status now) steps
    pub backed : Backed w q (in_hand now.tokens)

  pub begun : (e : Work) (p : P) (old : List ℕ) → Sound (status e) → Backed w p (in_hand e.tokens) → SoFar e p old 0 e p old
  begun e p old sound backed = record { left = λ {n} {s = f} {r} {b} rest. let same : n ≡ 0 + n = omega arith in subst (λ k. Rounds w k (status e) p old f r b) same rest; walked = record { sound = sound; plan = refl; fewer = omega arith }; backed = backed }

  module _ {e : Work} {p : P} {old : List ℕ} {steps : ℕ} {now : Work} {q : P} {new : List ℕ} (s : SoFar e p old steps now q new) where
    pub round_more : (next : Work) (q' : P) (new' : List ℕ) → finished (model now) ≡ false → Stepped w (running_jobs (model now)) (status now) q new (status next) q' new' → Backed w q' (in_hand next.tokens) → SoFar e p old (steps + length (running_jobs (model now))) next q' new'
    round_more next q' new' going stepped backed =
        let one = all_steps w s.walked.sound stepped in
        record {
          left = λ {n} {s = f} {r} {b} rest. let same : steps + (length (running_jobs (model now)) + n) ≡ steps + length (running_jobs (model now)) + n = omega arith in subst (λ k. Rounds w k (status e) p old f r b) same (s.left (round going stepped rest));
          walked = record { sound = one.sound; plan = one.plan ∙ s.walked.plan; fewer = omega (arith, one.fewer, s.walked.fewer) };
          backed = backed;
        }

    pub rounds_over : finished (model now) ≡ true → Rounds w steps (status e) p old (status now) q new
    rounds_over fin = let same : steps + 0 ≡ steps = omega arith in subst (λ k. Rounds w k (status e) p old (status now) q new) same (s.left (over fin))
