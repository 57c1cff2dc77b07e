-- The records tell what the nodes of a build know. Assumes nothing.
use Rattle.std.proofs.Common.{◌≡◌, ℕ, zero, suc, ◌+◌, ◌<◌, Bool, false, cond, not, ◌&&◌, eqb, List, [], ◌∷◌, length, get_or, set, Some, None, Option, sym, refl, ap, ◌∙◌, subst, ⊎_elim, arith, length-set, get_or-set_other, get_or-set_same}
use Rattle.rules.specs.Builds.{unbegun}
use Rattle.rules.specs.Calls.{stepped}
use Rattle.rules.specs.Causes.{is_step, steps_in, failed_child, first_failed_child, CauseOf, Caused, AllCaused, Told}
use Rattle.rules.specs.Ending.{marked}
use Rattle.rules.specs.Lists.{or_else, when}
use Rattle.rules.specs.Plans.{Plan}
use Rattle.rules.specs.declared.progress.Progress.{Progress}
use Rattle.schedule.specs.declared.record.Record.{Record}
use Rattle.schedule.specs.declared.record.Record.TheVariants.{EndedFailed, Step}
use Rattle.std.proofs.lemmas.Bool.{cases_eq, eq-eqb, ne_eqb}

-- a new entry that is the same in one respect
pub set_keeps : {A B : Type 0} (f : A → B) (xs : List A) (n : ℕ) (x d : A) (k : ℕ) → f x ≡ f (get_or xs n d) → f (get_or (set xs n x) k d) ≡ f (get_or xs k d)
set_keeps f [] n x d k h = refl
set_keeps f (y ∷ ys) zero x d zero h = h
set_keeps f (y ∷ ys) zero x d (suc k) h = refl
set_keeps f (y ∷ ys) (suc n) x d zero h = refl
set_keeps f (y ∷ ys) (suc n) x d (suc k) h = set_keeps f ys n x d k h

or_none : {A : Type 0} (o : Option A) → or_else o (λ _. None) ≡ o
or_none None = refl
or_none (Some x) = refl

-- nodes that know the same
pub record Same (ns ms : List Progress) : Type 0 where
  pub long : length ms ≡ length ns
  pub done : (n : ℕ) → (get_or ms n unbegun).done ≡ (get_or ns n unbegun).done
  pub first : (m : ℕ) → (get_or ms m unbegun).first_failed ≡ (get_or ns m unbegun).first_failed

pub same_set : (ns : List Progress) (n : ℕ) (x : Progress) → x.done ≡ (get_or ns n unbegun).done → x.first_failed ≡ (get_or ns n unbegun).first_failed → Same ns (set ns n x)
same_set ns n x d f = record {
  long = length-set ns n x;
  done = λ k. set_keeps (λ y. y.done) ns n x unbegun k d;
  first = λ k. set_keeps (λ y. y.first_failed) ns n x unbegun k f;
}

-- a record that tells of no step and no failure
pub record Quiet (x : Record) : Type 0 where
  pub no_step : (n : ℕ) → is_step n x ≡ false
  pub no_failure : (t : Plan) (m : ℕ) → failed_child t m x ≡ None
  pub no_cause : (t : Plan) (rs : List Record) → Caused t x rs

module _ {t : Plan} {ns : List Progress} {rs : List Record} (told : Told t ns rs) where
  pub told_same : (ms : List Progress) → Same ns ms → Told t ms rs
  told_same ms s = record {
    whole = s.long ∙ told.whole;
    done = λ n. s.done n ∙ told.done n;
    first = λ m. s.first m ∙ told.first m;
    causes = told.causes;
  }

  pub told_quiet : (x : Record) → Quiet x → Told t ns (x ∷ rs)
  told_quiet x q = record {
    whole = told.whole;
    done = λ n. told.done n ∙ sym (ap (λ c. cond c 1 0 + steps_in n rs) (q.no_step n) ∙ omega arith);
    first = λ m. told.first m ∙ sym (ap (λ o. or_else (first_failed_child t m rs) (λ _. o)) (q.no_failure t m) ∙ or_none (first_failed_child t m rs));
    causes = (q.no_cause t rs, told.causes);
  }

  -- a step of job n
  pub told_step : (n : ℕ) → n < length ns → Told t (set ns n (stepped (get_or ns n unbegun))) (Step n ∷ rs)
  told_step n within = record {
    whole = length-set ns n _ ∙ told.whole;
    done = λ k.
        ⊎_elim
        (λ same.
        let old = told.done n in
        let new : (get_or (set ns n (stepped (get_or ns n unbegun))) n unbegun).done ≡ (get_or ns n unbegun).done + 1 = ap (λ y. y.done) (get_or-set_same ns n (stepped (get_or ns n unbegun)) unbegun within) in
        let one : ◌≡◌ {A = ℕ} (cond (eqb n n) 1 0) 1 = ap (λ c. cond c 1 0) (eq-eqb n n refl) in
        subst (λ j. (get_or (set ns n (stepped (get_or ns n unbegun))) j unbegun).done ≡ cond (eqb n j) 1 0 + steps_in j rs) (sym same) (omega arith))
        (λ apart.
        let none : ◌≡◌ {A = ℕ} (cond (eqb n k) 1 0) 0 = ap (λ c. cond c 1 0) (ne_eqb n k (λ e. apart (sym e))) in
        ap (λ y. y.done) (get_or-set_other ns n k (stepped (get_or ns n unbegun)) unbegun apart) ∙ told.done k ∙ omega arith)
        (cases_eq k n);
    first = λ m. set_keeps (λ y. y.first_failed) ns n (stepped (get_or ns n unbegun)) unbegun m refl ∙ told.first m ∙ sym (or_none (first_failed_child t m rs));
    causes = (tt, told.causes);
  }

-- node n has failed, and its make is still to be marked
pub record Owing (t : Plan) (n c : ℕ) (ns : List Progress) (rs : List Record) : Type 0 where
  pub whole : length ns ≡ t.nodes
  pub done : (k : ℕ) → (get_or ns k unbegun).done ≡ steps_in k rs
  pub first : (m : ℕ) → or_else (get_or ns m unbegun).first_failed (λ _. failed_child t m (EndedFailed n c)) ≡ first_failed_child t m rs
  pub causes : AllCaused t rs

pub owing : {t : Plan} {ns : List Progress} {rs : List Record} (n c : ℕ) → Told t ns rs → n < t.nodes → CauseOf t n c rs → Owing t n c ns (EndedFailed n c ∷ rs)
owing {t} {ns} {rs} n c told inside cause = record {
  whole = told.whole;
  done = λ k. told.done k ∙ omega arith;
  first = λ m. ap (λ o. or_else o (λ _. failed_child t m (EndedFailed n c))) (told.first m);
  causes = ((inside, cause), told.causes);
}

module _ {t : Plan} {n c : ℕ} {ns : List Progress} {rs : List Record} (owed : Owing t n c ns rs) where
  pub owing_quiet : (x : Record) → Quiet x → Owing t n c ns (x ∷ rs)
  owing_quiet x q = record {
    whole = owed.whole;
    done = λ k. owed.done k ∙ sym (ap (λ b. cond b 1 0 + steps_in k rs) (q.no_step k) ∙ omega arith);
    first = λ m. owed.first m ∙ sym (ap (λ o. or_else (first_failed_child t m rs) (λ _. o)) (q.no_failure t m) ∙ or_none (first_failed_child t m rs));
    causes = (q.no_cause t rs, owed.causes);
  }

  -- the top make has no make to mark
  pub owing_top : n ≡ 0 → Told t ns rs
  owing_top top = record {
    whole = owed.whole;
    done = owed.done;
    first = λ m.
        let none : failed_child t m (EndedFailed n c) ≡ None = ap (λ b. when (not b && eqb (t.make n) m) (λ _. Some n)) (eq-eqb n 0 top) in
        sym (or_none (get_or ns m unbegun).first_failed) ∙ sym (ap (λ o. or_else (get_or ns m unbegun).first_failed (λ _. o)) none) ∙ owed.first m;
    causes = owed.causes;
  }

  pub owing_marked : (keep : Bool) → (n ≡ 0 → ⊥) → t.make n < length ns → Told t (set ns (t.make n) (marked keep n (get_or ns (t.make n) unbegun))) rs
  owing_marked keep nested within =
      let m = t.make n in
      let x = marked keep n (get_or ns m unbegun) in
      record {
        whole = length-set ns m x ∙ owed.whole;
        done = λ k. set_keeps (λ y. y.done) ns m x unbegun k refl ∙ owed.done k;
        first = λ k.
            ⊎_elim
            (λ same.
            let some : failed_child t k (EndedFailed n c) ≡ Some n = ap (λ b. when (not b && eqb m k) (λ _. Some n)) (ne_eqb n 0 nested) ∙ ap (λ b. when b (λ _. Some n)) (eq-eqb m k (sym same)) in
            ap (λ j. (get_or (set ns m x) j unbegun).first_failed) same ∙ ap (λ y. y.first_failed) (get_or-set_same ns m x unbegun within)
            ∙ sym (ap (λ j. or_else (get_or ns j unbegun).first_failed (λ _. Some n)) same)
            ∙ sym (ap (λ o. or_else (get_or ns k unbegun).first_failed (λ _. o)) some) ∙ owed.first k)
            (λ apart.
            let none : failed_child t k (EndedFailed n c) ≡ None = ap (λ b. when (not b && eqb m k) (λ _. Some n)) (ne_eqb n 0 nested) ∙ ap (λ b. when b (λ _. Some n)) (ne_eqb m k (λ e. apart (sym e))) in
            ap (λ y. y.first_failed) (get_or-set_other ns m k x unbegun apart)
            ∙ sym (or_none (get_or ns k unbegun).first_failed) ∙ sym (ap (λ o. or_else (get_or ns k unbegun).first_failed (λ _. o)) none) ∙ owed.first k)
            (cases_eq k m);
        causes = owed.causes;
      }
