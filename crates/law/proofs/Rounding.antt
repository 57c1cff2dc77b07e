-- Rounds come to the finish of every build on every pool. Assumes nothing.
use Rattle.std.proofs.Common.{◌≡◌, ℕ, zero, suc, ◌+◌, ◌<◌, ◌≤◌, Bool, true, false, not, ◌&&◌, length, sym, refl, ap, ◌∙◌, subst, ⊎_elim, arith}
use Rattle.law.proofs.Carried.{RunningJob, step_others}
use Rattle.law.proofs.Counting.{jobs_listed, one_more}
use Rattle.law.proofs.Outcomes.{Ready, step_outcome}
use Rattle.law.proofs.Sums.{sum_within}
use Rattle.law.specs.Sound.{entry, state_of, left_of, steps_left}
use Rattle.pool.specs.Meaning.{sum_below}
use Rattle.rules.specs.Builds.{running, running_jobs, finished}
use Rattle.rules.specs.Calls.{step_run, step_each, rounds_by, rounds_run}
use Rattle.rules.specs.Lists.{numbers, those, put_if}
use Rattle.rules.specs.Plans.{Plan, is_make}
use Rattle.rules.specs.Settling.{Store, Run}
use Rattle.rules.specs.declared.progress.State.{State}
use Rattle.rules.specs.declared.progress.State.TheVariants.{Waiting, Running, Good, Failed}
use Rattle.rules.proofs.Held.{if_holds}
use Rattle.std.proofs.lemmas.Bool.{and_parts, cases_Bool, not-true, not-false}

pub left_most : (s : State) (a d : ℕ) → left_of s a d ≤ a
left_most Waiting a d = omega arith
left_most Running a d = omega arith
left_most Good a d = omega arith
left_most (Failed c) a d = omega arith

module _ {P : Type 0} (store : Store P) (t : Plan) (base : ℕ) where
  -- what a row of steps leaves
  record Walked (r r' : Run P) (taken : ℕ) : Type 0 where
    ready : Ready store t base r'
    fewer : steps_left t r'.build.nodes + taken ≤ steps_left t r.build.nodes

  -- the jobs from number k on that are still to be stepped all run
  walk : (p : ℕ → Bool) (k j : ℕ) (r : Run P) → k + j ≤ t.nodes → Ready store t base r → ((n : ℕ) → n < t.nodes → k ≤ n → p n ≡ true → (is_make t n ≡ false) × (running r.build n ≡ true)) → Walked r (step_each store (those p (numbers k j)) r) (length (those p (numbers k j)))
  walk p k zero r end h due = record { ready = h; fewer = omega arith }
  walk p k (suc j) r end h due = by (p k) refl (walk p (k + 1) j)
    where
      by : (u : Bool) → p k ≡ u → ((q : Run P) → (k + 1) + j ≤ t.nodes → Ready store t base q → ((n : ℕ) → n < t.nodes → k + 1 ≤ n → p n ≡ true → (is_make t n ≡ false) × (running q.build n ≡ true)) → Walked q (step_each store (those p (numbers (k + 1) j)) q) (length (those p (numbers (k + 1) j)))) → Walked r (step_each store (put_if u k (those p (numbers (k + 1) j))) r) (length (put_if u k (those p (numbers (k + 1) j))))
      by false off onward = onward r (omega arith) h (λ n within from is. due n within (omega arith) is)
      by true is onward =
          let inside : k < t.nodes = omega arith in
          let now = due k inside (omega arith) is in
          let job : RunningJob r.build k = record { within = subst (λ q. k < q.nodes) (sym h.plan) inside; job = ap (λ q. is_make q k) h.plan ∙ now.0; runs = now.1 } in
          let o = step_outcome store t base k r h job in
          let rest = onward (step_run store k r) (omega arith) o.ready (λ n within from passes. let old = due n within (omega arith) passes in (old.0, step_others store k r h.shape job n (ap (λ q. is_make q n) h.plan ∙ old.0) (λ e. omega arith) old.1)) in
          record { ready = rest.ready; fewer = omega (arith, rest.fewer, o.fewer) }

  -- one round
  round : (r : Run P) → Ready store t base r → Walked r (step_each store (running_jobs r.build) r) (length (running_jobs r.build))
  round r h =
      let b = r.build in
      subst (λ n. Walked r (step_each store (those (λ i. running b i && not (is_make b.plan i)) (numbers 0 n)) r) (length (those (λ i. running b i && not (is_make b.plan i)) (numbers 0 n)))) (ap (λ q. q.nodes) (sym h.plan))
      (walk (λ n. running b n && not (is_make b.plan n)) 0 t.nodes r (omega arith) h
      (λ n within from passes. let parts = and_parts (running b n) (not (is_make b.plan n)) passes in (ap (λ q. is_make q n) (sym h.plan) ∙ not-true _ parts.1, parts.0)))

  -- while the build is not finished some job runs
  some_job : (r : Run P) → Ready store t base r → finished r.build ≡ false → 0 < length (running_jobs r.build)
  some_job r h going =
      let count = one_more h.shape h.busy (not-false (running r.build 0) going) in
      omega (arith, count, jobs_listed r.build)

  rounds_over : (fuel : ℕ) (r : Run P) → Ready store t base r → steps_left t r.build.nodes ≤ fuel → finished (rounds_by store fuel r).build ≡ true
  rounds_over zero r h few = ⊎_elim (λ over. over) (λ going. absurd (omega (arith, some_job r h going, (round r h).fewer))) (cases_Bool (finished r.build))
  rounds_over (suc fuel) r h few =
      if_holds (λ (q : Run P). finished q.build ≡ true) (finished r.build) (λ _. r) (λ _. rounds_by store fuel (step_each store (running_jobs r.build) r)) (λ over. over)
      (λ going. let one = round r h in rounds_over fuel _ one.ready (omega (arith, one.fewer, some_job r h going)))

  pub rounds_finish : (r : Run P) → Ready store t base r → finished (rounds_run store r).build ≡ true
  rounds_finish r h =
      let ns = r.build.nodes in
      let all = sum_within (λ n. left_of (state_of ns n) (t.steps n) (entry ns n).done) t.steps t.nodes (λ k b. left_most (state_of ns k) (t.steps k) (entry ns k).done) in
      let summed = subst (λ q. q.all_steps ≡ sum_below q.steps q.nodes) h.plan h.shape.planned.summed in
      let same = ap (λ q. q.all_steps) h.plan in
      rounds_over r.build.plan.all_steps r h (omega (arith, all, summed, same))
