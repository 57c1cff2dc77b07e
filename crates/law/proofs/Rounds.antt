-- What a row of accepted steps leaves. Assumes nothing.
use Rattle.std.proofs.Common.{◌≡◌, ℕ, ◌+◌, ◌<◌, ◌≤◌, true, false, cond, not, ◌&&◌, List, [], length, Some, None, Ok, Err, Result, sym, refl, ap, ◌∙◌, subst, arith}
use Rattle.law.proofs.Accepting.{job_accepts}
use Rattle.law.proofs.Carried.{RunningJob, step_others}
use Rattle.law.proofs.Counting.{jobs_listed, one_more}
use Rattle.law.proofs.Outcomes.{step_outcome}
use Rattle.law.proofs.Rounding.{left_most}
use Rattle.law.proofs.Shapes.{rooted}
use Rattle.law.proofs.Sums.{sum_within}
use Rattle.law.proofs.Sounding.{ready_of, sound_call}
use Rattle.law.specs.Answers.{Answers, answering, unasked}
use Rattle.law.specs.Calls.{Status, step, Called}
use Rattle.law.specs.Rounds.{Stepped, none, more, Rounds, over, round, RoundsCalled, TracesGoOn}
use Rattle.law.specs.Traces.{call, by_call}
use Rattle.law.specs.Sound.{entry, state_of, left_of, steps_left, Sound}
use Rattle.pool.specs.Ways.{Ways}
use Rattle.rules.specs.Builds.{finished, running, running_jobs}
use Rattle.rules.specs.Plans.{is_make, needed}
use Rattle.rules.specs.Refusing.{short_of, or_18, job_refusal}
use Rattle.std.proofs.lemmas.Bool.{and_parts, le-ltb, not-false}
use Rattle.rules.specs.Settling.{Run}
use Rattle.rules.specs.declared.refusal.Refusal.{Refusal}

-- a sound build of the same tree, with so many steps fewer to take
pub record Walked (s s' : Status) (taken : ℕ) : Type 0 where
  pub sound : Sound s'
  pub plan : s'.build.plan ≡ s.build.plan
  pub fewer : steps_left s'.build.plan s'.build.nodes + taken ≤ steps_left s.build.plan s.build.nodes

module _ {P : Type 0} (w : Ways P) where
  module _ (n jobs : ℕ) (s s' : Status) (p q : P) (old new : List ℕ) (h : Sound s) (c : Called w (step n) s p old (Ok jobs) s' q new) where
    abbrev begin : Run Answers
    begin = record { build = s.build; pool = unasked c.1.answers; records = [] }

    job : RunningJob s.build n
    job = (job_accepts s.build h.shape (w.means p).outs (length old) n c.0).1

    pub one_step : Walked s s' 1
    one_step =
        let o = step_outcome answering s.build.plan s.written n begin (ready_of answering s (unasked c.1.answers) h) job in
        let plan = ap (λ b. b.plan) c.1.build ∙ o.ready.plan in
        let same = ap (λ b. steps_left s.build.plan b.nodes) c.1.build in
        let left = ap (λ t. steps_left t s'.build.nodes) plan in
        record { sound = sound_call w (step n) s s' p q old new (Ok jobs) h c; plan = plan; fewer = omega (arith, o.fewer, same, left) }

    -- every other job that runs goes on
    pub others_run : (k : ℕ) → is_make s.build.plan k ≡ false → (k ≡ n → ⊥) → running s.build k ≡ true → running s'.build k ≡ true
    others_run k other apart on = ap (λ b. running b k) c.1.build ∙ step_others answering n begin h.shape job k other apart on

  pub all_steps : {ns : List ℕ} {s s' : Status} {p q : P} {old new : List ℕ} → Sound s → Stepped w ns s p old s' q new → Walked s s' (length ns)
  all_steps h none = record { sound = h; plan = refl; fewer = omega arith }
  all_steps h (more c rest) =
      let one = one_step _ _ _ _ _ _ _ _ h c in
      let others = all_steps one.sound rest in
      record { sound = others.sound; plan = others.plan ∙ one.plan; fewer = omega (arith, one.fewer, others.fewer) }

-- a running job can be stepped where the buffer is long enough and no token is missing
pub job_free : (s : Status) → Sound s → (outs : ℕ → ℕ) (buffer n : ℕ) → needed s.build.plan ≤ buffer → short_of s.build outs ≡ false → n < s.build.plan.nodes → (running s.build n && not (is_make s.build.plan n)) ≡ true → job_refusal s.build outs buffer n ≡ None
job_free s h outs buffer n long lent within on =
    let b = s.build in
    let top = rooted h.shape n within (and_parts (running b n) (not (is_make b.plan n)) on).0 in
    ap (λ x. or_18 b n (cond x (Some 15) (cond (finished b) (Some 16) (cond (short_of b outs) (Some 17) None)))) (le-ltb buffer (needed b.plan) long)
    ∙ ap (λ x. or_18 b n (cond x (Some 16) (cond (short_of b outs) (Some 17) None))) (ap not top)
    ∙ ap (λ x. or_18 b n (cond x (Some 17) None)) lent
    ∙ ap (λ x. cond x None (Some 18)) on

-- while a build is not finished some job runs
pub some_job : (s : Status) → Sound s → finished s.build ≡ false → 0 < length (running_jobs s.build)
some_job s h going =
    let count = one_more h.shape h.busy (not-false (running s.build 0) going) in
    omega (arith, count, jobs_listed s.build)

-- no more steps are left than all jobs have
pub few_left : (s : Status) → Sound s → steps_left s.build.plan s.build.nodes ≤ s.build.plan.all_steps
few_left s h =
    let t = s.build.plan in
    let ns = s.build.nodes in
    let all = sum_within (λ n. left_of (state_of ns n) (t.steps n) (entry ns n).done) t.steps t.nodes (λ k b. left_most (state_of ns k) (t.steps k) (entry ns k).done) in
    omega (arith, all, h.shape.planned.summed)

module _ {P : Type 0} (w : Ways P) where
  steps_go_on : {ns : List ℕ} {s s' : Status} {p q : P} {old new : List ℕ} → Stepped w ns s p old s' q new → TracesGoOn w s p old s' q new
  steps_go_on none start now trace there same = (now, trace, there, same, refl, λ first one. one)
  steps_go_on {s = first} (more {n} {jobs} {s' = mid} {q} {old} {mid = between} c rest) start now trace there same =
      let there_now = subst (λ x. Called w (step n) first x old (Ok jobs) mid q between) (sym same) c in
      let here = subst (λ x. Called w (step n) x now.pool old (Ok jobs) mid q between) (sym there) there_now in
      let all = steps_go_on rest start _ (call trace (step n) (Ok jobs) mid q old between here) refl refl in
      (all.0, all.1, all.2, all.3, all.4, λ opened one. all.5 opened (by_call now trace (step n) (Ok jobs) mid q old between here one))

  pub rounds_go_on : {n : ℕ} {s s' : Status} {p q : P} {old new : List ℕ} → Rounds w n s p old s' q new → TracesGoOn w s p old s' q new
  rounds_go_on (over fin) start now trace there same = (now, trace, there, same, refl, λ first one. one)
  rounds_go_on (round going stepped rest) start now trace there same =
      let one = steps_go_on stepped start now trace there same in
      let all = rounds_go_on rest start one.0 one.1 one.2 one.3 in
      (all.0, all.1, all.2, all.3, all.4 ∙ one.4, λ first written. all.5 first (one.5 first written))

  rounds_sound : {n : ℕ} {s s' : Status} {p q : P} {old new : List ℕ} → Sound s → Rounds w n s p old s' q new → Sound s'
  rounds_sound h (over fin) = h
  rounds_sound h (round going stepped rest) = rounds_sound (all_steps w h stepped).sound rest

  -- rounds leave a sound build, accepted or refused
  pub sound_rounds : (before after : Status) (p q : P) (old new : List ℕ) (r : Result ℕ Refusal) → Sound before → RoundsCalled w before p old r after q new → Sound after
  sound_rounds before after p q old new (Ok n) h d = rounds_sound h d.1
  sound_rounds before after p q old new (Err e) h d = subst Sound (sym d.1) h
