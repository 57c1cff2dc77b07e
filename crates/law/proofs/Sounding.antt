-- Every call leaves a sound build. Assumes nothing.
use Rattle.std.proofs.Common.{◌≡◌, ℕ, ◌+◌, ◌≤◌, Bool, true, false, cond, List, [], length, replicate, None, Ok, Err, Result, sym, refl, ap, ◌∙◌, subst, arith}
use lib.ListN.{length-replicate}
use Rattle.law.proofs.Accepting.{accepts, job_accepts}
use Rattle.law.proofs.Bounds.{sizes, sizes_written}
use Rattle.law.proofs.Ends.{Shaped}
use Rattle.law.proofs.Counting.{jobs_listed, one_more}
use Rattle.law.proofs.Outcomes.{Ready, fresh_entry, fresh_left, poll_outcome, step_outcome, kill_outcome, halt_outcome, open_outcome}
use Rattle.law.proofs.Planning.{trees_planned}
use Rattle.law.proofs.Rounding.{rounds_finish}
use Rattle.law.proofs.Running.{run_wait}
use Rattle.law.proofs.Shapes.{shape_fresh}
use Rattle.law.specs.Always.{unopened, OfAnyBuild}
use Rattle.law.specs.Answers.{Answers, answering, unasked}
use Rattle.law.specs.Calls.{Status, Ran, Request, step, kill, poll, halt, refusal_of, run_of, Called, Opened}
use Rattle.law.specs.Sound.{state_of, bytes_left, unended, Busy, Planned, Sound}
use Rattle.pool.specs.Meaning.{total}
use Rattle.pool.specs.Ways.{Ways}
use Rattle.rules.specs.Builds.{unbegun, is_running, is_waiting, running}
use Rattle.rules.specs.Calls.{open_run}
use Rattle.rules.specs.Plans.{Plan, plan_of, needed}
use Rattle.rules.specs.Settling.{Store, Run}
use Rattle.rules.specs.declared.refusal.Refusal.{Refusal}
use Rattle.std.proofs.lemmas.Bool.{not-false}
use Rattle.tree.specs.Questions.{nodes_of}

-- a sound build is ready for a run
pub ready_of : {P : Type 0} (store : Store P) (s : Status) (p : P) → Sound s → Ready store s.build.plan s.written (record { build = s.build; pool = p; records = [] })
ready_of store s p h = record { plan = refl; shape = h.shape; busy = h.busy; room = omega (arith, h.room) }

-- what a run leaves is sound
sound_of : {P : Type 0} (store : Store P) (t : Plan) (base : ℕ) (r : Run P) (after : Status) → Ready store t base r → after.build ≡ r.build → after.written ≡ base + sizes r.records → Sound after
sound_of store t base r after h same end =
    let room = subst (λ q. base + sizes r.records + bytes_left q r.build.nodes ≤ needed q) (sym h.plan) h.room in
    record {
      shape = subst (λ b. Shaped false b.plan.nodes b) (sym same) h.shape;
      busy = subst (λ b. Busy b.plan b.nodes) (sym same) h.busy;
      room = subst (λ b. after.written + bytes_left b.plan b.nodes ≤ needed b.plan) (sym same) (omega (arith, room, end));
    }

pub fresh_sound : (t : Plan) → Planned t → Sound (unopened t)
fresh_sound t planned =
    let ns = replicate t.nodes unbegun in
    let left = fresh_left t planned ns (fresh_entry t.nodes) in
    let none : (k : ℕ) → is_running (state_of ns k) ≡ true → ⊥ = λ k r. run_wait _ r (ap (λ x. is_waiting x.state) (fresh_entry t.nodes k)) in
    let top : ◌≡◌ {A = ℕ} (cond (unended (state_of ns 0)) 3 0) 3 = ap (λ x. cond (unended x.state) 3 0) (fresh_entry t.nodes 0) in
    record {
      shape = shape_fresh planned (length-replicate t.nodes unbegun) (fresh_entry t.nodes);
      busy = λ m within make r. absurd (none m r);
      room = omega (arith, left.0, left.1, top);
    }

module _ {P : Type 0} (w : Ways P) where
  -- how much was written
  end_of : (run : Answers → Run Answers) (from : ℕ) (p : P) (old : List ℕ) (after : Status) (q : P) (new : List ℕ) (ran : Ran w run from p old after q new) → after.written ≡ from + sizes (run (unasked ran.answers)).records
  end_of run from p old after q new ran = ran.wrote.end ∙ ap (λ n. from + n) (sizes_written (run (unasked ran.answers)).records)

  call_ready : (c : Request) (s : Status) (outs : ℕ → ℕ) (buffer : ℕ) (a : Answers) → Sound s → refusal_of c s.build outs buffer ≡ None → Ready answering s.build.plan s.written (run_of c (record { build = s.build; pool = a; records = [] }))
  call_ready (step n) s outs buffer a h free = (step_outcome answering s.build.plan s.written n _ (ready_of answering s a h) (job_accepts s.build h.shape outs buffer n free).1).ready
  call_ready (kill n) s outs buffer a h free = (kill_outcome answering s.build.plan s.written n _ (ready_of answering s a h) (job_accepts s.build h.shape outs buffer n free).1).ready
  call_ready poll s outs buffer a h free = (poll_outcome answering s.build.plan s.written _ (ready_of answering s a h) (accepts s.build outs buffer free).live).ready
  call_ready halt s outs buffer a h free = (halt_outcome answering s.build.plan s.written _ (ready_of answering s a h) (accepts s.build outs buffer free).live).ready

  pub sound_call : (c : Request) (before after : Status) (p q : P) (old new : List ℕ) (r : Result ℕ Refusal) → Sound before → Called w c before p old r after q new → Sound after
  sound_call c before after p q old new (Ok n) h d =
      let ran = d.1 in
      sound_of answering before.build.plan before.written _ after (call_ready c before (w.means p).outs (length old) (unasked ran.answers) h d.0) ran.build (end_of _ before.written p old after q new ran)
  sound_call c before after p q old new (Err e) h d = subst Sound (sym d.1) h

  pub sound_open : (t : Plan) → Planned t → (keep : Bool) (before after : Status) (p q : P) (old new : List ℕ) (r : Result ℕ Refusal) → Sound before → Opened w t keep before p old r after q new → Sound after
  sound_open t planned keep before after p q old new (Ok n) h d =
      let ran = d.1 in
      let o = open_outcome answering t planned keep (total (w.means p).ins) (unasked ran.answers) in
      sound_of answering t 0 (open_run answering t keep (total (w.means p).ins) (unasked ran.answers)) after (record { plan = o.books.plan; shape = o.books.shape; busy = o.books.busy; room = omega (arith, o.room) }) ran.build (end_of _ 0 p old after q new ran)
  sound_open t planned keep before after p q old new (Err e) h d = subst Sound (sym d.1) h

  pub of_any_build : OfAnyBuild w
  of_any_build = record {
    fresh = λ tree. fresh_sound (plan_of (nodes_of tree)) (trees_planned tree);
    opens = λ tree. sound_open (plan_of (nodes_of tree)) (trees_planned tree);
    calls = sound_call;
    room = λ s h. omega (arith, h.room);
    one_more = λ s h going. jobs_listed s.build ∙ one_more h.shape h.busy (not-false (running s.build 0) going);
    rounds = λ store s p h. rounds_finish store s.build.plan s.written _ (ready_of store s p h);
  }
