-- Each call of a build is its own first part and then a row of moves; the build comes to rest in its shape. Assumes nothing.
use Rattle.std.proofs.Common.{◌≡◌, ℕ, zero, suc, ◌+◌, ◌<◌, ◌≤◌, Bool, true, false, not, ◌&&◌, eqb, ◌⊎◌, List, [], ◌∷◌, length, get_or, set, replicate, sym, refl, ap, ◌∙◌, subst, inl, inr, ⊎_elim, arith, length-set, get_or-set_other, get_or-set_same}
use lib.ListN.{length-replicate}
use Rattle.law.proofs.Bridges.{busy_now}
use Rattle.law.proofs.Counting.{jobs_on, one_more}
use Rattle.law.proofs.Ends.{Shaped, Climbed, climbed}
use Rattle.law.proofs.Moves.{Moves, after_child, both_moves, still}
use Rattle.law.proofs.Running.{none_counted, one_false}
use Rattle.law.proofs.Settles.{Stands, settle_rests}
use Rattle.law.proofs.Shapes.{Due, Stopped, shape_open, shape_step, shape_stop, shape_calm, pend, unpend, rooted}
use Rattle.law.proofs.Sums.{sum_none}
use Rattle.law.specs.Sound.{state_of, is_failed, children_running, Planned, Shape, Busy}
use Rattle.rules.specs.Builds.{Build, unbegun, at, is_running, running, with_node}
use Rattle.rules.specs.Calls.{noted, on_build, opening, open_run, last_step, stepped, step_run, kill_run, poll_run, stop, stop_all, end_all, halt_run}
use Rattle.rules.specs.Ending.{end_node}
use Rattle.rules.specs.Lists.{if_so, numbers, those, put_if}
use Rattle.rules.specs.Plans.{Plan, is_make, all_makes}
use Rattle.rules.specs.Settled.{NothingStarts}
use Rattle.rules.specs.Settling.{Store, Run, settle}
use Rattle.rules.specs.declared.progress.Progress.{Progress}
use Rattle.rules.specs.declared.progress.State.{State}
use Rattle.rules.specs.declared.progress.State.TheVariants.{Good, Failed}
use Rattle.rules.proofs.Backs.{last_ended, stop_plan}
use Rattle.rules.proofs.Held.{if_holds}
use Rattle.rules.proofs.Telling.{set_keeps}
use Rattle.schedule.specs.declared.cause.Cause.TheVariants as causes
use Rattle.schedule.specs.declared.record.Record.TheVariants.{Step, Kill, Halt}
use Rattle.std.proofs.lemmas.Bool.{cases_eq, cases_Bool, and_parts, and_from, eqb-true, eqb-false, true≢false, false≢true, both_ways, not-true, not_from_false}

-- a running job of the tree
pub record RunningJob (b : Build) (n : ℕ) : Type 0 where
  pub within : n < b.plan.nodes
  pub job : is_make b.plan n ≡ false
  pub runs : running b n ≡ true

-- a job has no children
job_idle : {h : Bool} {p : ℕ} (b : Build) → Shaped h p b → (n : ℕ) → is_make b.plan n ≡ false → children_running b.plan b.nodes n ≡ 0
job_idle b s n job = none_counted b.plan b.nodes n (λ k below is r. both_ways _ job (ap (is_make b.plan) (sym is) ∙ (s.planned.ordered.placed k below.0 below.1).1))

-- a running job may end, as failed at any time and well after its steps
job_due : {h : Bool} {p : ℕ} (b : Build) → Shaped h p b → (how : State) (n : ℕ) → RunningJob b n → (how ≡ Good → (at b n).done ≡ b.plan.steps n) → Due b.plan b.nodes how n
job_due b s how n j all = record {
  within = j.within;
  runs = j.runs;
  idle = job_idle b s n j.job;
  job = λ well _. all well;
  children = λ well k below is. absurd (both_ways _ j.job (ap (is_make b.plan) (sym is) ∙ (s.planned.ordered.placed k below.0 below.1).1));
}

-- a job is not the top make
job_nested : {h : Bool} {p : ℕ} (b : Build) → Shaped h p b → (n : ℕ) → RunningJob b n → 0 < n
job_nested b s n j = ⊎_elim (λ top. absurd (both_ways _ j.job (ap (is_make b.plan) top ∙ s.planned.ordered.top))) (λ far. omega (arith, far)) (cases_eq n 0)

-- where the top make does not run, nothing does, and nothing may start
pub over_stands : (b : Build) {h : Bool} {p : ℕ} → Shaped h p b → running b 0 ≡ false → NothingStarts b
over_stands b s over m c make st = both_ways _ over (rooted s m make.0 st.live)

-- stopping changes nothing else
pub stop_view : (ms : List ℕ) (b : Build) → Stopped b.nodes (stop_all ms b).nodes × ((stop_all ms b).tokens ≡ b.tokens)
stop_view [] b = (record { long = refl; states = λ k. refl; dones = λ k. refl; firsts = λ k. refl }, refl)
stop_view (m ∷ ms) b =
    let rest = stop_view ms (with_node b m (stop (at b m))) in
    let x = stop (at b m) in (
      record {
        long = rest.0.long ∙ length-set b.nodes m x;
        states = λ k. rest.0.states k ∙ set_keeps (λ y. y.state) b.nodes m x unbegun k refl;
        dones = λ k. rest.0.dones k ∙ set_keeps (λ y. y.done) b.nodes m x unbegun k refl;
        firsts = λ k. rest.0.firsts k ∙ set_keeps (λ y. y.first_failed) b.nodes m x unbegun k refl;
      },
      rest.1,
    )

-- what is stopped stays so
stop_stays : (ms : List ℕ) (b : Build) (k : ℕ) → (at b k).stopped ≡ true → (at (stop_all ms b) k).stopped ≡ true
stop_stays [] b k st = st
stop_stays (m ∷ ms) b k st =
    stop_stays ms (with_node b m (stop (at b m))) k
    (⊎_elim
    (λ same. ⊎_elim
    (λ inside. ap (λ j. (get_or (set b.nodes m (stop (at b m))) j unbegun).stopped) same ∙ inside)
    (λ outside. absurd (true≢false (sym st ∙ ap (λ j. (at b j).stopped) same ∙ outside)))
    (here b.nodes m))
    (λ apart. ap (λ y. y.stopped) (get_or-set_other b.nodes m k (stop (at b m)) unbegun apart) ∙ st)
    (cases_eq k m))
  where
    -- the entry itself, or it is past the table
    here : (ns : List Progress) (i : ℕ) → ((get_or (set ns i (stop (get_or ns i unbegun))) i unbegun).stopped ≡ true) ⊎ ((get_or ns i unbegun).stopped ≡ false)
    here [] i = inr refl
    here (y ∷ ns) zero = inl refl
    here (y ∷ ns) (suc i) = here ns i

-- every one of the list is stopped
stop_reaches : (q : ℕ → Bool) (k n : ℕ) (b : Build) (i : ℕ) → k ≤ i → i < k + n → q i ≡ true → i < length b.nodes → (at (stop_all (those q (numbers k n)) b) i).stopped ≡ true
stop_reaches q k zero b i from to is inside = absurd (omega arith)
stop_reaches q k (suc n) b i from to is inside = by (q k) refl (λ c. stop_reaches q (k + 1) n c i)
  where
    later : q k ≡ false → k + 1 ≤ i
    later no-k = let apart : i ≡ k → ⊥ = λ e. both_ways _ no-k (ap q (sym e) ∙ is) in omega (arith, apart)

    by : (t : Bool) → q k ≡ t → ((c : Build) → k + 1 ≤ i → i < (k + 1) + n → q i ≡ true → i < length c.nodes → (at (stop_all (those q (numbers (k + 1) n)) c) i).stopped ≡ true) → (at (stop_all (put_if t k (those q (numbers (k + 1) n))) b) i).stopped ≡ true
    by true yes-k onward =
        ⊎_elim
        (λ same. stop_stays (those q (numbers (k + 1) n)) (with_node b k (stop (at b k))) i (ap (λ j. (get_or (set b.nodes k (stop (at b k))) j unbegun).stopped) same ∙ ap (λ y. y.stopped) (get_or-set_same b.nodes k (stop (at b k)) unbegun (subst (λ j. j < length b.nodes) same inside))))
        (λ apart. onward (with_node b k (stop (at b k))) (omega (arith, apart)) (omega arith) is (omega (arith, inside, length-set b.nodes k (stop (at b k)))))
        (cases_eq i k)
    by false no-k onward = onward b (later no-k) (omega arith) is inside

module _ {P : Type 0} (store : Store P) where
  -- the first parts of the calls
  abbrev pub step_first : ℕ → Run P → Run P
  step_first n r = on_build (λ b. with_node b n (stepped (at b n))) (noted (Step n) r)

  abbrev pub kill_first : ℕ → Run P → Run P
  kill_first n r = after_child store (Failed causes.Kill) n (noted (Kill n) r)

  abbrev pub halt_first : Run P → Run P
  halt_first r = on_build (λ b. stop_all (all_makes b.plan) b) (noted Halt r)

  pub record Carried (first r' : Run P) : Type 0 where
    pub shape : Shaped false r'.build.plan.nodes r'.build
    pub busy : Busy r'.build.plan r'.build.nodes
    pub moves : Moves store first r'
    pub plan : r'.build.plan ≡ first.build.plan
    pub stands : Stands store r'

  -- moves, and then settling
  then_settles : (first mid : Run P) → Moves store first mid → mid.build.plan ≡ first.build.plan → Shaped false mid.build.plan.nodes mid.build → Carried first (settle store mid)
  then_settles first mid moves plan shape =
      let rest = settle_rests store mid shape in
      record {
        shape = rest.shape;
        busy = busy_now (settle store mid).build rest.shape rest.used;
        moves = both_moves store moves rest.moves;
        plan = rest.plan ∙ plan;
        stands = rest.stands;
      }

  pub poll_carried : (r : Run P) → Shaped false r.build.plan.nodes r.build → Carried r (poll_run store r)
  poll_carried r s = then_settles r r still refl s

  fresh_entry : (k n : ℕ) → get_or (replicate k unbegun) n unbegun ≡ unbegun
  fresh_entry zero n = refl
  fresh_entry (suc k) zero = refl
  fresh_entry (suc k) (suc n) = fresh_entry k n

  pub open_carried : (t : Plan) → Planned t → (keep : Bool) (tokens : ℕ) (p : P) → Carried (opening t keep tokens p) (open_run store t keep tokens p)
  open_carried t planned keep tokens p =
      let start = opening t keep tokens p in
      then_settles start start still refl (shape_open (replicate t.nodes unbegun) planned (length-replicate t.nodes unbegun) (fresh_entry t.nodes))

  module _ (n : ℕ) (r : Run P) (s : Shaped false r.build.plan.nodes r.build) (j : RunningJob r.build n) where
    one : Run P
    one = step_first n r

    -- what a step or its end leaves
    pub record Stepped (mid : Run P) : Type 0 where
      pub shape : Shaped false mid.build.plan.nodes mid.build
      pub moves : Moves store (step_first n r) mid
      pub plan : mid.build.plan ≡ r.build.plan
      pub others : (k : ℕ) → is_make r.build.plan k ≡ false → (k ≡ n → ⊥) → running r.build k ≡ true → running mid.build k ≡ true

    shape_one : Shape false n r.build.plan (set r.build.nodes n (stepped (at r.build n))) r.build.tokens
    shape_one = shape_step s n j.within j.runs

    same_states : (k : ℕ) → state_of (set r.build.nodes n (stepped (at r.build n))) k ≡ state_of r.build.nodes k
    same_states k = set_keeps (λ x. x.state) r.build.nodes n (stepped (at r.build n)) unbegun k refl

    job_one : RunningJob (step_first n r).build n
    job_one = record { within = j.within; job = j.job; runs = ap is_running (same_states n) ∙ j.runs }

    more_done : (at (step_first n r).build n).done ≡ (at r.build n).done + 1
    more_done = ap (λ x. x.done) (get_or-set_same r.build.nodes n (stepped (at r.build n)) unbegun (omega (arith, j.within, s.whole)))

    stepped_so : Stepped (if_so (eqb (at (step_first n r).build n).done ((step_first n r).build.plan.steps n)) (λ _. end_node store (last_step ((step_first n r).build.plan.kind n)) n (step_first n r)) (λ _. step_first n r))
    stepped_so =
        let first = step_first n r in
        let how = last_step (first.build.plan.kind n) in
        if_holds Stepped (eqb (at first.build n).done (first.build.plan.steps n)) (λ _. end_node store how n first) (λ _. first)
        (λ last.
        let up = climbed store false (suc n) how n first (omega arith) (last_ended (first.build.plan.kind n)) (λ halting. absurd (false≢true halting)) (λ top. absurd (omega (arith, top, job_nested r.build s n j))) shape_one (job_due first.build shape_one how n job_one (λ _. eqb-true _ _ last)) in
        record {
          shape = up.shape;
          moves = up.moves;
          plan = up.plan;
          others = λ k job apart on. ap is_running (up.jobs k job apart ∙ same_states k) ∙ on;
        })
        (λ more. record {
          shape = unpend shape_one (λ job runs. let less = s.going n j.within j.job (λ e. omega (arith, j.within)) j.runs in let apart = eqb-false _ _ more in let done = more_done in omega (arith, less, apart, done)) (λ make. absurd (both_ways _ j.job make));
          moves = still;
          plan = refl;
          others = λ k job apart on. ap is_running (same_states k) ∙ on;
        })

    pub step_carried : Carried (step_first n r) (step_run store n r)
    step_carried = then_settles (step_first n r) _ stepped_so.moves stepped_so.plan stepped_so.shape

    -- the other running jobs still run
    pub step_others : (k : ℕ) → is_make r.build.plan k ≡ false → (k ≡ n → ⊥) → running r.build k ≡ true → running (step_run store n r).build k ≡ true
    step_others k job apart on = (settle_rests store _ stepped_so.shape).stay k (stepped_so.others k job apart on)

    kill_climbed : Climbed store false (Failed causes.Kill) n (noted (Kill n) r) (end_node store (Failed causes.Kill) n (noted (Kill n) r))
    kill_climbed = climbed store false (suc n) (Failed causes.Kill) n (noted (Kill n) r) (omega arith) refl (λ halting. absurd (false≢true halting)) (λ top. absurd (omega (arith, top, job_nested r.build s n j))) (pend s n) (job_due r.build s (Failed causes.Kill) n j (λ well. absurd (true≢false (ap is_failed well))))

    pub kill_due : Due r.build.plan r.build.nodes (Failed causes.Kill) n
    kill_due = job_due r.build s (Failed causes.Kill) n j (λ well. absurd (true≢false (ap is_failed well)))

    pub kill_nested : 0 < n
    kill_nested = job_nested r.build s n j

    pub record Killed (r' : Run P) : Type 0 where
      pub shape : Shaped false r'.build.plan.nodes r'.build
      pub busy : Busy r'.build.plan r'.build.nodes
      pub moves : Moves store (kill_first n r) r'
      pub plan : r'.build.plan ≡ r.build.plan
      pub stands : Stands store r'

    pub kill_carried : Killed (kill_run store n r)
    kill_carried =
        let rest = then_settles (noted (Kill n) r) _ kill_climbed.moves kill_climbed.plan kill_climbed.shape in
        record {
          shape = rest.shape;
          busy = rest.busy;
          moves = both_moves store (kill_climbed.onward kill_nested) (settle_rests store _ kill_climbed.shape).moves;
          plan = rest.plan;
          stands = rest.stands;
        }

  -- the jobs that a halt ends, from number k on
  pub record Halting (t : Plan) (p : ℕ → Bool) (k : ℕ) (r : Run P) : Type 0 where
    pub plan : r.build.plan ≡ t
    pub shape : Shaped true r.build.plan.nodes r.build
    pub stopped : (m : ℕ) → m < t.nodes → is_make t m ≡ true → (at r.build m).stopped ≡ true
    pub only : (n : ℕ) → n < t.nodes → is_make t n ≡ false → running r.build n ≡ true → (k ≤ n) × (p n ≡ true)
    pub due : (n : ℕ) → n < t.nodes → k ≤ n → p n ≡ true → (is_make t n ≡ false) × (running r.build n ≡ true)

  pub record Halted (t : Plan) (r r' : Run P) : Type 0 where
    pub plan : r'.build.plan ≡ t
    pub shape : Shaped true r'.build.plan.nodes r'.build
    pub stopped : (m : ℕ) → m < t.nodes → is_make t m ≡ true → (at r'.build m).stopped ≡ true
    pub none : (n : ℕ) → n < t.nodes → is_make t n ≡ false → running r'.build n ≡ true → ⊥
    pub moves : Moves store r r'

  halting_all : (t : Plan) (p : ℕ → Bool) (k j : ℕ) (r : Run P) → k + j ≡ t.nodes → Halting t p k r → Halted t r (end_all store (those p (numbers k j)) r)
  halting_all t p k zero r end h = record {
    plan = h.plan;
    shape = h.shape;
    stopped = h.stopped;
    none = λ n within job on. omega (arith, (h.only n within job on).0);
    moves = still;
  }
  halting_all t p k (suc j) r end h = by (p k) refl (λ q onward. halting_all t p (k + 1) j q (omega arith) onward)
    where
      by : (u : Bool) → p k ≡ u → ((q : Run P) → Halting t p (k + 1) q → Halted t q (end_all store (those p (numbers (k + 1) j)) q)) → Halted t r (end_all store (put_if u k (those p (numbers (k + 1) j))) r)
      by false off onward = onward r (record {
        plan = h.plan;
        shape = h.shape;
        stopped = h.stopped;
        only = λ n within job on. let old = h.only n within job on in (let apart : n ≡ k → ⊥ = λ e. both_ways _ off (ap p (sym e) ∙ old.1) in omega (arith, old.0, apart), old.1);
        due = λ n within from is. h.due n within (omega arith) is;
      })
      by true is onward =
          let inside : k < t.nodes = omega arith in
          let due = h.due k inside (omega arith) is in
          let back : (x : ℕ) → is_make t x ≡ false → is_make r.build.plan x ≡ false = λ x job. ap (λ q. is_make q x) h.plan ∙ job in
          let running-job : RunningJob r.build k = record { within = subst (λ q. k < q.nodes) (sym h.plan) inside; job = back k due.0; runs = due.1 } in
          let up = climbed store true (suc k) (Failed causes.Halt) k r (omega arith) refl (λ _. refl) (λ top. absurd (omega (arith, top, job_nested r.build h.shape k running-job))) (pend h.shape k) (job_due r.build h.shape (Failed causes.Halt) k running-job (λ well. absurd (true≢false (ap is_failed well)))) in
          let rest = onward (end_node store (Failed causes.Halt) k r) (record {
            plan = up.plan ∙ h.plan;
            shape = up.shape;
            stopped = λ m within make. up.stays m (h.stopped m within make);
            only = λ n within job on.
                let apart : n ≡ k → ⊥ = λ e. both_ways _ (up.gone (back k due.0)) (ap (λ i. running (end_node store (Failed causes.Halt) k r).build i) (sym e) ∙ on) in
                let old = h.only n within job (ap is_running (sym (up.jobs n (back n job) apart)) ∙ on) in
                (omega (arith, old.0, apart), old.1);
            due = λ n within from passes.
                let old = h.due n within (omega arith) passes in
                (old.0, ap is_running (up.jobs n (back n old.0) (λ e. omega arith)) ∙ old.1);
          }) in
          record { plan = rest.plan; shape = rest.shape; stopped = rest.stopped; none = rest.none; moves = both_moves store up.moves rest.moves }

  module _ (r : Run P) (s : Shaped false r.build.plan.nodes r.build) (busy : Busy r.build.plan r.build.nodes) where
    halt_halted : Halted r.build.plan (halt_first r) (halt_run store r)
    halt_halted =
        let b = r.build in
        let t = b.plan in
        let view = stop_view (all_makes t) b in
        let plan = stop_plan (all_makes t) b in
        let shape : Shape true t.nodes t (stop_all (all_makes t) b).nodes (stop_all (all_makes t) b).tokens = subst (Shape true t.nodes t (stop_all (all_makes t) b).nodes) (sym view.1) (shape_stop s busy view.0) in
        halting_all t (λ n. running b n && not (is_make t n)) 0 t.nodes (halt_first r) (omega arith) (record {
          plan = plan;
          shape = subst (λ q. Shape true q.nodes q (stop_all (all_makes t) b).nodes (stop_all (all_makes t) b).tokens) (sym plan) shape;
          stopped = λ m within make. stop_reaches (is_make t) 0 t.nodes b m (omega arith) (omega arith) make (omega (arith, within, s.whole));
          only = λ n within job on. (omega arith, and_from _ _ (ap is_running (sym (view.0.states n)) ∙ on) (not_from_false _ job));
          due = λ n within from passes. let parts = and_parts (running b n) (not (is_make t n)) passes in (not-true _ parts.1, ap is_running (view.0.states n) ∙ parts.0);
        })

    -- a halt finishes the build
    pub halt_over : running (halt_run store r).build 0 ≡ false
    halt_over =
        let done = halt_halted in
        let b' = (halt_run store r).build in
        let t = r.build.plan in
        ⊎_elim
        (λ on.
        let all-busy : Busy b'.plan b'.nodes = λ m within make live. ⊎_elim (λ some. some)
        (λ may. absurd (both_ways _ may.0 (done.stopped m (subst (λ q. m < q.nodes) done.plan within) (ap (λ q. is_make q m) (sym done.plan) ∙ make))))
        (done.shape.able m within make (λ e. omega (arith, within)) live) in
        let count = one_more done.shape all-busy on in
        let none : jobs_on b'.plan b'.nodes ≡ 0 = sum_none _ b'.plan.nodes (λ k within. one_false _ (⊎_elim
        (λ yes_so. let parts = and_parts (running b' k) (not (is_make b'.plan k)) yes_so in absurd (done.none k (subst (λ q. k < q.nodes) done.plan within) (ap (λ q. is_make q k) (sym done.plan) ∙ not-true _ parts.1) parts.0))
        (λ no-so. no-so) (cases_Bool (running b' k && not (is_make b'.plan k))))) in
        absurd (omega (arith, count, none)))
        (λ off. off)
        (cases_Bool (running b' 0))

    pub halt_carried : Carried (halt_first r) (halt_run store r)
    halt_carried =
        let done = halt_halted in
        let b' = (halt_run store r).build in
        let shape = shape_calm done.shape halt_over in
        record {
          shape = shape;
          busy = λ m within make live. absurd (both_ways _ halt_over (rooted shape m within live));
          moves = done.moves;
          plan = done.plan ∙ sym (stop_plan (all_makes r.build.plan) r.build);
          stands = inr (over_stands b' shape halt_over);
        }
