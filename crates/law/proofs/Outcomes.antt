-- What each accepted call comes to: the books of the build, and what may still be done and written. Assumes nothing.
use Rattle.std.proofs.Common.{◌≡◌, ℕ, zero, suc, ◌+◌, ◌-◌, ◌*◌, ◌<◌, ◌≤◌, Bool, true, false, cond, not, eqb, List, [], ◌∷◌, ◌++◌, length, get_or, set, replicate, sym, refl, ap, ◌∙◌, subst, ⊎_elim, append-nil, arith, length-set, get_or-set_same}
use lib.ListN.{length-replicate}
use Rattle.law.proofs.Bounds.{run_unended, over_ended, sizes, bytes_with, Within, keeping_within, child_ended, end_falls, end_uses, step_falls, stop_same}
use Rattle.law.proofs.Carried.{RunningJob, step_first, kill_first, halt_first, open_carried, poll_carried, step_carried, kill_carried, kill_due, kill_nested, halt_carried, halt_over, stop_view}
use Rattle.law.proofs.Ends.{Shaped}
use Rattle.law.proofs.Moves.{Moves, moves_keep}
use Rattle.law.proofs.Settles.{Stands}
use Rattle.law.proofs.Running.{run_begun}
use Rattle.law.proofs.Shapes.{rooted}
use Rattle.law.proofs.Sums.{sum_same, sum_change}
use Rattle.law.proofs.Telling.{Told, Kept, verdict, keeping_told, told_same, told_quiet, quiet_open, quiet_step, quiet_kill, quiet_halt}
use Rattle.law.proofs.Views.{turned, turned_here, turned_there, set_field}
use Rattle.law.specs.Counts.{one_if, finish_of}
use Rattle.law.specs.Sound.{entry, state_of, left_of, steps_left, bytes_of, unended, Planned, Busy}
use Rattle.pool.specs.Meaning.{sum_below}
use Rattle.rules.specs.Builds.{Build, unbegun, is_running, is_waiting, running, with_state}
use Rattle.rules.specs.Calls.{noted, opening, open_run, step_run, kill_run, poll_run, halt_run, stepped, stop_all}
use Rattle.rules.specs.Plans.{Plan, needed, all_makes}
use Rattle.rules.specs.Settling.{Store, Run}
use Rattle.rules.specs.declared.progress.Progress.{Progress}
use Rattle.rules.specs.declared.progress.State.{State}
use Rattle.rules.specs.declared.progress.State.TheVariants.{Waiting, Running, Good, Failed}
use Rattle.rules.proofs.Backs.{stop_plan}
use Rattle.rules.proofs.Telling.{set_keeps}
use Rattle.schedule.specs.declared.cause.Cause.TheVariants as causes
use Rattle.schedule.specs.declared.record.Record.{Record}
use Rattle.schedule.specs.declared.record.Record.TheVariants.{Open, Step, Kill, Halt, PutBack}
use Rattle.std.proofs.lemmas.Bool.{cases_eq, eq-eqb, ne_eqb}

-- the build of the tree t and all records so far, the last one first, fit together
pub record Books (t : Plan) (b : Build) (rs : List Record) : Type 0 where
  pub plan : b.plan ≡ t
  pub shape : Shaped false b.plan.nodes b
  pub busy : Busy b.plan b.nodes
  pub begun : is_waiting (state_of b.nodes 0) ≡ false
  pub told : Told b.nodes b.tokens rs
  pub finish : finish_of rs ≡ verdict (state_of b.nodes 0)

-- nothing is told by no records
told_none : (ns : List Progress) → ((k : ℕ) → 0 < k → state_of ns k ≡ Waiting) → Told ns [] []
told_none ns none = record {
  tokens = λ m k. refl;
  own = λ later m k earlier e. absurd (not_empty later m k earlier e);
  starts = λ n pos. sym (ap (λ s. one_if (not (is_waiting s))) (none n pos));
  on = λ n pos. sym (ap is_running (none n pos));
  well = λ n pos. sym (ap (λ s. one_if (good s)) (none n pos));
}
  where
    good : State → Bool
    good s = elim s [ Waiting ↦ false | Running ↦ false | Good ↦ true | Failed c ↦ false ]

    not_empty : (later : List Record) (m k : ℕ) (earlier : List Record) → [] ≡ later ++ PutBack m k ∷ earlier → ⊥
    not_empty [] m k earlier e = let z : ◌≡◌ {A = ℕ} 0 1 = cc in omega arith
    not_empty (x ∷ later) m k earlier e = let z : ◌≡◌ {A = ℕ} 0 1 = cc in omega arith

-- What each call comes to, whatever was written before.
module _ {P : Type 0} (store : Store P) (t : Plan) (base : ℕ) where
  -- a run may begin: the build has its shape, and there is room
  pub record Ready (r : Run P) : Type 0 where
    pub plan : r.build.plan ≡ t
    pub shape : Shaped false r.build.plan.nodes r.build
    pub busy : Busy r.build.plan r.build.nodes
    pub room : base + sizes r.records + bytes_with 3 t r.build.nodes ≤ needed t

  pub record Outcome (used : ℕ) (stepped-on : ℕ → ℕ) (r r' : Run P) : Type 0 where
    pub ready : Ready r'
    pub stands : Stands store r'
    pub fewer : steps_left t r'.build.nodes + used ≤ steps_left t r.build.nodes
    pub dones : (k : ℕ) → (entry r'.build.nodes k).done ≡ (entry r.build.nodes k).done + stepped-on k

  -- the first part and the moves behind it
  concluded : (used : ℕ) (stepped-on : ℕ → ℕ) (left : ℕ) (e : ℕ) (r first r' : Run P) → Moves store first r' → Shaped false r'.build.plan.nodes r'.build → Busy r'.build.plan r'.build.nodes → Stands store r' → Within store t base e left (λ k. (entry r.build.nodes k).done + stepped-on k) first → left + used ≤ steps_left t r.build.nodes → (is_waiting (state_of r'.build.nodes 0) ≡ false → bytes_with 3 t r'.build.nodes ≤ bytes_with e t r'.build.nodes) → Outcome used stepped-on r r'
  concluded used stepped-on left e r first r' moves shape busy stands within less top =
      let w = moves_keep store (Within store t base e left (λ k. (entry r.build.nodes k).done + stepped-on k)) (keeping_within store t base e left _) moves within in
      record {
        ready = record { plan = w.plan; shape = shape; busy = busy; room = omega (arith, w.room, top w.begun) };
        stands = stands;
        fewer = omega (arith, w.steps, less);
        dones = w.done;
      }

  pub poll_outcome : (r : Run P) → Ready r → running r.build 0 ≡ true → Outcome 0 (λ k. 0) r (poll_run store r)
  poll_outcome r h top =
      let c = poll_carried store r h.shape in
      concluded 0 (λ k. 0) (steps_left t r.build.nodes) 3 r r _ c.moves c.shape c.busy c.stands
      (record { plan = h.plan; whole = h.shape.whole ∙ ap (λ q. q.nodes) h.plan; begun = run_begun _ top; steps = omega arith; room = h.room; done = λ k. omega arith })
      (omega arith) (λ _. omega arith)

  module _ (n : ℕ) (r : Run P) (h : Ready r) (j : RunningJob r.build n) where
    more : (entry r.build.nodes n).done < t.steps n
    more = subst (λ q. (entry r.build.nodes n).done < q.steps n) h.plan (h.shape.going n j.within j.job (λ e. omega (arith, j.within)) j.runs)

    inside : n < t.nodes
    inside = subst (λ q. n < q.nodes) h.plan j.within

    top_on : running r.build 0 ≡ true
    top_on = rooted h.shape n j.within j.runs

    in_table : n < length r.build.nodes
    in_table = omega (arith, j.within, h.shape.whole)

    pub step_outcome : Outcome 1 (λ k. one_if (eqb n k)) r (step_run store n r)
    step_outcome =
        let c = step_carried store n r h.shape j in
        let ns = r.build.nodes in
        let x = stepped (entry ns n) in
        let falls = step_falls t ns n inside in_table j.runs more 3 in
        concluded 1 (λ k. one_if (eqb n k)) (steps_left t (set ns n x)) 3 r (step_first store n r) _ c.moves c.shape c.busy c.stands
        (record {
          plan = h.plan;
          whole = length-set ns n x ∙ h.shape.whole ∙ ap (λ q. q.nodes) h.plan;
          begun = ap is_waiting (set_keeps (λ y. y.state) ns n x unbegun 0 refl) ∙ run_begun _ top_on;
          steps = omega arith;
          room = omega (arith, h.room, falls.1);
          done = λ k. ⊎_elim
              (λ same. ap (λ i. (entry (set ns n x) i).done) same ∙ ap (λ y. y.done) (get_or-set_same ns n x unbegun in_table) ∙ ap (λ i. (entry ns i).done + 1) (sym same) ∙ ap (λ u. (entry ns k).done + one_if u) (sym (eq-eqb n k (sym same))))
              (λ apart. set_field (λ y. y.done) ns n x k in_table ∙ ap (λ u. cond u ((entry ns n).done + 1) (entry ns k).done) (ne_eqb n k (λ e. apart (sym e))) ∙ let none : one_if (eqb n k) ≡ 0 = ap one_if (ne_eqb n k (λ e. apart (sym e))) in omega (arith, none))
              (cases_eq k n);
        })
        (omega (arith, falls.0)) (λ _. omega arith)

    pub kill_outcome : Outcome 1 (λ k. 0) r (kill_run store n r)
    kill_outcome =
        let c = kill_carried store n r h.shape j in
        let pos = kill_nested store n r h.shape j in
        let ended = child_ended store (Failed causes.Kill) n (noted (Kill n) r) refl in_table in
        let falls = end_falls t ended.turn pos inside refl j.runs 3 in
        let uses = end_uses t ended.turn inside refl j.runs more in
        concluded 1 (λ k. 0) (steps_left t (kill_first store n r).build.nodes) 3 r (kill_first store n r) _ c.moves c.shape c.busy c.stands
        (record {
          plan = ended.plan ∙ h.plan;
          whole = ended.turn.long ∙ h.shape.whole ∙ ap (λ q. q.nodes) h.plan;
          begun = ap is_waiting (turned_there ended.turn 0 (λ e. omega arith)) ∙ run_begun _ top_on;
          steps = omega arith;
          room = omega (arith, h.room, falls.room, ended.records);
          done = λ k. ended.turn.dones k ∙ omega arith;
        })
        (omega (arith, uses)) (λ _. omega arith)

  pub halt_outcome : (r : Run P) → Ready r → running r.build 0 ≡ true → Outcome 0 (λ k. 0) r (halt_run store r)
  halt_outcome r h top =
      let c = halt_carried store r h.shape h.busy in
      let over = halt_over store r h.shape h.busy in
      let b = r.build in
      let view = stop_view (all_makes b.plan) b in
      let same = stop_same t b.nodes (stop_all (all_makes b.plan) b).nodes view.0 2 in
      let before : ◌≡◌ {A = ℕ} (cond (unended (state_of b.nodes 0)) 3 0) 3 = ap (λ x. cond x 3 0) (run_unended _ top) in
      let after : ◌≡◌ {A = ℕ} (cond (unended (state_of b.nodes 0)) 2 0) 2 = ap (λ x. cond x 2 0) (run_unended _ top) in
      concluded 0 (λ k. 0) (steps_left t b.nodes) 2 r (halt_first store r) _ c.moves c.shape c.busy c.stands
      (record {
        plan = stop_plan (all_makes b.plan) b ∙ h.plan;
        whole = view.0.long ∙ h.shape.whole ∙ ap (λ q. q.nodes) h.plan;
        begun = ap is_waiting (view.0.states 0) ∙ run_begun _ top;
        steps = omega (arith, same.0);
        room = omega (arith, h.room, same.1, before, after);
        done = λ k. view.0.dones k ∙ omega arith;
      })
      (omega arith) (λ begun. let end-3 : ◌≡◌ {A = ℕ} (cond (unended (state_of (halt_run store r).build.nodes 0)) 3 0) 0 = ap (λ x. cond x 3 0) (over_ended _ begun over) in omega (arith, end-3))

-- What each call's records tell, behind those before it.
module _ {P : Type 0} (store : Store P) (old : List Record) where
  kept_on : {first r' : Run P} → Moves store first r' → Kept store old first → Kept store old r'
  kept_on moves kept = moves_keep store (Kept store old) (keeping_told store old) moves kept

  module _ (r : Run P) (s : Shaped false r.build.plan.nodes r.build) (k : Kept store old r) where
    pub poll_kept : Kept store old (poll_run store r)
    poll_kept = kept_on (poll_carried store r s).moves k

    pub step_kept : (n : ℕ) → RunningJob r.build n → Kept store old (step_run store n r)
    step_kept n j =
        let ns = r.build.nodes in
        let x = stepped (entry ns n) in
        let states : (i : ℕ) → state_of (set ns n x) i ≡ state_of ns i = λ i. set_keeps (λ y. y.state) ns n x unbegun i refl in
        kept_on (step_carried store n r s j).moves (record {
          whole = length-set ns n x ∙ k.whole;
          begun = ap is_waiting (states 0) ∙ k.begun;
          told = told_quiet (told_same k.told (λ i pos. states i)) (Step n) (quiet_step n);
          finish = k.finish ∙ ap verdict (sym (states 0));
        })

    pub kill_kept : (n : ℕ) → RunningJob r.build n → Kept store old (kill_run store n r)
    kill_kept n j =
        kept_on (kill_carried store n r s j).moves
        ((keeping_told store old).on_child (Failed causes.Kill) n (noted (Kill n) r) (kill_nested store n r s j) refl (kill_due store n r s j)
        (record { whole = k.whole; begun = k.begun; told = told_quiet k.told (Kill n) (quiet_kill n); finish = k.finish }))

    pub halt_kept : Busy r.build.plan r.build.nodes → Kept store old (halt_run store r)
    halt_kept busy =
        let b = r.build in
        let view = stop_view (all_makes b.plan) b in
        kept_on (halt_carried store r s busy).moves (record {
          whole = view.0.long ∙ k.whole ∙ ap (λ q. q.nodes) (sym (stop_plan (all_makes b.plan) b));
          begun = ap is_waiting (view.0.states 0) ∙ k.begun;
          told = told_quiet (subst (λ ts. Told (stop_all (all_makes b.plan) b).nodes ts (r.records ++ old)) (sym view.1) (told_same k.told (λ i pos. view.0.states i))) Halt quiet_halt;
          finish = k.finish ∙ ap verdict (sym (view.0.states 0));
        })

  -- the books, from the two
  pub books_of : {t : Plan} {base : ℕ} {r : Run P} → Ready store t base r → Kept store old r → Books t r.build (r.records ++ old)
  books_of h k = record { plan = h.plan; shape = h.shape; busy = h.busy; begun = k.begun; told = k.told; finish = k.finish }

-- the entries of a fresh table
pub fresh_entry : (k n : ℕ) → get_or (replicate k unbegun) n unbegun ≡ unbegun
fresh_entry zero n = refl
fresh_entry (suc k) zero = refl
fresh_entry (suc k) (suc n) = fresh_entry k n

twelve : (n : ℕ) → sum_below (λ k. 12) n ≡ 12 * n
unfolding sum_below
twelve zero = refl
twelve (suc n) = omega (arith, twelve n)

-- how much is left to a build of which nothing has begun
pub fresh_left : (t : Plan) → Planned t → (ns : List Progress) → ((k : ℕ) → entry ns k ≡ unbegun) → (steps_left t ns ≡ t.all_steps) × (sum_below (λ n. bytes_of (state_of ns n)) t.nodes ≡ 12 * t.nodes)
fresh_left t planned ns none = (
  sum_same t.steps (λ n. left_of (state_of ns n) (t.steps n) (entry ns n).done) t.nodes (λ n b. ap (λ x. left_of x.state (t.steps n) x.done) (none n)) ∙ sym planned.summed,
  sum_same (λ n. 12) (λ n. bytes_of (state_of ns n)) t.nodes (λ n b. ap (λ x. bytes_of x.state) (none n)) ∙ twelve t.nodes,
)

module _ {P : Type 0} (store : Store P) (t : Plan) (planned : Planned t) (keep : Bool) (tokens : ℕ) (p : P) where
  first_table : List Progress
  first_table = replicate t.nodes unbegun

  pub record OpenedSo (r : Run P) : Type 0 where
    pub books : Books t r.build r.records
    pub stands : Stands store r
    pub fewer : steps_left t r.build.nodes ≤ t.all_steps
    pub dones : (k : ℕ) → (entry r.build.nodes k).done ≡ 0
    pub room : sizes r.records + bytes_with 3 t r.build.nodes ≤ needed t

  pub open_outcome : OpenedSo (open_run store t keep tokens p)
  open_outcome =
      let ns = replicate t.nodes unbegun in
      let x = with_state (entry ns 0) Running in
      let ms = set ns 0 x in
      let long : length ns ≡ t.nodes = length-replicate t.nodes unbegun in
      let v = turned ns 0 Running (omega (arith, long, planned.ordered.some)) in
      let c = open_carried store t planned keep tokens p in
      let start = opening t keep tokens p in
      let left = fresh_left t planned ns (fresh_entry t.nodes) in
      let zero-entry = fresh_entry t.nodes 0 in
      let there : (k : ℕ) → 0 < k → state_of ms k ≡ Waiting = λ k pos. turned_there v k (λ e. omega arith) ∙ ap (λ y. y.state) (fresh_entry t.nodes k) in
      let steps = sum_change (λ n. left_of (state_of ns n) (t.steps n) (entry ns n).done) (λ n. left_of (state_of ms n) (t.steps n) (entry ms n).done) 0 t.nodes planned.ordered.some (λ k b apart. ap (λ s. left_of s (t.steps k) (entry ms k).done) (turned_there v k apart) ∙ ap (left_of (state_of ns k) (t.steps k)) (v.dones k)) in
      let steps-was : left_of (state_of ns 0) (t.steps 0) (entry ns 0).done ≡ t.steps 0 = ap (λ y. left_of y.state (t.steps 0) y.done) zero-entry in
      let steps-is : left_of (state_of ms 0) (t.steps 0) (entry ms 0).done ≡ t.steps 0 - 0 = ap (λ s. left_of s (t.steps 0) (entry ms 0).done) (turned_here v) ∙ ap (λ d. t.steps 0 - d) (v.dones 0 ∙ ap (λ y. y.done) zero-entry) in
      let bytes = sum_change (λ n. bytes_of (state_of ns n)) (λ n. bytes_of (state_of ms n)) 0 t.nodes planned.ordered.some (λ k b apart. ap bytes_of (turned_there v k apart)) in
      let bytes-was : bytes_of (state_of ns 0) ≡ 12 = ap (λ y. bytes_of y.state) zero-entry in
      let bytes-is : bytes_of (state_of ms 0) ≡ 8 = ap bytes_of (turned_here v) in
      let top : ◌≡◌ {A = ℕ} (cond (unended (state_of ms 0)) 3 0) 3 = ap (λ s. cond (unended s) 3 0) (turned_here v) in
      let all : steps_left t ms ≡ t.all_steps = omega (arith, steps, steps-was, steps-is, left.0) in
      let kept : Kept store [] start = record {
        whole = v.long ∙ long;
        begun = ap is_waiting (turned_here v);
        told = told_quiet (told_none ms there) (Open _ _ _) (quiet_open _ _ _);
        finish = sym (ap verdict (turned_here v));
      } in
      let within : Within store t 0 3 t.all_steps (λ k. 0) start = record {
        plan = refl;
        whole = v.long ∙ long;
        begun = ap is_waiting (turned_here v);
        steps = omega (arith, all);
        room = omega (arith, all, bytes, bytes-was, bytes-is, top, left.1);
        done = λ k. v.dones k ∙ ap (λ y. y.done) (fresh_entry t.nodes k);
      } in
      let k = moves_keep store (Kept store []) (keeping_told store []) c.moves kept in
      let w = moves_keep store (Within store t 0 3 t.all_steps (λ k. 0)) (keeping_within store t 0 3 t.all_steps (λ k. 0)) c.moves within in
      record {
        books = record { plan = w.plan; shape = c.shape; busy = c.busy; begun = k.begun; told = subst (Told _ _) (append-nil (open_run store t keep tokens p).records) k.told; finish = ap finish_of (sym (append-nil (open_run store t keep tokens p).records)) ∙ k.finish };
        stands = c.stands;
        fewer = w.steps;
        dones = w.done;
        room = omega (arith, w.room);
      }
