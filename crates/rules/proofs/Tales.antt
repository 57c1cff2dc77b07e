-- Every call leaves records that tell what the nodes of the build know. Assumes nothing.
use Rattle.std.proofs.Common.{◌≡◌, ℕ, zero, suc, ◌+◌, ◌<◌, ◌≤◌, Bool, true, false, cond, not, ◌&&◌, eqb, ltb, List, [], ◌∷◌, get_or, set, replicate, Some, None, Ok, Option, sym, refl, ap, ◌∙◌, subst, ⊎_elim, arith}
use lib.ListN.{length-replicate}
use Rattle.rules.specs.Builds.{Build, Held, unbegun, at, with_node, with_state, running, running_jobs, finished}
use Rattle.rules.specs.Calls.{noted, on_build, opening, step_run, kill_run, halt_run, rounds_by, step_each, end_all, last_step, stop_all, stop, stepped}
use Rattle.rules.specs.Causes.{AllCaused, Caused, failed_child, first_failed_child, HasHalt, CauseOf, Told, Tells, TellsAll, FirstFault, Ordered, TreesOrdered, Job, here, before, by_script, by_kill, by_child, by_halt, steps_in}
use Rattle.rules.specs.Ending.{put_found, put_one, goes_back, mark, ends_so, end_by, end_node, make_end, is_over}
use Rattle.rules.specs.Faults.{Fault, of_child, fault, fault_in, fault_by}
use Rattle.rules.specs.Lists.{if_so, is_some, or_else, when, numbers, those, put_if}
use Rattle.rules.specs.Plans.{Plan, is_make, all_makes}
use Rattle.rules.specs.Settling.{Store, Run, Start, start_in_slot, start_with_token, settle}
use Rattle.rules.specs.Words.{Each}
use Rattle.rules.specs.declared.progress.Progress.{Progress}
use Rattle.rules.specs.declared.progress.State.{State}
use Rattle.rules.specs.declared.progress.State.TheVariants.{Waiting, Running, Good, Failed}
use Rattle.rules.proofs.Agreeing.{taken_so}
use Rattle.rules.proofs.Backs.{stop_plan}
use Rattle.rules.proofs.Held.{if_holds, settle_holds}
use Rattle.rules.proofs.Starts.{numbers_below}
use Rattle.rules.proofs.Telling.{Owing, same_set, told_same, told_quiet, told_step, owing, owing_quiet, owing_top, owing_marked}
use Rattle.schedule.specs.Causes.{cause_number}
use Rattle.schedule.specs.declared.cause.Cause.TheVariants as causes
use Rattle.schedule.specs.declared.record.Record.{Record}
use Rattle.schedule.specs.declared.record.Record.TheVariants.{Open, StartInSlot, StartWithToken, Step, Kill, Halt, EndedWell, EndedFailed, PutBack, Finished}
use Rattle.std.proofs.lemmas.Bool.{and_parts, cases_Bool, eqb-true, eqb-false, lt-ltb, not-true}
use Rattle.tree.specs.declared.node.Kind.{Kind}
use Rattle.tree.specs.declared.node.Kind.TheVariants as kinds

-- why a node may end so
abbrev Why : Plan → State → ℕ → List Record → Type 0
Why t Waiting n rs = Unit {0}
Why t Running n rs = Unit {0}
Why t Good n rs = Unit {0}
Why t (Failed c) n rs = CauseOf t n (cause_number c) rs

why_make : (t : Plan) (x : Progress) (m : ℕ) (rs : List Record) → is_make t m ≡ true → Why t (make_end x) m rs
why_make t x m rs make = either (is_some x.first_failed)
  where
    either : (b : Bool) → Why t (cond b (Failed causes.FailedChild) Good) m rs
    either true = by_child make
    either false = tt

why_last : (t : Plan) (k : Kind) (n : ℕ) (rs : List Record) → t.kind n ≡ k → steps_in n (Step n ∷ rs) ≡ t.steps n → Why t (last_step k) n (Step n ∷ rs)
why_last t kinds.Make n rs is all = tt
why_last t kinds.Job n rs is all = tt
why_last t kinds.Fail n rs is all = by_script is all

-- stopping makes lets the nodes know the same
stop_told : (t : Plan) (ms : List ℕ) (b : Build) (rs : List Record) → Told t b.nodes rs → Told t (stop_all ms b).nodes rs
stop_told t [] b rs h = h
stop_told t (m ∷ ms) b rs h = stop_told t ms (with_node b m (stop (at b m))) rs (told_same h _ (same_set b.nodes m (stop (at b m)) refl refl))

-- running jobs are jobs of the tree
jobs_among : (b : Build) (xs : List ℕ) → Each (λ n. n < b.plan.nodes) xs → Each (Job b.plan) (those (λ n. running b n && not (is_make b.plan n)) xs)
jobs_among b [] e = tt
jobs_among b (x ∷ xs) e = put (running b x) (is_make b.plan x) refl (jobs_among b xs e.1)
  where
    put : (u v : Bool) → is_make b.plan x ≡ v → Each (Job b.plan) (those (λ n. running b n && not (is_make b.plan n)) xs) → Each (Job b.plan) (put_if (u && not v) x (those (λ n. running b n && not (is_make b.plan n)) xs))
    put true true is rest = rest
    put true false is rest = ((e.0, is), rest)
    put false v is rest = rest

jobs_of : (b : Build) → Each (Job b.plan) (running_jobs b)
jobs_of b = jobs_among b (numbers 0 b.plan.nodes) (numbers_below 0 b.plan.nodes b.plan.nodes (omega arith))

-- the entries of a fresh table
fresh_at : (k n : ℕ) → get_or (replicate k unbegun) n unbegun ≡ unbegun
fresh_at zero n = refl
fresh_at (suc k) zero = refl
fresh_at (suc k) (suc n) = fresh_at k n

module _ {P : Type 0} where
  -- the tree stays, and the records tell of it
  pub record Kept (t : Plan) (r : Run P) : Type 0 where
    pub plan : r.build.plan ≡ t
    pub tells : Told t r.build.nodes r.records

  module _ (t : Plan) where
    kept_slot : (s : Start) (r : Run P) → Kept t r → Kept t (start_in_slot s r)
    kept_slot s r k = record {
      plan = k.plan;
      tells = told_quiet (told_same k.tells _ (same_set r.build.nodes s.child (with_state (at r.build s.child) Running) refl refl)) (StartInSlot s.make s.child) (record { no_step = λ n. refl; no_failure = λ _ m. refl; no_cause = λ _ rs. tt });
    }

    kept_token : (s : Start) (b : ℕ) (p : P) (r : Run P) → Kept t r → Kept t (start_with_token s b p r)
    kept_token s b p r k = record {
      plan = k.plan;
      tells = told_quiet (told_same k.tells _ (same_set r.build.nodes s.child (with_state (at r.build s.child) Running) refl refl)) (StartWithToken s.make s.child b) (record { no_step = λ n. refl; no_failure = λ _ m. refl; no_cause = λ _ rs. tt });
    }

    kept_settle : (store : Store P) (r : Run P) → Kept t r → Kept t (settle store r)
    kept_settle store r k = settle_holds store (Kept t) kept_slot kept_token (λ p q h. record { plan = h.plan; tells = h.tells }) r k

    ended_told : (n : ℕ) (how : State) (r : Run P) → Kept t r → Told t (set r.build.nodes n (with_state (at r.build n) how)) r.records
    ended_told n how r k = told_same k.tells _ (same_set r.build.nodes n (with_state (at r.build n) how) refl refl)

    -- a token that goes back, or none
    put_told : (store : Store P) (m : ℕ) (o : Option (ℕ × List Held)) (r : Run P) → Kept t r → Kept t (put_found store m o r)
    put_told store m None r k = k
    put_told store m (Some x) r k = record {
      plan = k.plan;
      tells = told_quiet k.tells (PutBack m x.0) (record { no_step = λ n. refl; no_failure = λ _ j. refl; no_cause = λ _ rs. tt });
    }

    -- a failed node whose make is still to be marked
    pub record Owed (n c : ℕ) (r : Run P) : Type 0 where
      pub plan : r.build.plan ≡ t
      pub owes : Owing t n c r.build.nodes r.records

    put_owed : (store : Store P) (n c m : ℕ) (o : Option (ℕ × List Held)) (r : Run P) → Owed n c r → Owed n c (put_found store m o r)
    put_owed store n c m None r k = k
    put_owed store n c m (Some x) r k = record {
      plan = k.plan;
      owes = owing_quiet k.owes (PutBack m x.0) (record { no_step = λ i. refl; no_failure = λ _ j. refl; no_cause = λ _ rs. tt });
    }

    -- node n ends so, its make puts a token back and is marked
    after_child : (store : Store P) (how : State) (n : ℕ) (o : Option (ℕ × List Held)) (r : Run P) → Ordered t → 0 < n → n < t.nodes → Why t how n r.records → Kept t r → Kept t (mark how (t.make n) n (put_found store (t.make n) o (ends_so how n r)))
    after_child store Waiting n o r ord pos inside why k = put_told store (t.make n) o r k
    after_child store Running n o r ord pos inside why k = put_told store (t.make n) o r k
    after_child store Good n o r ord pos inside why k =
        put_told store (t.make n) o (ends_so Good n r) (record {
          plan = k.plan;
          tells = told_quiet (ended_told n Good r k) (EndedWell n) (record { no_step = λ i. refl; no_failure = λ _ j. refl; no_cause = λ _ rs. tt });
        })
    after_child store (Failed c) n o r ord pos inside why k =
        let failed : Owed n (cause_number c) (ends_so (Failed c) n r) = record { plan = k.plan; owes = owing n (cause_number c) (ended_told n (Failed c) r k) inside why } in
        let back = put_found store (t.make n) o (ends_so (Failed c) n r) in
        let owed = put_owed store n (cause_number c) (t.make n) o (ends_so (Failed c) n r) failed in
        record {
          plan = owed.plan;
          tells = owing_marked owed.owes back.build.keep (λ e. omega arith) (omega (arith, owed.owes.whole, (ord.placed n pos inside).0));
        }

    -- the top make ends
    after_top : (how : State) (n : ℕ) (r : Run P) → n < t.nodes → n ≡ 0 → Why t how n r.records → Kept t r → Kept t (ends_so how n r)
    after_top Waiting n r inside top why k = k
    after_top Running n r inside top why k = k
    after_top Good n r inside top why k = record {
      plan = k.plan;
      tells = told_quiet (ended_told n Good r k) (EndedWell n) (record { no_step = λ i. refl; no_failure = λ _ j. refl; no_cause = λ _ rs. tt });
    }
    after_top (Failed c) n r inside top why k = record {
      plan = k.plan;
      tells = owing_top (owing n (cause_number c) (ended_told n (Failed c) r k) inside why) top;
    }

    kept_end : (store : Store P) (fuel : ℕ) (how : State) (n : ℕ) (r : Run P) → Ordered t → n < t.nodes → Why t how n r.records → Kept t r → Kept t (end_by store fuel how n r)
    kept_end store zero how n r ord inside why k = k
    kept_end store (suc fuel) how n r ord inside why k =
        if_holds (Kept t) (eqb n 0) _ _
        (λ top.
        let ended = after_top how n r inside (eqb-true n 0 top) why k in
        record {
          plan = ended.plan;
          tells = told_quiet ended.tells (Finished _) (record { no_step = λ i. refl; no_failure = λ _ j. refl; no_cause = λ _ rs. tt });
        })
        (λ nested.
        let apart = eqb-false n 0 nested in
        let pos : 0 < n = omega (arith, apart) in
        let m = r.build.plan.make n in
        let ended = ends_so how n r in
        let back = mark how m n (put_one store m ended) in
        let same : t.make n ≡ m = ap (λ p. p.make n) (sym k.plan) in
        let so_far : Kept t back = subst (λ x. Kept t (mark how x n (put_found store x (goes_back m ended.build.tokens) ended))) same (after_child store how n (goes_back m ended.build.tokens) r ord pos inside why k) in
        let place = ord.placed n pos inside in
        if_holds (Kept t) (is_over back.build m) _ _
        (λ over. kept_end store fuel (make_end (at back.build m)) m back ord (subst (λ x. x < t.nodes) same (omega (arith, place.0))) (subst (λ x. Why t (make_end (at back.build m)) x back.records) same (why_make t (at back.build m) (t.make n) back.records place.1)) so_far)
        (λ _. so_far))

    -- a halt among the records stays there
    stays_put : (store : Store P) (m : ℕ) (o : Option (ℕ × List Held)) (r : Run P) → HasHalt r.records → HasHalt (put_found store m o r).records
    stays_put store m None r h = h
    stays_put store m (Some x) r h = before h

    stays_ends : (how : State) (n : ℕ) (r : Run P) → HasHalt r.records → HasHalt (ends_so how n r).records
    stays_ends Waiting n r h = h
    stays_ends Running n r h = h
    stays_ends Good n r h = before h
    stays_ends (Failed c) n r h = before h

    stays_mark : (how : State) (m n : ℕ) (r : Run P) → HasHalt r.records → HasHalt (mark how m n r).records
    stays_mark Waiting m n r h = h
    stays_mark Running m n r h = h
    stays_mark Good m n r h = h
    stays_mark (Failed c) m n r h = h

    stays_end : (store : Store P) (fuel : ℕ) (how : State) (n : ℕ) (r : Run P) → HasHalt r.records → HasHalt (end_by store fuel how n r).records
    stays_end store zero how n r h = h
    stays_end store (suc fuel) how n r h =
        let m = r.build.plan.make n in
        let ended = ends_so how n r in
        let one = put_one store m ended in
        let back = mark how m n one in
        let so_far = stays_mark how m n one (stays_put store m (goes_back m ended.build.tokens) ended (stays_ends how n r h)) in
        if_holds (λ (q : Run P). HasHalt q.records) (eqb n 0) _ _ (λ _. before (stays_ends how n r h))
        (λ _. if_holds (λ (q : Run P). HasHalt q.records) (is_over back.build m) _ _ (λ _. stays_end store fuel (make_end (at back.build m)) m back so_far) (λ _. so_far))

    kept_all : (store : Store P) (ns : List ℕ) (r : Run P) → Ordered t → Each (Job t) ns → HasHalt r.records → Kept t r → Kept t (end_all store ns r)
    kept_all store [] r ord jobs halted k = k
    kept_all store (n ∷ ns) r ord jobs halted k =
        kept_all store ns (end_node store (Failed causes.Halt) n r) ord jobs.1 (stays_end store (suc n) (Failed causes.Halt) n r halted)
        (kept_end store (suc n) (Failed causes.Halt) n r ord jobs.0.0 (by_halt jobs.0.1 halted) k)

    kept_step : (store : Store P) (n : ℕ) (r : Run P) → Ordered t → Job t n → Kept t r → Kept t (step_run store n r)
    kept_step store n r ord job k =
        let one = on_build (λ b. with_node b n (stepped (at b n))) (noted (Step n) r) in
        let same : t ≡ r.build.plan = sym k.plan in
        let told : Told t one.build.nodes one.records = told_step k.tells n (omega (arith, k.tells.whole, job.0)) in
        let first : Kept t one = record { plan = k.plan; tells = told } in
        kept_settle store _
        (if_holds (Kept t) (eqb (at one.build n).done (one.build.plan.steps n)) _ _
        (λ last.
        let all : (at one.build n).done ≡ t.steps n = eqb-true _ _ last ∙ ap (λ p. p.steps n) k.plan in
        kept_end store (suc n) (last_step (one.build.plan.kind n)) n one ord job.0
        (subst (λ p. Why t (last_step (p.kind n)) n one.records) same (why_last t (t.kind n) n r.records refl (sym (told.done n) ∙ all))) first)
        (λ _. first))

    kept_kill : (store : Store P) (n : ℕ) (r : Run P) → Ordered t → Job t n → Kept t r → Kept t (kill_run store n r)
    kept_kill store n r ord job k =
        let one = noted (Kill n) r in
        let first : Kept t one = record { plan = k.plan; tells = told_quiet k.tells (Kill n) (record { no_step = λ i. refl; no_failure = λ _ j. refl; no_cause = λ _ rs. tt }) } in
        kept_settle store _ (kept_end store (suc n) (Failed causes.Kill) n one ord job.0 by_kill first)

    kept_each : (store : Store P) (ns : List ℕ) (r : Run P) → Ordered t → Each (Job t) ns → Kept t r → Kept t (step_each store ns r)
    kept_each store [] r ord jobs k = k
    kept_each store (n ∷ ns) r ord jobs k = kept_each store ns (step_run store n r) ord jobs.1 (kept_step store n r ord jobs.0 k)

  kept_rounds : (t : Plan) (store : Store P) (n : ℕ) (r : Run P) → Ordered t → Kept t r → Kept t (rounds_by store n r)
  kept_rounds t store zero r ord k = k
  kept_rounds t store (suc n) r ord k =
      if_holds (Kept t) (finished r.build) _ _ (λ _. k)
      (λ _. kept_rounds t store n (step_each store (running_jobs r.build) r) ord (kept_each t store (running_jobs r.build) r ord (subst (λ p. Each (Job p) (running_jobs r.build)) k.plan (jobs_of r.build)) k))

  told_of : (t : Plan) (r : Run P) → Kept t r → Tells r
  told_of t r k = subst (λ p. Told p r.build.nodes r.records) (sym k.plan) k.tells

  kept_of : (r : Run P) → Tells r → Kept r.build.plan r
  kept_of r h = record { plan = refl; tells = h }

  -- a fresh build, whose top make is live
  opened : (t : Plan) (keep : Bool) (tokens : ℕ) (p : P) → Kept t (opening t keep tokens p)
  opened t keep tokens p =
      let none : Told t (replicate t.nodes unbegun) [] = record {
        whole = length-replicate t.nodes unbegun;
        done = λ n. ap (λ x. x.done) (fresh_at t.nodes n);
        first = λ m. ap (λ x. x.first_failed) (fresh_at t.nodes m);
        causes = tt;
      } in
      record {
        plan = refl;
        tells = told_quiet (told_same none _ (same_set (replicate t.nodes unbegun) 0 (with_state (get_or (replicate t.nodes unbegun) 0 unbegun) Running) refl refl)) (Open _ _ _) (record { no_step = λ i. refl; no_failure = λ _ j. refl; no_cause = λ _ rs. tt });
      }

  kept_halt : (store : Store P) (r : Run P) → Ordered r.build.plan → Tells r → Kept r.build.plan (halt_run store r)
  kept_halt store r ord h =
      let t = r.build.plan in
      let one = on_build (λ b. stop_all (all_makes b.plan) b) (noted Halt r) in
      let halted = told_quiet h Halt (record { no_step = λ i. refl; no_failure = λ _ j. refl; no_cause = λ _ rs. tt }) in
      let first : Kept t one = record { plan = stop_plan (all_makes t) r.build; tells = stop_told t (all_makes t) r.build (Halt ∷ r.records) halted } in
      kept_all t store (running_jobs r.build) one ord (jobs_of r.build) here first

  pub tells_all : TellsAll P
  tells_all = record {
    opens = λ store t keep tokens p ord. told_of t _ (kept_settle t store _ (opened t keep tokens p));
    steps = λ store n r ord job h. told_of r.build.plan _ (kept_step r.build.plan store n r ord job (kept_of r h));
    kills = λ store n r ord job h. told_of r.build.plan _ (kept_kill r.build.plan store n r ord job (kept_of r h));
    polls = λ store r h. told_of r.build.plan _ (kept_settle r.build.plan store r (kept_of r h));
    halts = λ store r ord h. told_of r.build.plan _ (kept_halt store r ord h);
    rounds = λ store r ord h. told_of r.build.plan _ (kept_rounds r.build.plan store r.build.plan.all_steps r ord (kept_of r h));
  }

-- a child that failed first is a node of the tree, and belongs to the make
abbrev Child : Plan → ℕ → ℕ → Type 0
Child t m k = (k < t.nodes) × (t.make k ≡ m) × (0 < k)

told_child : (t : Plan) (m k : ℕ) (x : Record) (rs : List Record) → Caused t x rs → failed_child t m x ≡ Some k → Child t m k
told_child t m k (Open a b c) rs all e = let z : ◌≡◌ {A = ℕ} 0 1 = cc in absurd (omega arith)
told_child t m k (StartInSlot a b) rs all e = let z : ◌≡◌ {A = ℕ} 0 1 = cc in absurd (omega arith)
told_child t m k (StartWithToken a b c) rs all e = let z : ◌≡◌ {A = ℕ} 0 1 = cc in absurd (omega arith)
told_child t m k (Step a) rs all e = let z : ◌≡◌ {A = ℕ} 0 1 = cc in absurd (omega arith)
told_child t m k (Kill a) rs all e = let z : ◌≡◌ {A = ℕ} 0 1 = cc in absurd (omega arith)
told_child t m k Halt rs all e = let z : ◌≡◌ {A = ℕ} 0 1 = cc in absurd (omega arith)
told_child t m k (EndedWell a) rs all e = let z : ◌≡◌ {A = ℕ} 0 1 = cc in absurd (omega arith)
told_child t m k (PutBack a b) rs all e = let z : ◌≡◌ {A = ℕ} 0 1 = cc in absurd (omega arith)
told_child t m k (Finished a) rs all e = let z : ◌≡◌ {A = ℕ} 0 1 = cc in absurd (omega arith)
told_child t m k (EndedFailed n c) rs all e =
    ⊎_elim
    (λ so.
    let got : ◌≡◌ {A = Option ℕ} (Some n) (Some k) = sym (ap (λ b. when b (λ _. Some n)) so) ∙ e in
    let same : n ≡ k = cc in
    let parts = and_parts (not (eqb n 0)) (eqb (t.make n) m) so in
    let apart = eqb-false n 0 (not-true (eqb n 0) parts.0) in
    subst (Child t m) same (all.0, eqb-true (t.make n) m parts.1, omega (arith, apart)))
    (λ not. let got : ◌≡◌ {A = Option ℕ} None (Some k) = sym (ap (λ b. when b (λ _. Some n)) not) ∙ e in let z : ◌≡◌ {A = ℕ} 0 1 = cc in absurd (omega arith))
    (cases_Bool (not (eqb n 0) && eqb (t.make n) m))

or_child : (t : Plan) (m k : ℕ) (x : Record) (rs : List Record) (o : Option ℕ) → first_failed_child t m rs ≡ o → Caused t x rs → (first_failed_child t m rs ≡ Some k → Child t m k) → or_else o (λ _. failed_child t m x) ≡ Some k → Child t m k
or_child t m k x rs None is all onward e = told_child t m k x rs all e
or_child t m k x rs (Some y) is all onward e = onward (is ∙ e)

first_inside : (t : Plan) (m k : ℕ) (rs : List Record) → AllCaused t rs → first_failed_child t m rs ≡ Some k → Child t m k
first_inside t m k [] all e = let z : ◌≡◌ {A = ℕ} 0 1 = cc in absurd (omega arith)
first_inside t m k (x ∷ rs) all e = or_child t m k x rs (first_failed_child t m rs) refl all.0 (first_inside t m k rs all.1) e

module _ {P : Type 0} (r : Run P) (ord : Ordered r.build.plan) (told : Tells r) where
  child_of : (m k : ℕ) → (at r.build m).first_failed ≡ Some k → Child r.build.plan m k
  child_of m k e = first_inside r.build.plan m k r.records told.causes (sym (told.first m) ∙ e)

  -- one turn more changes nothing, once there are enough
  by_first : (fuel m : ℕ) (o : Option ℕ) → (at r.build m).first_failed ≡ o → ((k : ℕ) → Child r.build.plan m k → fault_by r.build fuel k ≡ fault_by r.build (suc fuel) k) → of_child o (fault_by r.build fuel) ≡ of_child o (fault_by r.build (suc fuel))
  by_first fuel m None is onward = refl
  by_first fuel m (Some k) is onward = onward k (child_of m k is)

  by_kind : (fuel m : ℕ) (t : Bool) (f : Fault) → ((k : ℕ) → Child r.build.plan m k → fault_by r.build fuel k ≡ fault_by r.build (suc fuel) k) → if_so t (λ _. of_child (at r.build m).first_failed (fault_by r.build fuel)) (λ _. Some f) ≡ if_so t (λ _. of_child (at r.build m).first_failed (fault_by r.build (suc fuel))) (λ _. Some f)
  by_kind fuel m true f onward = by_first fuel m (at r.build m).first_failed refl onward
  by_kind fuel m false f onward = refl

  by_state : (fuel m : ℕ) (s : State) → ((k : ℕ) → Child r.build.plan m k → fault_by r.build fuel k ≡ fault_by r.build (suc fuel) k) → fault_in s r.build m (fault_by r.build fuel) ≡ fault_in s r.build m (fault_by r.build (suc fuel))
  by_state fuel m Waiting onward = refl
  by_state fuel m Running onward = refl
  by_state fuel m Good onward = refl
  by_state fuel m (Failed c) onward = by_kind fuel m (is_make r.build.plan m) _ onward

  enough : (fuel m : ℕ) → m < r.build.plan.nodes → r.build.plan.nodes ≤ m + fuel → fault_by r.build fuel m ≡ fault_by r.build (suc fuel) m
  enough zero m inside few = absurd (omega arith)
  enough (suc fuel) m inside few =
      by_state fuel m (at r.build m).state
      (λ k child. enough fuel k child.0 (let below = (ord.placed k child.2 child.0).0 in let same = child.1 in omega arith))

-- the fault of a node of the tree
asked_fault : (b : Build) (n : ℕ) → n < b.plan.nodes → fault b n ≡ Ok (fault_by b b.plan.nodes n)
asked_fault b n inside = taken_so (ltb n b.plan.nodes) _ _ (lt-ltb n b.plan.nodes inside)

pub first_fault : (P : Type 0) → FirstFault P
first_fault P r ord told m k c inside make failed first =
    let b = r.build in
    let turns = b.plan.nodes in
    let child = first_inside b.plan m k r.records told.causes first in
    asked_fault b m inside
    ∙ ap Ok
    (enough r ord told turns m inside (omega arith)
    ∙ ap (λ s. fault_in s b m (fault_by b turns)) failed
    ∙ taken_so (is_make b.plan m) _ _ make
    ∙ ap (λ o. of_child o (fault_by b turns)) (told.first m ∙ first))
    ∙ sym (asked_fault b k child.0)

pub trees_ordered : TreesOrdered
trees_ordered t = record { some = t.counted.0; top = t.topped.0; placed = λ n pos inside. t.placed n (pos, inside) }
