-- What follows when a node ends.
use Rattle.std.specs.Prelude.{ℕ, zero, suc, Bool, true, false, cond, not, ◌&&◌, ◌||◌, List, [], ◌∷◌, Some, None, Option, ◌==◌}
use Rattle.rules.specs.Builds.{Build, Held, Loss, at, running, has_running, has_waiting, with_losses, with_node, with_tokens, in_state, tokens_of}
use Rattle.rules.specs.Lists.{if_so, is_some, or_else}
use Rattle.rules.specs.Plans.{is_make}
use Rattle.rules.specs.Settling.{Store, Run}
use Rattle.rules.specs.declared.progress.Progress.{Progress}
use Rattle.rules.specs.declared.progress.State.{State}
use Rattle.rules.specs.declared.progress.State.TheVariants.{Waiting, Running, Good, Failed}
use Rattle.schedule.specs.Causes.{cause_number}
use Rattle.schedule.specs.declared.cause.Cause.TheVariants.{FailedChild}
use Rattle.schedule.specs.declared.record.Record.TheVariants.{EndedWell, EndedFailed, PutBack, Finished}

-- a token that is kept, before what was found behind it
abbrev pub keep_held : Held → Option (ℕ × List Held) → Option (ℕ × List Held)
keep_held h None = None
keep_held h (Some found) = Some (found.0, h ∷ found.1)

-- which token of the make goes back, and which are then left: the one that it took last; none if it holds none
abbrev pub goes_back : ℕ → List Held → Option (ℕ × List Held)
goes_back m [] = None
goes_back m (h ∷ hs) = if_so (h.by == m) (λ _. Some (h.byte, hs)) (λ _. keep_held h (goes_back m hs))

-- the token that was found goes back into the pool
abbrev pub put_found : {P : Type 0} → Store P → ℕ → Option (ℕ × List Held) → Run P → Run P
put_found store m None r = r
put_found store m (Some found) r = record {
  build = with_tokens r.build found.1;
  pool = store.put found.0 r.pool;
  records = PutBack m found.0 ∷ r.records;
}

-- the make puts back a token, if it holds any
abbrev pub put_one : {P : Type 0} → Store P → ℕ → Run P → Run P
put_one store m r = put_found store m (goes_back m r.build.tokens) r

-- a child of the make failed: the first to fail is kept, and the make is stopped unless the build keeps going
abbrev pub marked : Bool → ℕ → Progress → Progress
marked keep child x = record {
  state = x.state;
  done = x.done;
  stopped = x.stopped || not keep;
  first_failed = or_else x.first_failed (λ _. Some child);
}

-- the make of a node that ended so is marked if it failed
abbrev pub mark : {P : Type 0} → State → ℕ → ℕ → Run P → Run P
mark Waiting m n r = r
mark Running m n r = r
mark Good m n r = r
mark (Failed c) m n r = record {
  build = with_node r.build m (marked r.build.keep n (at r.build m));
  pool = r.pool;
  records = r.records;
}

-- what the tokens of its make were when a job failed; of a make nothing is noted
abbrev pub noted_loss : Bool → ℕ → List ℕ → List Loss → List Loss
noted_loss true n ts ls = ls
noted_loss false n ts ls = record { job = n; tokens = ts } ∷ ls

-- node n ends in this state, with its record
abbrev pub ends_so : {P : Type 0} → State → ℕ → Run P → Run P
ends_so Waiting n r = r
ends_so Running n r = r
ends_so Good n r = record { build = in_state r.build n Good; pool = r.pool; records = EndedWell n ∷ r.records }
ends_so (Failed c) n r = record {
  build = with_losses (in_state r.build n (Failed c))
      (noted_loss (is_make r.build.plan n) n (tokens_of r.build (r.build.plan.make n)) r.build.losses);
  pool = r.pool;
  records = EndedFailed n (cause_number c) ∷ r.records;
}

-- how a make ends: failed if a child of it failed
abbrev pub make_end : Progress → State
make_end x = cond (is_some x.first_failed) (Failed FailedChild) Good

-- whether the make is to end: it is live, no child of it runs, and it is stopped or has none left to start
abbrev pub is_over : Build → ℕ → Bool
is_over b m = running b m && not (has_running b m) && ((at b m).stopped || not (has_waiting b m))

-- the build is finished: whether it failed
abbrev pub finish : {P : Type 0} → Run P → Run P
finish r = record {
  build = r.build;
  pool = r.pool;
  records = Finished (cond (is_some (at r.build 0).first_failed) 1 0) ∷ r.records;
}

-- node n ends so; its make puts back a token, is marked if n failed, and ends itself if it is over; and so on upwards
abbrev pub end_by : {P : Type 0} → Store P → ℕ → State → ℕ → Run P → Run P
end_by store zero how n r = r
end_by store (suc fuel) how n r =
    let ended = ends_so how n r in
    if_so (n == 0) (λ _. finish ended)
    (λ _.
    let m = r.build.plan.make n in
    let back = mark how m n (put_one store m ended) in
    if_so (is_over back.build m) (λ _. end_by store fuel (make_end (at back.build m)) m back) (λ _. back))

-- a make's number is below its children's, so that n + 1 turns suffice
abbrev pub end_node : {P : Type 0} → Store P → State → ℕ → Run P → Run P
end_node store how n r = end_by store (suc n) how n r
