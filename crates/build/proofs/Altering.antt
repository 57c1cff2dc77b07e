-- One change of a build at work, and its record. Assumes nothing.
use Rattle.std.proofs.Common.{◌≡◌, ℕ, ◌+◌, ◌<◌, ◌≤◌, Bool, true, false, cond, ltb, List, length, vec_items, vec_len, set, Ok, Err, Result, get_or, sym, refl, ap, ◌∙◌, subst, arith}
use Rattle.pool.specs.Ways.{Ways}
use Rattle.rules.specs.Builds.{Build, Loss, unbegun, at, with_state, tokens_of}
use Rattle.rules.specs.Calls.{stepped}
use Rattle.rules.specs.Ending.{noted_loss}
use Rattle.rules.specs.Events.{accepted, accepts_start, accepts_work, state_of}
use Rattle.rules.specs.Plans.{is_make, plan_of}
use Rattle.tree.specs.Questions.{nodes_of}
use Rattle.rules.specs.declared.progress.Event.TheVariants as events
use Rattle.rules.specs.declared.progress.Progress.{Progress}
use Rattle.rules.specs.declared.progress.State.TheVariants.{Waiting, Running}
use Rattle.schedule.specs.Buffers.{Wrote}
use Rattle.schedule.specs.Records.{bytes, size}
use Rattle.schedule.specs.declared.cause.Cause.{Cause}
use Rattle.schedule.specs.declared.record.Record.{Record}
use Rattle.std.proofs.lemmas.List.{get_or_read}
use Rattle.std.proofs.lemmas.Bool.{lt-ltb}
use Rattle.build.specs.Changes.{Noted, Changed, Remade, reach}
use Rattle.build.specs.Ended.{ended_record, noted_at}
use Rattle.build.specs.Hands.{Backed}
use Rattle.build.specs.Lost.{noted_losses}
use Rattle.build.specs.Models.{model, in_hand}
use Rattle.build.specs.Rooms.{room, unended, unstarted, bytes_left}
use Rattle.build.specs.Turning.{Kept}
use Rattle.build.specs.declared.work.Work.{Work}
use Rattle.build.proofs.Fitting.{Leaves, fits, leaves_set}

-- what a node becomes by an event that its state accepts
pub after_start : (x y z : Progress) → z ≡ accepted x events.Start → x ≡ y → y.state ≡ Waiting → z ≡ with_state y Running
after_start x y z e same is = e ∙ ap (λ v. accepted v events.Start) same ∙ ap (λ s. cond (accepts_start s) (with_state y Running) y) is

pub after_end : (x y z : Progress) (how : Result Unit Cause) → z ≡ accepted x (events.End how) → x ≡ y → y.state ≡ Running → z ≡ with_state y (state_of how)
after_end x y z how e same is = e ∙ ap (λ v. accepted v (events.End how)) same ∙ ap (λ s. cond (accepts_work s true) (with_state y (state_of how)) y) is

pub after_step : (x y z : Progress) (n : ℕ) → z ≡ accepted x (events.Step n) → x ≡ y → y.state ≡ Running → y.done < n → z ≡ stepped y
after_step x y z n e same is less =
    e ∙ ap (λ v. accepted v (events.Step n)) same ∙ ap (λ s. cond (accepts_work s (ltb y.done n)) (stepped y) y) is ∙ ap (λ t. cond t (stepped y) y) (lt-ltb y.done n less)

pub step_state : (x : Progress) (n : ℕ) → (accepted x (events.Step n)).state ≡ x.state
step_state x n = either (accepts_work x.state (ltb x.done n))
  where
    either : (t : Bool) → (cond t (stepped x) x).state ≡ x.state
    either true = refl
    either false = refl

-- what is read at a node's place is how far the node is
pub read_at : (b : Build) (n : ℕ) (x : Progress) → n < length b.nodes → x ≡ get_or b.nodes n x → x ≡ at b n
read_at b n x inside e = get_or_read b.nodes n x inside e unbegun

-- what still has room when a node has begun, with one token more in hand, and when its state is as it was
pub leaves_started : (e : Work) (n : ℕ) (x y : Progress) → n < (model e).plan.nodes → x ≡ get_or (model e).nodes n x → y ≡ accepted x events.Start → (at (model e) n).state ≡ Waiting → Leaves (set (model e).nodes n y) (vec_len e.tokens.held + 1) (vec_len e.losses.jobs) (vec_len e.losses.bytes) (vec_len e.nodes)
leaves_started e n x y inside read changed waits =
    let place : n < length (model e).nodes = omega (arith, (fits e).whole) in
    let state = ap (λ z. z.state) (after_start x (at (model e) n) y changed (read_at (model e) n x place read) waits) in
    leaves_set e n y (vec_len e.tokens.held + 1) (vec_len e.losses.jobs) (vec_len e.losses.bytes) inside (omega (arith, ap unstarted state, ap unstarted waits)) (omega (arith, ap unended state, ap unended waits)) (omega (arith, ap unended state, ap unended waits))

pub leaves_same : (e : Work) (n : ℕ) (x y : Progress) → n < (model e).plan.nodes → x ≡ get_or (model e).nodes n x → y.state ≡ x.state → Leaves (set (model e).nodes n y) (vec_len e.tokens.held) (vec_len e.losses.jobs) (vec_len e.losses.bytes) (vec_len e.nodes)
leaves_same e n x y inside read same =
    let place : n < length (model e).nodes = omega (arith, (fits e).whole) in
    let state = same ∙ ap (λ z. z.state) (read_at (model e) n x place read) in
    leaves_set e n y (vec_len e.tokens.held) (vec_len e.losses.jobs) (vec_len e.losses.bytes) inside (omega (arith, ap unstarted state)) (omega (arith, ap unended state)) (omega (arith, ap unended state))

-- a record alone leaves the build as it was
pub noted_build : {e e' : Work} {old new : List ℕ} {r : Record} → Noted e old r e' new → model e' ≡ model e
noted_build n = λ i. record { plan = plan_of (nodes_of (n.tree i)); keep = n.keep i; nodes = vec_items (n.nodes i); tokens = in_hand (n.tokens i); losses = noted_losses (n.losses i) }

-- a change of the build alone, and then the record
pub changed_by : (e : Work) {e₁ e' : Work} {old new : List ℕ} (b : Build) {r : Record} (spare : ℕ) → Noted e₁ old r e' new → e₁.written ≡ e.written → model e₁ ≡ b → room b + size r + spare ≤ room (model e) → Changed e old b r spare e' new
changed_by e {e₁} {e'} {old} {new} b {r} spare noted place is enough =
    let build : model e' ≡ b = noted_build noted ∙ is in
    record {
      build = build;
      wrote = subst (λ n. Wrote old n (bytes r) new e'.written) place noted.wrote;
      spent = omega (arith, noted.wrote.end, ap room build);
    }

-- a change of the build without a record
pub remade_by : (e e' : Work) (b : Build) → e'.written ≡ e.written → model e' ≡ b → room b ≤ room (model e) → Remade e b e'
remade_by e e' b place is falls = record { build = is; written = place; spent = omega (arith, ap room is) }

-- what a change keeps
pub kept_by : {P : Type 0} (w : Ways P) (q : P) {e e' : Work} {old new : List ℕ} {b : Build} {r : Record} {spare : ℕ} → Changed e old b r spare e' new → b.plan ≡ (model e).plan → b.keep ≡ e.keep → Backed w q b.tokens → Kept w e (reach e) e' q
kept_by w q change plan keep backed = record {
  backed = subst (Backed w q) (sym (ap (λ (d : Build). d.tokens) change.build)) backed;
  plan = ap (λ (d : Build). d.plan) change.build ∙ plan;
  keep = ap (λ (d : Build). d.keep) change.build ∙ keep;
  spent = omega (arith, change.spent);
}

-- nothing changed
pub kept_same : {P : Type 0} (w : Ways P) (q : P) (e : Work) → Backed w q (in_hand e.tokens) → Kept w e (reach e) e q
kept_same w q e backed = record { backed = backed; plan = refl; keep = refl; spent = omega arith }

-- one part after another
pub kept_both : {P : Type 0} {w : Ways P} {q r : P} {e e₁ e₂ : Work} {m n : ℕ} (limit : ℕ) → (reach e₁ ≤ m → n ≤ limit) → Kept w e m e₁ q → Kept w e₁ n e₂ r → Kept w e limit e₂ r
kept_both limit enough k j = record { backed = j.backed; plan = j.plan ∙ k.plan; keep = j.keep ∙ k.keep; spent = omega (arith, enough k.spent, j.spent) }

-- a node that ended so
pub ended_over : (how : Result Unit Cause) → unended (state_of how) ≡ 0
ended_over (Ok _) = refl
ended_over (Err c) = refl

pub ended_none : (how : Result Unit Cause) (k : ℕ) → bytes_left (state_of how) k ≡ 0
ended_none (Ok _) k = refl
ended_none (Err c) k = refl

pub ended_unstarted : (how : Result Unit Cause) → unstarted (state_of how) ≡ 0
ended_unstarted (Ok _) = refl
ended_unstarted (Err c) = refl

pub ended_size : (how : Result Unit Cause) (n : ℕ) → size (ended_record how n) ≤ 3
ended_size (Ok _) n = omega arith
ended_size (Err c) n = omega arith

-- one loss is noted at the most
loss_few : (t : Bool) (n : ℕ) (ts : List ℕ) (ls : List Loss) → length (noted_loss t n ts ls) ≤ length ls + 1
loss_few true n ts ls = omega arith
loss_few false n ts ls = omega arith

pub noted_few : (how : Result Unit Cause) (n : ℕ) (b : Build) → length (noted_at how n b.plan b.tokens b.losses) ≤ length b.losses + 1
noted_few (Ok _) n b = omega arith
noted_few (Err c) n b = loss_few (is_make b.plan n) n (tokens_of b (b.plan.make n)) b.losses
