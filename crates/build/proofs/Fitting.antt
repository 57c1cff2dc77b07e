-- What a build at work keeps of numbers, through each change of a node. Assumes nothing.
use Rattle.std.proofs.Common.{◌≡◌, ℕ, zero, suc, ◌+◌, ◌-◌, ◌*◌, ◌<◌, ◌≤◌, List, [], ◌∷◌, length, vec_len, get_or, set, ap, arith}
use Rattle.rules.specs.Builds.{Build, Held, Loss, unbegun, at, with_node, with_state, in_state}
use Rattle.rules.specs.Calls.{stepped}
use Rattle.rules.specs.declared.progress.Progress.{Progress}
use Rattle.rules.specs.declared.progress.State.{State}
use Rattle.rules.specs.declared.progress.State.TheVariants.{Waiting, Running}
use Rattle.build.specs.Models.{model}
use Rattle.build.specs.Rooms.{unstarted, unended, to_start, to_end, bytes_left, node_room, room}
use Rattle.build.specs.declared.work.Work.{Work}
use Rattle.build.proofs.Shown.{length_hand, noted_long}
use Rattle.build.proofs.Sums.{sum_set, sum_point}

-- a new entry that has no more in one respect
pub set_falls : {A : Type 0} (f : A → ℕ) (xs : List A) (n : ℕ) (x d : A) (k : ℕ) → f x ≤ f (get_or xs n d) → f (get_or (set xs n x) k d) ≤ f (get_or xs k d)
set_falls f [] n x d k h = omega arith
set_falls f (y ∷ ys) zero x d zero h = h
set_falls f (y ∷ ys) zero x d (suc k) h = omega arith
set_falls f (y ∷ ys) (suc n) x d zero h = omega arith
set_falls f (y ∷ ys) (suc n) x d (suc k) h = set_falls f ys n x d k h

module _ (b : Build) (n : ℕ) (y : Progress) (inside : n < length b.nodes) where
  -- the room with node n changed
  pub room_set : unended y.state ≤ unended (at b n).state → room (with_node b n y) + node_room b.plan n (at b n) ≤ room b + node_room b.plan n y
  room_set falls =
      let sum = sum_set (node_room b.plan) y unbegun b.nodes n inside in
      let finish = set_falls (λ (x : Progress). unended x.state) b.nodes n y unbegun 0 falls in
      omega arith

-- one node changed, with these tokens in hand and these noted
abbrev pub altered : Build → ℕ → Progress → List Held → List Loss → Build
altered b n y ts ls = record { plan = b.plan; keep = b.keep; nodes = set b.nodes n y; tokens = ts; losses = ls }

-- What a build at work keeps of numbers: every node has its place, and what may still be taken up and noted has room.
pub record Fits (b : Build) (used : ℕ) : Type 0 where
  pub whole : length b.nodes ≡ b.plan.nodes
  pub small : b.plan.nodes ≤ 200
  pub few : length b.tokens + to_start b.nodes ≤ b.plan.nodes
  pub listed : length b.losses + to_end b.nodes ≤ 200
  pub noted : used + 200 * to_end b.nodes ≤ 40000

pub fits : (e : Work) → Fits (model e) (vec_len e.losses.bytes)
fits e =
    let places = e.nodes.ok.0 in
    record {
      whole = omega (arith, e.whole);
      small = e.tree.counted.1;
      few = omega (arith, e.few, e.whole, length_hand e.tokens, e.tokens.held.ok.0);
      listed = omega (arith, e.listed, noted_long e.losses, e.losses.jobs.ok.0);
      noted = omega (arith, e.noted);
    }

-- What may still be taken up and noted has room: with so many tokens in hand, jobs noted and tokens noted, on so many places.
pub record Leaves (nodes : List Progress) (hands jobs used places : ℕ) : Type 0 where
  pub few : hands + to_start nodes ≤ places
  pub listed : jobs + to_end nodes ≤ 200
  pub noted : used + 200 * to_end nodes ≤ 40000

-- so it is with one node changed that has begun or ended for what was taken up or noted
pub leaves_set : (e : Work) (n : ℕ) (y : Progress) (hands jobs used : ℕ) → n < (model e).plan.nodes → hands + unstarted y.state ≤ vec_len e.tokens.held + unstarted (at (model e) n).state → jobs + unended y.state ≤ vec_len e.losses.jobs + unended (at (model e) n).state → used + 200 * unended y.state ≤ vec_len e.losses.bytes + 200 * unended (at (model e) n).state → Leaves (set (model e).nodes n y) hands jobs used (vec_len e.nodes)
leaves_set e n y hands jobs used inside held listed noted =
    let b = model e in
    let place : n < length b.nodes = omega (arith, (fits e).whole) in
    let starts = sum_set (λ _ x. unstarted x.state) y unbegun b.nodes n place in
    let ends = sum_set (λ _ x. unended x.state) y unbegun b.nodes n place in
    record { few = omega (arith, e.few); listed = omega (arith, e.listed); noted = omega (arith, e.noted) }

module _ (b : Build) (n : ℕ) (inside : n < length b.nodes) where
  -- a start takes at most 4 bytes
  pub started_room : (at b n).state ≡ Waiting → room (in_state b n Running) + 4 ≤ room b
  started_room is =
      let x = at b n in
      let more = room_set b n (with_state x Running) inside (omega (arith, ap unended is)) in
      omega (arith, ap (λ s. bytes_left s (b.plan.steps n - x.done)) is)

  -- an end, with what it brings, at most 8
  pub ended_room : (s : State) → unended s ≡ 0 → bytes_left s (b.plan.steps n - (at b n).done) ≡ 0 → (at b n).state ≡ Running → room (in_state b n s) + 8 ≤ room b
  ended_room s over none is =
      let x = at b n in
      let more = room_set b n (with_state x s) inside (omega (arith, ap unended is)) in
      omega (arith, ap (λ t. bytes_left t (b.plan.steps n - x.done)) is)

  -- a step 2
  pub stepped_room : (at b n).state ≡ Running → (at b n).done < b.plan.steps n → room (with_node b n (stepped (at b n))) + 2 ≤ room b
  stepped_room is less =
      let x = at b n in
      let more = room_set b n (stepped x) inside (omega arith) in
      let old = ap (λ s. bytes_left s (b.plan.steps n - x.done)) is in
      let new = ap (λ s. bytes_left s (b.plan.steps n - (x.done + 1))) is in
      omega arith

  -- what leaves the state and the steps takes nothing
  pub same_room : (y : Progress) → y.state ≡ (at b n).state → y.done ≡ (at b n).done → room (with_node b n y) ≤ room b
  same_room y state done =
      let more = room_set b n y inside (omega (arith, ap unended state)) in
      let same : node_room b.plan n y ≡ node_room b.plan n (at b n) = λ i. bytes_left (state i) (b.plan.steps n - done i) in
      omega arith

-- a node that has not begun is one of those to start
pub one_to_start : (b : Build) (n : ℕ) → n < length b.nodes → (at b n).state ≡ Waiting → 0 < to_start b.nodes
one_to_start b n inside is = omega (arith, sum_point (λ _ x. unstarted x.state) unbegun b.nodes n inside, ap unstarted is)

-- a running node is one of those to end
pub one_to_end : (b : Build) (n : ℕ) → n < length b.nodes → (at b n).state ≡ Running → 0 < to_end b.nodes
one_to_end b n inside is = omega (arith, sum_point (λ _ x. unended x.state) unbegun b.nodes n inside, ap unended is)
