-- What a build holds, and what the rules ask of it.
use Rattle.std.specs.Prelude.{ℕ, Bool, true, false, not, ◌&&◌, List, [], map, reverse, replicate, None, nat_eq, slice_index_or, slice_set}
use Rattle.rules.specs.Lists.{numbers, those, any}
use Rattle.rules.specs.Plans.{Plan, is_make, children}
use Rattle.rules.specs.declared.progress.Progress.{Progress}
use Rattle.rules.specs.declared.progress.State.{State}
use Rattle.rules.specs.declared.progress.State.TheVariants.{Waiting, Running, Good, Failed}

-- a token in a make's hand: the make and the byte
pub record Held : Type 0 where
  pub by : ℕ
  pub byte : ℕ

-- the tokens that its make held when this job failed, oldest first
pub record Loss : Type 0 where
  pub job : ℕ
  pub tokens : List ℕ

-- the tree, whether it keeps going, how far each node is, the tokens in hand (the one taken last first), and the losses
pub record Build : Type 0 where
  pub plan : Plan
  pub keep : Bool
  pub nodes : List Progress
  pub tokens : List Held
  pub losses : List Loss

-- a node that has not begun
abbrev pub unbegun : Progress
unbegun = record { state = Waiting; done = 0; stopped = false; first_failed = None }

-- how far node n is
abbrev pub at : Build → ℕ → Progress
at b n = slice_index_or b.nodes n unbegun

-- has not begun
abbrev pub is_waiting : State → Bool
is_waiting Waiting = true
is_waiting Running = false
is_waiting Good = false
is_waiting (Failed c) = false

-- runs; of a make: is live
abbrev pub is_running : State → Bool
is_running Waiting = false
is_running Running = true
is_running Good = false
is_running (Failed c) = false

-- whether node n runs
abbrev pub running : Build → ℕ → Bool
running b n = is_running (at b n).state

-- whether node n has not begun
abbrev pub waiting : Build → ℕ → Bool
waiting b n = is_waiting (at b n).state

-- node n is now so
abbrev pub with_node : Build → ℕ → Progress → Build
with_node b n x = record { plan = b.plan; keep = b.keep; nodes = slice_set b.nodes n x; tokens = b.tokens; losses = b.losses }

-- these tokens are in the makes' hands
abbrev pub with_tokens : Build → List Held → Build
with_tokens b ts = record { plan = b.plan; keep = b.keep; nodes = b.nodes; tokens = ts; losses = b.losses }

-- these losses are noted
abbrev pub with_losses : Build → List Loss → Build
with_losses b ls = record { plan = b.plan; keep = b.keep; nodes = b.nodes; tokens = b.tokens; losses = ls }

-- the same in another state
abbrev pub with_state : Progress → State → Progress
with_state x s = record { state = s; done = x.done; stopped = x.stopped; first_failed = x.first_failed }

-- node n is now in this state
abbrev pub in_state : Build → ℕ → State → Build
in_state b n s = with_node b n (with_state (at b n) s)

-- whether some child of the make runs
abbrev pub has_running : Build → ℕ → Bool
has_running b m = any (running b) (children b.plan m)

-- whether some child of the make has not begun
abbrev pub has_waiting : Build → ℕ → Bool
has_waiting b m = any (waiting b) (children b.plan m)

-- the running jobs, in rising number
abbrev pub running_jobs : Build → List ℕ
running_jobs b = those (λ n. running b n && not (is_make b.plan n)) (numbers 0 b.plan.nodes)

-- the tokens of a make, oldest first
abbrev pub tokens_of : Build → ℕ → List ℕ
tokens_of b m = reverse (map (λ h. h.byte) (those (λ h. nat_eq h.by m) b.tokens))

-- a build that has not begun
abbrev pub begun_on : Plan → Bool → Build
begun_on t keep = record { plan = t; keep = keep; nodes = replicate t.nodes unbegun; tokens = []; losses = [] }

-- a build is finished unless its top make runs
abbrev pub finished : Build → Bool
finished b = not (running b 0)
