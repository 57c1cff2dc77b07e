-- Which events each state of a node accepts, and what they do.
use Rattle.std.specs.Prelude.{◌+◌, Bool, true, false, cond, nat_lt, Ok, Err, Result}
use Rattle.rules.specs.declared.progress.Event.{Event}
use Rattle.rules.specs.declared.progress.Event.TheVariants as events
use Rattle.rules.specs.declared.progress.Progress.{Progress}
use Rattle.rules.specs.declared.progress.State.{State}
use Rattle.rules.specs.declared.progress.State.TheVariants.{Waiting, Running, Good, Failed}
use Rattle.schedule.specs.declared.cause.Cause.{Cause}

-- the state of a node that ended so
abbrev pub state_of : Result Unit Cause → State
state_of (Ok _) = Good
state_of (Err c) = Failed c

-- waiting a start
abbrev pub accepts_start : State → Bool
accepts_start Waiting = true
accepts_start Running = false
accepts_start Good = false
accepts_start (Failed c) = false

-- running a step, if one is left, or an end
abbrev pub accepts_work : State → Bool → Bool
accepts_work Waiting left = false
accepts_work Running left = left
accepts_work Good left = false
accepts_work (Failed c) left = false

abbrev pub accepts : Progress → Event → Bool
accepts x events.Start = accepts_start x.state
accepts x (events.Step n) = accepts_work x.state (nat_lt x.done n)
accepts x (events.End e) = accepts_work x.state true

-- what the event does to a node that accepts it
abbrev pub changed : Progress → Event → Progress
changed x events.Start = record { state = Running; done = x.done; stopped = x.stopped; first_failed = x.first_failed }
changed x (events.Step n) = record { state = x.state; done = x.done + 1; stopped = x.stopped; first_failed = x.first_failed }
changed x (events.End e) = record { state = state_of e; done = x.done; stopped = x.stopped; first_failed = x.first_failed }

-- the node after the event, which changes nothing where it is not accepted
abbrev pub accepted : Progress → Event → Progress
accepted x e = cond (accepts x e) (changed x e) x
