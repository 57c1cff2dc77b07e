-- The worked cases as traces, and a trace in which every kind of call occurs, accepted and refused.
use Rattle.std.specs.Prelude.{◌≡◌, ℕ, Bool, true, false, List, [], ◌∷◌, ◌++◌, map, reverse, replicate, Some, None, Ok, Err, codes}
use Rattle.std.proofs.Common.{lit<, lit≤}
use Rattle.law.specs.Calls.{Status, Request, step, kill, poll, halt, Called, Opened}
use Rattle.law.specs.Counts.{records_of}
use Rattle.worked_traces.specs.Queues.{Queue, queue_ways}
use Rattle.law.specs.Traces.{Event, opened, called, loaded, obtained, released, Moment, just_opened, Trace}
use Rattle.layers.specs.LoadLimits.{limit_ways}
use Rattle.layers.specs.Quotas.{quota_ways}
use Rattle.layers.specs.declared.load_limit.LoadLimit.{LoadLimit}
use Rattle.layers.specs.declared.quota.Quota.{Quota}
use Rattle.pipe.specs.Pipes.{AllIn, pipe_ways}
use Rattle.pipe.specs.declared.state.Pipe.{Pipe}
use Rattle.pool.specs.Ways.{Ways}
use Rattle.pool.specs.declared.refusals.Refusal.TheVariants.{NotOut, ReadingTooHigh}
use Rattle.rules.specs.Cases.{lines, printed_from, script_z}
use Rattle.rules.specs.Plans.{Plan, plan_of}
use Rattle.rules.specs.declared.refusal.Refusal.{Refusal}
use Rattle.rules.specs.declared.refusal.Refusal.TheVariants.{TokensOut, ShortBuffer, Finished, TokensMissing, NotRunningJob}
use Rattle.script.specs.Reading.{read_text}
use Rattle.semaphore.specs.Semaphores.{semaphore_ways}
use Rattle.semaphore.specs.declared.state.Semaphore.{Semaphore}
use Rattle.tool.specs.Grants.{Release}
use Rattle.tool.specs.declared.grants.Grant.{Grant}
use Rattle.tree.specs.Questions.{nodes_of}
use Rattle.tree.specs.declared.tree.Tree.{Tree}

-- an accepted open of the plan on the pool p
pub record Begun {P : Type 0} (w : Ways P) (t : Plan) (keep : Bool) (p : P) : Type 0 where
  pub before : Status
  pub after : Status
  pub pool : P
  pub old : List ℕ
  pub new : List ℕ
  pub answer : ℕ
  pub accepted : Opened w t keep before p old (Ok answer) after pool new

-- a call and what it answered, without its records
abbrev pub bare : Event → Event
bare (opened new) = opened []
bare (called c r new) = called c r []
bare (loaded x r) = loaded x r
bare (obtained g) = obtained g
bare (released g r) = released g r

-- There is a trace that begins with an accepted open on p and is of just these calls, the first one first; and the
-- records of its calls, from the first to the last, have just these lines.
pub record Shows {P : Type 0} (w : Ways P) (t : Plan) (keep : Bool) (p : P) (calls : List Event) (text : List ℕ) : Type 0 where
  pub begun : Begun w t keep p
  pub now : Moment P
  pub trace : Trace w (just_opened begun.after begun.pool begun.new) now
  pub named : map bare (reverse now.calls) ≡ opened [] ∷ calls
  pub shown : printed_from (reverse (records_of now.calls)) ≡ text

-- a call that was accepted, with so many jobs running after it
abbrev pub did : Request → ℕ → Event
did c n = called c (Ok n) []

-- a call that was refused
abbrev pub turned_away : Request → Refusal → Event
turned_away c e = called c (Err e) []

-- a queue of `x` and `y`
abbrev pub xy : Queue
xy = record { line = codes "xy"; lent = []; few = lit≤ tt; line_bytes = (lit< tt, (lit< tt, tt)); lent_bytes = tt }

-- a queue of `+` and `+`
abbrev pub plus_plus : Queue
plus_plus = record { line = codes "++"; lent = []; few = lit≤ tt; line_bytes = (lit< tt, (lit< tt, tt)); lent_bytes = tt }

-- a semaphore of two
abbrev pub two : Semaphore
two = record { tokens_in = 2; tokens_out = 0; few = lit≤ tt }

-- a queue of no tokens
abbrev pub nothing : Queue
nothing = record { line = []; lent = []; few = lit≤ tt; line_bytes = tt; lent_bytes = tt }

-- a queue of `y`, with `x` out
abbrev pub one_out : Queue
one_out = record { line = codes "y"; lent = codes "x"; few = lit≤ tt; line_bytes = (lit< tt, tt); lent_bytes = (lit< tt, tt) }

-- a quota of 1 over the first
abbrev pub quota_one : Quota Queue
quota_one = record { below = xy; most = 1 }

-- a load limit of 150 over it, at this reading
abbrev pub limited_at : ℕ → LoadLimit Queue
limited_at reading = record { below = xy; limit = 150; reading = reading }

-- the calls of two rounds on two tokens, each with the number of jobs that run after it
abbrev pub six_steps : ℕ → List Event
six_steps left = did (step 1) 3 ∷ did (step 3) 3 ∷ did (step 4) 3 ∷ did (step 1) 2 ∷ did (step 4) 1 ∷ did (step 5) left ∷ []

-- the lines of an open on two tokens that are written so, after the first line
abbrev pub open_lines : List ℕ → List ℕ → List (List ℕ)
open_lines x y = codes "A 0 1" ∷ (codes "T 0 2 " ++ x) ∷ codes "A 2 3" ∷ (codes "T 2 4 " ++ y) ∷ []

-- the lines of the two rounds, up to the end of make 2
abbrev pub step_lines : List ℕ → List ℕ → List (List ℕ)
step_lines x y =
    codes "S 1" ∷ codes "S 3" ∷ codes "E 3" ∷ (codes "R 2 " ++ y) ∷ (codes "T 2 5 " ++ y) ∷ codes "S 4" ∷ codes "S 1" ∷ codes "E 1" ∷ (codes "R 0 " ++ x) ∷ codes "S 4" ∷ codes "F 4 1" ∷ (codes "R 2 " ++ y) ∷ codes "S 5" ∷ codes "E 5" ∷ codes "F 2 3" ∷ []

-- the last lines of a build that failed
abbrev pub end_lines : List (List ℕ)
end_lines = codes "F 0 3" ∷ codes "D 1" ∷ []

-- the lines of the open on `x` and `y`
abbrev pub xy_lines : List (List ℕ)
xy_lines = codes "O 3 0 7" ∷ open_lines (codes "120") (codes "121")

-- the lines of the whole build on them
abbrev pub whole_lines : List (List ℕ)
whole_lines = xy_lines ++ (step_lines (codes "120") (codes "121") ++ end_lines)

-- the lines of the whole build on two `+`
abbrev pub plus_lines : List (List ℕ)
plus_lines = codes "O 3 0 7" ∷ open_lines (codes "43") (codes "43") ++ (step_lines (codes "43") (codes "43") ++ end_lines)

-- every worked case is a trace of this tree
pub record WorkedOn (tree : Tree) : Type 0 where
  -- `x` and `y` in a queue, to the finish; and a pipe of them
  pub queue : Shows queue_ways (plan_of (nodes_of tree)) false xy (six_steps 0) (lines whole_lines)
  pub pipe : (p : Pipe) × (AllIn (codes "xy") p) × Shows pipe_ways (plan_of (nodes_of tree)) false p (six_steps 0) (lines whole_lines)
  -- two `+` in a queue, and a semaphore of two: the same with 43 for each token
  pub pluses : Shows queue_ways (plan_of (nodes_of tree)) false plus_plus (six_steps 0) (lines plus_lines)
  pub semaphore : Shows semaphore_ways (plan_of (nodes_of tree)) false two (six_steps 0) (lines plus_lines)
  -- the queue, and the build keeps going: job 6 starts, and a seventh step ends the build
  pub keeps : Shows queue_ways (plan_of (nodes_of tree)) true xy (six_steps 1 ++ did (step 6) 0 ∷ [])
      (lines (codes "O 3 1 7" ∷ open_lines (codes "120") (codes "121") ++ (step_lines (codes "120") (codes "121") ++ codes "A 0 6" ∷ codes "S 6" ∷ codes "E 6" ∷ end_lines)))
  -- a quota of 1
  pub quota : Shows (quota_ways queue_ways) (plan_of (nodes_of tree)) false quota_one []
      (lines (codes "O 3 0 7" ∷ codes "A 0 1" ∷ codes "T 0 2 120" ∷ codes "A 2 3" ∷ []))
  -- a load limit of 150 at the reading 150; and then at the reading 149
  pub high : Shows (limit_ways queue_ways) (plan_of (nodes_of tree)) false (limited_at 150) []
      (lines (codes "O 3 0 7" ∷ codes "A 0 1" ∷ []))
  pub lower : Shows (limit_ways queue_ways) (plan_of (nodes_of tree)) false (limited_at 150) (loaded 149 (Ok tt) ∷ did poll 3 ∷ [])
      (lines xy_lines)
  -- the same opened at the reading 149
  pub low : Shows (limit_ways queue_ways) (plan_of (nodes_of tree)) false (limited_at 149) [] (lines xy_lines)
  -- an empty queue, and two steps of job 1
  pub empty : Shows queue_ways (plan_of (nodes_of tree)) false nothing (did (step 1) 1 ∷ did (step 1) 1 ∷ [])
      (lines (codes "O 1 0 7" ∷ codes "A 0 1" ∷ codes "S 1" ∷ codes "S 1" ∷ codes "E 1" ∷ codes "A 0 2" ∷ codes "A 2 3" ∷ []))
  -- a halt after the open
  pub halts : Shows queue_ways (plan_of (nodes_of tree)) false xy (did halt 0 ∷ [])
      (lines (xy_lines ++ codes "H" ∷ codes "F 1 4" ∷ codes "R 0 120" ∷ codes "F 3 4" ∷ codes "R 2 121" ∷ codes "F 4 4" ∷ codes "F 2 3" ∷ end_lines))
  -- a kill of job 1 after the open
  pub kills : Shows queue_ways (plan_of (nodes_of tree)) false xy (did (kill 1) 3 ∷ [])
      (lines (xy_lines ++ codes "K 1" ∷ codes "F 1 2" ∷ codes "R 0 120" ∷ codes "T 2 5 120" ∷ []))

-- it is so of a tree as which the worked script reads
abbrev pub OfWorkedTree : (Tree → Type 0) → Type 0
OfWorkedTree Q = (tree : Tree) × (read_text script_z ≡ Ok (nodes_of tree)) × Q tree

-- the worked cases are traces of the worked tree
abbrev pub WorkedTraces : Type 0
WorkedTraces = OfWorkedTree WorkedOn

-- a tool's grant of `x`
abbrev pub grant_x : Grant
grant_x = record { byte = 120 }

-- calls of every kind, accepted and refused, on a load limit that is reached at first
abbrev pub all_kinds : List Event
all_kinds =
    obtained None ∷ loaded 100001 (Err ReadingTooHigh) ∷ loaded 149 (Ok tt) ∷ obtained (Some grant_x) ∷ did poll 2 ∷ released grant_x (Ok tt)
    ∷ turned_away poll ShortBuffer ∷ did (step 1) 3 ∷ turned_away (step 0) NotRunningJob ∷ turned_away (kill 6) NotRunningJob ∷ did (kill 1) 3
    ∷ turned_away halt ShortBuffer ∷ did halt 0
    ∷ turned_away (step 3) Finished ∷ turned_away (kill 3) Finished ∷ turned_away poll Finished ∷ turned_away halt Finished ∷ []

-- every kind of call occurs, accepted and refused
pub record AllKindsOn (tree : Tree) : Type 0 where
  -- in one trace, but for the opens that are refused and for what cannot be in a trace
  pub trace : Shows (limit_ways queue_ways) (plan_of (nodes_of tree)) false (limited_at 150) all_kinds
      (lines (codes "O 3 0 7" ∷ codes "A 0 1" ∷ codes "T 0 2 121" ∷ codes "A 2 3" ∷ codes "S 1" ∷ codes "T 2 4 120" ∷ codes "K 1" ∷ codes "F 1 2" ∷ codes "R 0 121" ∷ codes "T 2 5 121" ∷ codes "H" ∷ codes "F 3 4" ∷ codes "R 2 121" ∷ codes "F 4 4" ∷ codes "R 2 120" ∷ codes "F 5 4" ∷ codes "F 2 3" ∷ end_lines))
  -- an open while a token is out, whatever the buffer; and one with a buffer of one byte too few
  pub tokens_out : (s : Status) (buffer : List ℕ) → Opened queue_ways (plan_of (nodes_of tree)) false s one_out buffer (Err TokensOut) s one_out buffer
  pub short : (s : Status) → Opened queue_ways (plan_of (nodes_of tree)) false s xy (replicate 104 0) (Err ShortBuffer) s xy (replicate 104 0)
  -- a build that was opened on `x` and `y`, and is then called, whatever the call, with a pool of which nothing is out
  pub missing : (b : Begun queue_ways (plan_of (nodes_of tree)) false xy) × ((c : Request) → Called queue_ways c b.after xy (replicate 105 0) (Err TokensMissing) b.after xy (replicate 105 0))
  -- a release of a token of which none is out
  pub not_out : Release queue_ways xy grant_x (Err (record { grant = grant_x; refusal = NotOut })) xy

-- every kind of call occurs on the worked tree
abbrev pub EveryKind : Type 0
EveryKind = OfWorkedTree AllKindsOn
