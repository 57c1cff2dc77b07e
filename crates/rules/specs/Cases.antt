-- The worked cases, as rows: what a run comes to, and what it must come to.
use Rattle.std.specs.Prelude.{◌≡◌, ℕ, Bool, false, List, [], ◌∷◌, ◌++◌, map, reverse, length, replicate, Some, None, Ok, Err, codes, Option, Result}
use Rattle.first_line.specs.Head.{Choice, a_pipe, a_semaphore, Head, head}
use Rattle.first_line.specs.declared.types.Refusal.{Refusal}
use Rattle.lines.specs.Faults.{Fault}
use Rattle.rules.specs.Calls.{open_run, step_run, kill_run, halt_run, rounds_run, written}
use Rattle.rules.specs.Builds.{Build}
use Rattle.rules.specs.Faults.{fault}
use Rattle.rules.specs.Faults.{Fault as FaultOf}
use Rattle.rules.specs.Plans.{Plan, plan_of}
use Rattle.rules.specs.Refusing.{open_refusal, call_refusal, job_refusal, answer, steps_taken}
use Rattle.schedule.specs.Causes.{cause_number}
use Rattle.rules.specs.Settling.{Run}
use Rattle.rules.specs.Stores.{Stock, pipe_store, semaphore_store, quota_store, limit_store}
use Rattle.schedule.specs.Lines.{printed}
use Rattle.schedule.specs.declared.record.Record.{Record}
use Rattle.script.specs.Reading.{read_text}
use Rattle.tree.specs.Nodes.{top}
use Rattle.tree.specs.declared.node.Kind.TheVariants.{Job}
use Rattle.tree.specs.declared.node.Node.{Node}

-- lines of a text, each ended by byte 10
abbrev pub lines : List (List ℕ) → List ℕ
lines [] = []
lines (l ∷ ls) = l ++ 10 ∷ lines ls

-- the script of the worked cases: a job, a nested make of three jobs of which one fails, a wait, and another job
abbrev pub script_z : List ℕ
script_z = lines (codes "job a 2" ∷ codes "make lib" ∷ codes "job b 1" ∷ codes "fail c 2" ∷ codes "job d 1" ∷ codes "done" ∷ codes "wait" ∷ codes "job e 1" ∷ [])

-- the plan of a script
abbrev pub planned : Result (List Node) Fault → Plan
planned (Ok ns) = plan_of ns
planned (Err f) = plan_of []

-- its tree
abbrev pub plan_z : Plan
plan_z = planned (read_text script_z)

-- the lines of records, in their order
abbrev pub printed_from : List Record → List ℕ
printed_from [] = []
printed_from (r ∷ rs) = printed r ++ printed_from rs

-- the lines of a run's records, from the first to the last
abbrev pub shown : {P : Type 0} → Run P → List ℕ
shown r = printed_from (reverse r.records)

-- a pipe with the tokens `x` and `y` in
abbrev pub xy : Stock (List ℕ)
xy = record { held = codes "xy"; out = 0 }

-- that tree opened on that pipe
abbrev pub opened_z : Run (Stock (List ℕ))
opened_z = open_run pipe_store plan_z false 2 xy

-- the same build and pool, with no records yet
abbrev pub anew : {P : Type 0} → Run P → Run P
anew r = record { build = r.build; pool = r.pool; records = [] }

-- what the program prints for a pool: the build is opened, and rounds run to its finish
abbrev pub printed_on : Choice → Bool → Plan → List ℕ
printed_on (a_pipe bs) keep t =
    shown (rounds_run pipe_store (open_run pipe_store t keep (length bs) (record { held = bs; out = 0 })))
printed_on (a_semaphore n) keep t =
    shown (rounds_run semaphore_store (open_run semaphore_store t keep n (record { held = n; out = 0 })))

-- what it prints for a first line that was read
abbrev pub printed_head : Result Head Refusal → List ℕ
printed_head (Ok h) = printed_on h.pool h.keep (planned (read_text h.rest))
printed_head (Err e) = []

-- what it prints for a whole input
abbrev pub program : List ℕ → List ℕ
program input = printed_head (head input)

-- the number, line and place of the fault of a text
abbrev pub fault_of : Result (List Node) Fault → List ℕ
fault_of (Ok ns) = []
fault_of (Err f) = f.number ∷ f.place.line ∷ f.place.byte ∷ []

-- the tree opened on the pipe under a load limit of 150, at this reading
abbrev pub limited : ℕ → List ℕ
limited reading = shown (open_run (limit_store 150 reading pipe_store) plan_z false 2 xy)

-- the tree opened on an empty pipe
abbrev pub empty_opened : Run (Stock (List ℕ))
empty_opened = open_run pipe_store plan_z false 0 (record { held = []; out = 0 })

-- 49 jobs of 10 steps under the top make, on a pipe of three tokens: how many records the whole run has
abbrev pub wide_run : ℕ
wide_run =
    let t = plan_of (top ∷ replicate 49 (record { kind = Job; make = 0; level = 0; steps = 10; wait = false })) in
    length (rounds_run pipe_store (open_run pipe_store t false 3 (record { held = codes "xyz"; out = 0 }))).records

-- a refusal's number, or nothing
abbrev pub number_of : Option ℕ → List ℕ
number_of None = []
number_of (Some n) = n ∷ []

-- of every byte so many are out
abbrev pub all_out : ℕ → ℕ → ℕ
all_out n k = n

-- the finished build of the worked tree
abbrev pub finished_z : Build
finished_z = (rounds_run pipe_store opened_z).build

-- a failed node's fault, as numbers: cause, node, level, steps done, and the tokens
abbrev pub told_fault : Result (Option FaultOf) ℕ → List ℕ
told_fault (Ok None) = []
told_fault (Ok (Some f)) = cause_number f.cause ∷ f.node ∷ f.level ∷ f.done ∷ f.tokens
told_fault (Err n) = n ∷ []

-- a run, and what it must come to
pub record Row : Type 0 where
  pub got : List ℕ
  pub want : List ℕ

-- the worked cases
abbrev pub rows : List Row
rows =
    -- a pipe of two tokens
    record {
      got = program (codes "pipe xy" ++ 10 ∷ script_z);
      want = lines (codes "O 3 0 7" ∷ codes "A 0 1" ∷ codes "T 0 2 120" ∷ codes "A 2 3" ∷ codes "T 2 4 121" ∷ codes "S 1" ∷ codes "S 3" ∷ codes "E 3" ∷ codes "R 2 121" ∷ codes "T 2 5 121" ∷ codes "S 4" ∷ codes "S 1" ∷ codes "E 1" ∷ codes "R 0 120" ∷ codes "S 4" ∷ codes "F 4 1" ∷ codes "R 2 121" ∷ codes "S 5" ∷ codes "E 5" ∷ codes "F 2 3" ∷ codes "F 0 3" ∷ codes "D 1" ∷ []);
    }
    ∷
    -- a semaphore of two tokens: the same with `+` for each token
    record {
      got = program (codes "sem 2" ++ 10 ∷ script_z);
      want = lines (codes "O 3 0 7" ∷ codes "A 0 1" ∷ codes "T 0 2 43" ∷ codes "A 2 3" ∷ codes "T 2 4 43" ∷ codes "S 1" ∷ codes "S 3" ∷ codes "E 3" ∷ codes "R 2 43" ∷ codes "T 2 5 43" ∷ codes "S 4" ∷ codes "S 1" ∷ codes "E 1" ∷ codes "R 0 43" ∷ codes "S 4" ∷ codes "F 4 1" ∷ codes "R 2 43" ∷ codes "S 5" ∷ codes "E 5" ∷ codes "F 2 3" ∷ codes "F 0 3" ∷ codes "D 1" ∷ []);
    }
    ∷
    -- the pipe, and the build keeps going
    record {
      got = program (codes "pipe xy keep" ++ 10 ∷ script_z);
      want = lines (codes "O 3 1 7" ∷ codes "A 0 1" ∷ codes "T 0 2 120" ∷ codes "A 2 3" ∷ codes "T 2 4 121" ∷ codes "S 1" ∷ codes "S 3" ∷ codes "E 3" ∷ codes "R 2 121" ∷ codes "T 2 5 121" ∷ codes "S 4" ∷ codes "S 1" ∷ codes "E 1" ∷ codes "R 0 120" ∷ codes "S 4" ∷ codes "F 4 1" ∷ codes "R 2 121" ∷ codes "S 5" ∷ codes "E 5" ∷ codes "F 2 3" ∷ codes "A 0 6" ∷ codes "S 6" ∷ codes "E 6" ∷ codes "F 0 3" ∷ codes "D 1" ∷ []);
    }
    ∷
    -- a quota of 1 over the pipe
    record {
      got = shown (open_run (quota_store 1 pipe_store) plan_z false 2 xy);
      want = lines (codes "O 3 0 7" ∷ codes "A 0 1" ∷ codes "T 0 2 120" ∷ codes "A 2 3" ∷ []);
    }
    ∷
    -- a load limit of 150 over the pipe, at the reading 150
    record {
      got = limited 150;
      want = lines (codes "O 3 0 7" ∷ codes "A 0 1" ∷ []);
    }
    ∷
    -- the same at the reading 149
    record {
      got = limited 149;
      want = lines (codes "O 3 0 7" ∷ codes "A 0 1" ∷ codes "T 0 2 120" ∷ codes "A 2 3" ∷ codes "T 2 4 121" ∷ []);
    }
    ∷
    -- an empty pipe
    record {
      got = shown empty_opened;
      want = lines (codes "O 1 0 7" ∷ codes "A 0 1" ∷ []);
    }
    ∷
    -- two steps of job 1 on the empty pipe
    record {
      got = shown (step_run pipe_store 1 (step_run pipe_store 1 (anew empty_opened)));
      want = lines (codes "S 1" ∷ codes "S 1" ∷ codes "E 1" ∷ codes "A 0 2" ∷ codes "A 2 3" ∷ []);
    }
    ∷
    -- a halt after the pipe's open
    record {
      got = shown (halt_run pipe_store (anew opened_z));
      want = lines (codes "H" ∷ codes "F 1 4" ∷ codes "R 0 120" ∷ codes "F 3 4" ∷ codes "R 2 121" ∷ codes "F 4 4" ∷ codes "F 2 3" ∷ codes "F 0 3" ∷ codes "D 1" ∷ []);
    }
    ∷
    -- a kill of job 1 after the pipe's open
    record {
      got = shown (kill_run pipe_store 1 (anew opened_z));
      want = lines (codes "K 1" ∷ codes "F 1 2" ∷ codes "R 0 120" ∷ codes "T 2 5 120" ∷ []);
    }
    ∷
    -- the empty script: number, line and place
    record {
      got = fault_of (read_text []);
      want = 10 ∷ 1 ∷ 0 ∷ [];
    }
    ∷
    -- the script of the one line `done`
    record {
      got = fault_of (read_text (codes "done" ++ 10 ∷ []));
      want = 9 ∷ 1 ∷ 0 ∷ [];
    }
    ∷
    -- open: tokens are out, before the buffer is too short
    record {
      got = number_of (open_refusal plan_z 1 0);
      want = 14 ∷ [];
    }
    ∷
    -- open: the tree of 7 nodes and 7 steps needs 105 bytes
    record {
      got = number_of (open_refusal plan_z 0 104) ++ number_of (open_refusal plan_z 0 105);
      want = 15 ∷ [];
    }
    ∷
    -- a finished build: first the buffer, then that it is finished
    record {
      got = number_of (call_refusal finished_z (all_out 0) 104) ++ number_of (call_refusal finished_z (all_out 0) 105);
      want = 15 ∷ 16 ∷ [];
    }
    ∷
    -- another pool, before a node that is no running job
    record {
      got = number_of (job_refusal opened_z.build (all_out 0) 105 0);
      want = 17 ∷ [];
    }
    ∷
    -- a make, a job that has not begun, and a number outside the tree are no running jobs; job 1 is one
    record {
      got = number_of (job_refusal opened_z.build (all_out 1) 105 0) ++ (number_of (job_refusal opened_z.build (all_out 1) 105 6) ++ (number_of (job_refusal opened_z.build (all_out 1) 105 7) ++ number_of (job_refusal opened_z.build (all_out 1) 105 1)));
      want = 18 ∷ 18 ∷ 18 ∷ [];
    }
    ∷
    -- rounds take six steps of the worked tree: job 6 never starts
    record {
      got = steps_taken opened_z.build finished_z ∷ [];
      want = 6 ∷ [];
    }
    ∷
    -- the open of the worked tree writes records of 4, 3, 4, 3 and 4 bytes
    record {
      got = written opened_z ∷ [];
      want = 18 ∷ [];
    }
    ∷
    -- three jobs run after the open
    record {
      got = answer opened_z.build ∷ [];
      want = 3 ∷ [];
    }
    ∷
    -- the fault of job 4: the script, level 1, two steps, and 121 in its make's hand; of the makes 2 and 0 the same
    record {
      got = told_fault (fault finished_z 4) ++ (told_fault (fault finished_z 2) ++ told_fault (fault finished_z 0));
      want = 1 ∷ 4 ∷ 1 ∷ 2 ∷ 121 ∷ 1 ∷ 4 ∷ 1 ∷ 2 ∷ 121 ∷ 1 ∷ 4 ∷ 1 ∷ 2 ∷ 121 ∷ [];
    }
    ∷
    -- a job that ended well has no fault, and a number outside the tree is refused
    record {
      got = told_fault (fault finished_z 1) ++ told_fault (fault finished_z 7);
      want = 21 ∷ [];
    }
    ∷
    -- a larger run: `O` and `D`, an `A` for the first job and a `T` for each of the other 48, an `R` for each `T`,
    -- 490 times `S`, and an `E` for each of the 50 nodes
    record {
      got = wide_run ∷ [];
      want = 639 ∷ [];
    }
    ∷ []

-- every run comes to what it must
abbrev pub Worked : Type 0
Worked = map (λ r. r.got) rows ≡ map (λ r. r.want) rows
