-- Which calls a build refuses, by number, and what an accepted one answers.
use Rattle.std.specs.Prelude.{ℕ, ◌+◌, ◌-◌, Bool, cond, not, ◌&&◌, ltb, List, [], ◌∷◌, map, length, Some, None, Option, nat_lt}
use Rattle.pool.specs.Meaning.{count}
use Rattle.rules.specs.Builds.{Build, finished, running, running_jobs}
use Rattle.rules.specs.Lists.{any}
use Rattle.rules.specs.Plans.{Plan, is_make, needed}
use Rattle.rules.specs.declared.progress.Progress.{Progress}
use Rattle.rules.specs.declared.refusal.Refusal.{Refusal}
use Rattle.rules.specs.declared.refusal.Refusal.TheVariants.{TokensOut, ShortBuffer, Finished, TokensMissing, NotRunningJob}

-- the number of each refusal
abbrev pub number : Refusal → ℕ
number TokensOut = 14
number ShortBuffer = 15
number Finished = 16
number TokensMissing = 17
number NotRunningJob = 18

-- open, by how many tokens are out of the pool and how long the buffer is: 14 tokens are out, 15 the buffer is too short
abbrev pub open_refusal : Plan → ℕ → ℕ → Option ℕ
open_refusal t out buffer = cond (nat_lt 0 out) (Some 14) (cond (nat_lt buffer (needed t)) (Some 15) None)

-- whether of some byte fewer are out of the pool than the makes hold
abbrev pub short_of : Build → (ℕ → ℕ) → Bool
short_of b outs = any (λ h. ltb (outs h.byte) (count h.byte (map (λ x. x.byte) b.tokens))) b.tokens

-- poll, halt and rounds, by what is out of each byte: 15, 16 the build is finished, 17 the pool is not the one that lent
abbrev pub call_refusal : Build → (ℕ → ℕ) → ℕ → Option ℕ
call_refusal b outs buffer =
    cond (nat_lt buffer (needed b.plan)) (Some 15) (cond (finished b) (Some 16) (cond (short_of b outs) (Some 17) None))

-- a node that is a running job, or 18
abbrev pub or_18 : Build → ℕ → Option ℕ → Option ℕ
or_18 b n (Some x) = Some x
or_18 b n None = cond (running b n && not (is_make b.plan n)) None (Some 18)

-- step and kill: the same, and then 18
abbrev pub job_refusal : Build → (ℕ → ℕ) → ℕ → ℕ → Option ℕ
job_refusal b outs buffer n = or_18 b n (call_refusal b outs buffer)

-- what open, step, kill, poll and halt answer: the number of running jobs
abbrev pub answer : Build → ℕ
answer b = length (running_jobs b)

-- the steps that all jobs have done
abbrev pub all_done : List Progress → ℕ
all_done [] = 0
all_done (x ∷ xs) = x.done + all_done xs

-- what rounds answer: the steps taken between two states of a build
abbrev pub steps_taken : Build → Build → ℕ
steps_taken before after = all_done after.nodes - all_done before.nodes
