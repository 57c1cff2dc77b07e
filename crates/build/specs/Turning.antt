-- One turn of settling, and what every part of a call keeps.
use Rattle.std.specs.Prelude.{◌≡◌, ℕ, suc, ◌+◌, ◌≤◌, Bool, true, false}
use Rattle.law.specs.Answers.{answering}
use Rattle.pool.specs.Ways.{Ways}
use Rattle.rules.specs.Settling.{settle_by}
use Rattle.build.specs.Changes.{reach}
use Rattle.build.specs.Hands.{Backed}
use Rattle.build.specs.Leads.{Point, Leads, Ends}
use Rattle.build.specs.Models.{model, in_hand}
use Rattle.build.specs.Rooms.{to_start}
use Rattle.build.specs.declared.work.Work.{Work}

-- A start was made: of however many turns, one is used up. Or settling has come to its end, if there were turns enough.
abbrev pub Turned : {P : Type 0} → Ways P → Point P → Bool → Point P → Type 0
Turned w x true y =
    ((turns : ℕ) → Leads w (settle_by answering (suc turns)) (settle_by answering turns) x y)
    × (to_start y.status.build.nodes + 1 ≡ to_start x.status.build.nodes)
Turned w x false y = (turns : ℕ) → to_start x.status.build.nodes ≤ turns → Ends w (settle_by answering turns) x y

-- The pool still backs the tokens, the build is of the same tree, and the schedule may grow no further than to this limit.
pub record Kept {P : Type 0} (w : Ways P) (e : Work) (limit : ℕ) (e' : Work) (q : P) : Type 0 where
  pub backed : Backed w q (in_hand e'.tokens)
  pub plan : (model e').plan ≡ (model e).plan
  pub keep : e'.keep ≡ e.keep
  pub spent : reach e' ≤ limit
