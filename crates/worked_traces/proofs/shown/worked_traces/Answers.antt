use Rattle.std.proofs.Common.{ℕ, true, false, List, [], ◌∷◌, ◌++◌, codes, refl}
use Rattle.worked_traces.proofs.Players.{Act, does, hears, shows}
use Rattle.worked_traces.proofs.Pipes.{pipe_player, pipe_xy, pipe_xy_in}
use Rattle.worked_traces.proofs.Pools.{queue_player, semaphore_player, quota_player, limit_player}
use Rattle.worked_traces.proofs.Trees.{tree_z, plan_z}
use Rattle.worked_traces.proofs.shown.worked_traces.Goals as goal
use Rattle.law.specs.Calls.{step, kill, poll, halt}
use Rattle.worked_traces.specs.Shown.{xy, plus_plus, two, nothing, quota_one, limited_at}
use Rattle.lines.specs.Words.{parts}
use Rattle.pipe.specs.Queue.{queue}
use Rattle.pool.specs.Meaning.{count, sum_below, total as all_counts}
use Rattle.script.specs.Reading.{read_parts}
use Rattle.std.specs.Fmt.{digits}
use Rattle.tree.specs.Nodes.{total}

-- the two rounds, where the token that job 3 leaves is this one
abbrev rounds : ℕ → List Act
rounds y = does (step 1) [] ∷ does (step 3) (y ∷ []) ∷ does (step 4) [] ∷ does (step 1) [] ∷ does (step 4) [] ∷ does (step 5) [] ∷ []

pub returns : goal.returns
unfolding parts read_parts total digits count sum_below all_counts queue
returns c = record {
  law = (
    tree_z,
    refl,
    record {
      queue = shows queue_player plan_z false xy (codes "xy") (rounds 121) (refl, refl);
      pipe = (pipe_xy, pipe_xy_in, shows pipe_player plan_z false pipe_xy (codes "xy") (rounds 121) (refl, refl));
      pluses = shows queue_player plan_z false plus_plus (codes "++") (rounds 43) (refl, refl);
      semaphore = shows semaphore_player plan_z false two (codes "++") (rounds 43) (refl, refl);
      keeps = shows queue_player plan_z true xy (codes "xy") (rounds 121 ++ does (step 6) [] ∷ []) (refl, refl);
      quota = shows (quota_player queue_player) plan_z false quota_one (codes "x") [] (refl, refl);
      high = shows (limit_player queue_player) plan_z false (limited_at 150) [] [] (refl, refl);
      lower = shows (limit_player queue_player) plan_z false (limited_at 150) [] (hears 149 ∷ does poll (codes "xy") ∷ []) (refl, refl);
      low = shows (limit_player queue_player) plan_z false (limited_at 149) (codes "xy") [] (refl, refl);
      empty = shows queue_player plan_z false nothing [] (does (step 1) [] ∷ does (step 1) [] ∷ []) (refl, refl);
      halts = shows queue_player plan_z false xy (codes "xy") (does halt [] ∷ []) (refl, refl);
      kills = shows queue_player plan_z false xy (codes "xy") (does (kill 1) (codes "x") ∷ []) (refl, refl);
    },
  );
}
