use Rattle.std.proofs.Common.{false, List, [], ◌∷◌, replicate, Err, codes, refl}
use Rattle.worked_traces.proofs.Players.{Act, does, fails, hears, unheard, gets, gets_none, lays_down, play_open, shows, there}
use Rattle.worked_traces.proofs.Pools.{queue_player, limit_player}
use Rattle.worked_traces.proofs.Trees.{tree_z, plan_z}
use Rattle.worked_traces.proofs.shown.every_kind_of_call.Goals as goal
use Rattle.law.specs.Calls.{Request, step, kill, poll, halt, Called}
use Rattle.worked_traces.specs.Queues.{queue_ways}
use Rattle.worked_traces.specs.Shown.{xy, limited_at}
use Rattle.lines.specs.Words.{parts}
use Rattle.pool.specs.Meaning.{count, sum_below, total as all_counts}
use Rattle.rules.specs.declared.refusal.Refusal.TheVariants.{ShortBuffer, Finished, TokensMissing, NotRunningJob}
use Rattle.script.specs.Reading.{read_parts}
use Rattle.std.specs.Fmt.{digits}
use Rattle.tree.specs.Nodes.{total}

-- the calls, with the tokens that each takes or the length of its buffer
abbrev acts : List Act
acts =
    gets_none ∷ unheard 100001 ∷ hears 149 ∷ gets 120 ∷ does poll (codes "y") ∷ lays_down
    ∷ fails poll ShortBuffer 104 ∷ does (step 1) (codes "x") ∷ fails (step 0) NotRunningJob 105 ∷ fails (kill 6) NotRunningJob 105 ∷ does (kill 1) (codes "y")
    ∷ fails halt ShortBuffer 104 ∷ does halt []
    ∷ fails (step 3) Finished 105 ∷ fails (kill 3) Finished 105 ∷ fails poll Finished 105 ∷ fails halt Finished 105 ∷ []

pub returns : goal.returns
unfolding parts read_parts total digits count sum_below all_counts
returns c = record {
  law = (
    tree_z,
    refl,
    record {
      trace = shows (limit_player queue_player) plan_z false (limited_at 150) [] acts (refl, refl);
      tokens_out = λ s buffer. (refl, refl, refl, refl);
      short = λ s. (refl, refl, refl, refl);
      missing = there (λ b. (c : Request) → Called queue_ways c b.after xy (replicate 105 0) (Err TokensMissing) b.after xy (replicate 105 0)) (play_open queue_player plan_z false xy (codes "xy"))
          (elim [ step n ↦ (refl, refl, refl, refl) | kill n ↦ (refl, refl, refl, refl) | poll ↦ (refl, refl, refl, refl) | halt ↦ (refl, refl, refl, refl) ]);
      not_out = (refl, refl, refl, refl);
    },
  );
}
