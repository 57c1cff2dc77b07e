use Rattle.std.proofs.Common.{◌≤◌, length, vec_items, ◌-◌}
use Rattle.build.proofs.Shown.{Left}
use Rattle.build.proofs.losses.Losses.tokens_at.Given as goal

abbrev pub invariant-loop-loss : goal.invariant-loop-loss
invariant-loop-loss l = record {
  left : Left l.n (vec_items l.self.jobs) (vec_items l.self.bytes) (length (vec_items l.self.jobs) - length l.yielded) l.end;
  within : l.end ≤ length (vec_items l.self.bytes);
}
