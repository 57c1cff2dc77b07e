use Rattle.std.proofs.Common.{◌≡◌, ◌+◌, ◌-◌, ◌≤◌, map, vec_items, vec_len, vec_capacity}
use Rattle.build.specs.Models.{held}
use Rattle.build.proofs.Handing.{Adding}
use Rattle.build.proofs.tokens.Tokens.add_bytes.Given as goal

abbrev pub invariant-loop-token : goal.invariant-loop-token
invariant-loop-token l =
    Adding l.make (map held (vec_items l.self.held)) (vec_items l.initial.bytes) l.token-index (vec_items l.bytes)
    × (vec_len l.bytes + (vec_len l.self.held - l.token-index) ≤ vec_len l.initial.bytes + vec_len l.self.held)
    × (vec_capacity l.bytes ≡ vec_capacity l.initial.bytes)
