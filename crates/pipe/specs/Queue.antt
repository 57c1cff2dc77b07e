-- The queue of tokens that a ring of bytes stands for.
use Rattle.std.specs.Prelude.{ℕ, zero, suc, ◌+◌, ◌%◌, List, [], ◌∷◌, slice_index}
use Rattle.pool.specs.Meaning.{most_tokens}
use Rattle.pipe.specs.declared.ring.Ring.{Ring}

-- The slot of the ring that is n behind the slot h; the first slot follows the last.
abbrev pub behind : ℕ → ℕ → ℕ
behind h n = (h + n) % most_tokens

-- The n bytes from the slot h on, first to last.
unfoldable pub queue : List ℕ → ℕ → ℕ → List ℕ
queue ring h zero = []
queue ring h (suc n) = slice_index ring h ∷ queue ring (behind h 1) n

-- The bytes that stand in line in a ring, first to last.
abbrev pub in_line : Ring → List ℕ
in_line r = queue r.slots r.head r.len
