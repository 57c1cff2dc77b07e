-- The pipe can be computed with: a take and a put on one, and a pipe of `x` and `y`.
use Rattle.std.proofs.Common.{◌≡◌, ℕ, suc, ◌+◌, ◌-◌, ◌<◌, ◌≤◌, [], ◌∷◌, ◌++◌, length, get_or, set, Some, codes, refl, ap, ◌∙◌, arith, lit<, lit≤, length-set}
use Rattle.worked_traces.proofs.Players.{go_on, at_most?, same?, Player}
use Rattle.pipe.specs.Rings.{left, entered, length_queue}
use Rattle.pipe.proofs.Tallies.{raised, raised_total, lowered, lowered_total, zeros, all_zero}
use Rattle.pipe.specs.Pipes.{line, AllIn, pipe_ways}
use Rattle.pipe.specs.Queue.{behind, in_line, queue}
use Rattle.pipe.specs.declared.ring.Ring.{Ring}
use Rattle.pipe.specs.declared.state.Pipe.{Pipe}
use Rattle.pipe.specs.declared.tally.Tally.{Tally}
use Rattle.pool.proofs.Counts.{count_first, count_append, first_counted}
use Rattle.pool.proofs.Totals.{total_point}
use Rattle.pool.specs.Meaning.{count, sum_below, total}
use Rattle.std.proofs.lemmas.List.{length_push}

-- a tally with one more of b, and one with one less
module _ (t : Tally) (b : ℕ) (byte : b < 256) where
  abbrev pub more : Tally
  more = record {
    counts = set t.counts b (get_or t.counts b 0 + 1);
    sum = t.sum + 1;
    summed = omega (arith, raised_total t.counts b t.size byte, t.summed);
    size = length-set _ _ _ ∙ t.size;
  }

  abbrev pub less : 0 < get_or t.counts b 0 → Tally
  less some = record {
    counts = set t.counts b (get_or t.counts b 0 - 1);
    sum = t.sum - 1;
    summed = omega (arith, lowered_total t.counts b t.size byte some, t.summed);
    size = length-set _ _ _ ∙ t.size;
  }

-- a line without its first byte
abbrev pub shorter : (r : Ring) → 0 < r.len → Ring
shorter r some = record {
  slots = r.slots;
  head = behind r.head 1;
  len = r.len - 1;
  inside = omega arith;
  few = omega (arith, r.few);
  size = r.size;
}

-- a line with b behind the last
abbrev pub longer : (r : Ring) (b : ℕ) → r.len < 63 → Ring
longer r b room = record {
  slots = set r.slots (behind r.head r.len) b;
  head = r.head;
  len = r.len + 1;
  inside = r.inside;
  few = omega (arith, room);
  size = length-set _ _ _ ∙ r.size;
}

-- what a pipe of this line and these tallies keeps
pub record Sound (r : Ring) (ins outs : Tally) : Type 0 where
  pub few : length (in_line r) + total (λ k. get_or outs.counts k 0) ≤ 63
  pub counted : (k : ℕ) → get_or ins.counts k 0 ≡ count k (in_line r)
  pub all_in : total (λ k. get_or ins.counts k 0) ≡ length (in_line r)

-- a pipe of them
abbrev pub made : (r : Ring) (ins outs : Tally) → Sound r ins outs → Pipe
made r ins outs s = record {
  line = r;
  ins = ins;
  outs = outs;
  few = s.few;
  counted = s.counted;
  all_in = s.all_in;
}

module _ (p : Pipe) (b : ℕ) (byte : b < 256) where
  module _ (some : 0 < p.line.len) (is : get_or p.line.slots p.line.head 0 ≡ b) where
    -- the first in line is b
    pub first : line p ≡ b ∷ in_line (shorter p.line some)
    first = left p.line.slots p.line.head p.line.len some ∙ ap (λ x. x ∷ in_line (shorter p.line some)) is

    -- so it is counted
    pub is_in : 0 < get_or p.ins.counts b 0
    is_in = omega (arith, p.counted b, ap (count b) first, first_counted b (in_line (shorter p.line some)))

    -- the memory without it
    pub given_sound : Sound (shorter p.line some) (less p.ins b byte is_in) (more p.outs b byte)
    given_sound = record {
      few = omega (arith, ap length first, raised_total p.outs.counts b p.outs.size byte, p.few);
      counted = λ k. omega (arith, lowered p.ins.counts b p.ins.size byte is_in k, p.counted k, ap (count k) first, count_first k b (in_line (shorter p.line some)));
      all_in = omega (arith, ap length first, lowered_total p.ins.counts b p.ins.size byte is_in, p.all_in);
    }

  module _ (some : 0 < get_or p.outs.counts b 0) where
    -- there is a place for it
    pub has_room : p.line.len < 63
    has_room = omega (arith, total_point (λ k. get_or p.outs.counts k 0) b byte, length_queue p.line.slots p.line.head p.line.len, p.few)

    -- it comes to the end of the line
    pub last : in_line (longer p.line b has_room) ≡ line p ++ b ∷ []
    last = entered p.line.slots p.line.head p.line.len b p.line.inside has_room p.line.size

    -- the memory with it
    pub back_sound : Sound (longer p.line b has_room) (more p.ins b byte) (less p.outs b byte some)
    back_sound = record {
      few = omega (arith, ap length last, length_push (line p) b, lowered_total p.outs.counts b p.outs.size byte some, p.few);
      counted = λ k. omega (arith, raised p.ins.counts b p.ins.size byte k, p.counted k, ap (count k) last, count_append k (line p) b);
      all_in = omega (arith, ap length last, length_push (line p) b, raised_total p.ins.counts b p.ins.size byte, p.all_in);
    }

-- takes, puts and readings of a pipe
abbrev pub pipe_player : Player pipe_ways
pipe_player = record {
  give = λ b p.
      go_on (at_most? (suc b) 256) λ byte.
      go_on (at_most? 1 p.line.len) λ some.
      go_on (same? (get_or p.line.slots p.line.head 0) b) λ is.
      Some (made _ _ _ (given_sound p b byte some is), (byte, first p b byte some is, raised p.outs.counts b p.outs.size byte));
  back = λ b p.
      go_on (at_most? (suc b) 256) λ byte.
      go_on (at_most? 1 (get_or p.outs.counts b 0)) λ some.
      Some (made _ _ _ (back_sound p b byte some), (byte, last p b byte some, lowered p.outs.counts b p.outs.size byte some));
  hear = λ x p. Some (p, refl);
}

-- `x` and `y` in line, from slot 0 on
abbrev pub line_xy : Ring
line_xy = record { slots = codes "xy" ++ zeros 61; head = 0; len = 2; inside = lit< tt; few = lit≤ tt; size = refl }

-- a tally of none
pub all_none_summed : total (λ k. get_or (zeros 256) k 0) ≡ 0
unfolding sum_below total
all_none_summed = refl

abbrev pub all_none : Tally
all_none = record { counts = zeros 256; sum = 0; summed = all_none_summed; size = refl }

-- one `x` and one `y` are counted
abbrev pub one_each : Tally
one_each = more (more all_none 120 (lit< tt)) 121 (lit< tt)

-- the memory of a pipe of `x` and `y`
pub xy_sound : Sound line_xy one_each all_none
unfolding queue count sum_below total
xy_sound = record {
  few = lit≤ tt;
  counted = λ k. omega (arith, raised (zeros 256) 120 refl (lit< tt) k, raised (set (zeros 256) 120 1) 121 refl (lit< tt) k, all_zero 256 k);
  all_in = refl;
}

-- a pipe of `x` and `y`
abbrev pub pipe_xy : Pipe
pipe_xy = made line_xy one_each all_none xy_sound

-- just those are in, and none is out
pub pipe_xy_in : AllIn (codes "xy") pipe_xy
unfolding queue
pipe_xy_in = (refl, all_zero 256)
