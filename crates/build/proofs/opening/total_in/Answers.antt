use Rattle.std.proofs.Common.{◌≡◌, ◌+◌, sym, ◌∙◌, arith}
use Rattle.pool.specs.Meaning.{sum_below}
use Rattle.build.proofs.Fresh.{below_none, below_more, below_total, all_below}
use Rattle.build.proofs.opening.total_in.Goals as goal

pub loop-byte-init : goal.loop-byte-init
loop-byte-init g c = sym (below_none _)

pub overflow_add-tokens : goal.overflow_add-tokens
overflow_add-tokens g c =
    let ins = (g.P.Lender.ways.means c.args.pool.now).ins in
    omega (arith, below_more ins c.loop-byte.byte, below_total ins (c.loop-byte.byte + 1) (omega arith), (g.met.P.Lender.bounded c.args.pool.now).few)

pub loop-byte-preserved : goal.loop-byte-preserved
loop-byte-preserved g c =
    let ins = (g.P.Lender.ways.means c.args.pool.now).ins in
    omega (arith, below_more ins c.loop-byte.byte)

pub returns : goal.returns
returns g c = c.loop-byte.invariant ∙ all_below _ _ (omega arith)

pub returns-2 : goal.returns-2
returns-2 g c =
    let ins = (g.P.Lender.ways.means c.args.pool.now).ins in
    let last = below_more ins c.loop-byte.byte in
    let so_far : c.loop-byte.tokens + c.count_in-tokens.result ≡ sum_below ins (c.loop-byte.byte + 1) = omega (arith, c.loop-byte.invariant, c.count_in-tokens.ensures) in
    so_far ∙ all_below _ _ (omega arith)
