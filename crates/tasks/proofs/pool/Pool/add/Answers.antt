use Rattle.std.proofs.Common.{arith}
use Rattle.bags.proofs.Piles.{stacked_set_next}
use Rattle.tasks.proofs.PoolLaws.{pool_grows}
use Rattle.tasks.proofs.pool.Pool.add.Goals as goal

pub returns-then-count-lt4 : goal.returns-then-count-lt4
returns-then-count-lt4 c =
    let p = c.args.self.now in
    pool_grows p.cells p.count c.len-count.result c.len-count.ensures.value _ c.args.x c.if-count-lt4.true (stacked_set_next p.cells c.len-count.result c.args.x (omega arith))
