use Rattle.tasks.proofs.PoolLaws.{pool_gives, pool_shrinks}
use Rattle.tasks.proofs.pool.Pool.take.Goals as goal

pub returns : goal.returns
returns c =
    let p = c.args.self.now in
    let told = c.len-count.ensures.value in
    let some = c.if-count-eq0.false in
    record { answer = pool_gives p.cells p.count c.len-count.result told some; after = pool_shrinks p.cells p.count c.len-count.result told some }
