use Rattle.std.proofs.Common.{min, sym, ◌∙◌, arith}
use Rattle.bags.specs.Stacks.{stacked_length}
use Rattle.tasks.proofs.pool.Pool.len.Goals as goal

pub returns : goal.returns
returns c = let p = c.args.self in record { value = c.min.ensures ∙ sym (stacked_length p.cells (min p.count 4)); few = omega (arith, c.min.ensures) }
