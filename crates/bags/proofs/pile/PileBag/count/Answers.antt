-- A pile's count is the number of its members.
use Rattle.std.proofs.Common.{arith}
use Rattle.bags.specs.Stacks.{pile_count, stacked_length}
use Rattle.bags.proofs.pile.PileBag.count.Goals as goal

pub returns-clause-members : goal.returns-clause-members
returns-clause-members c = let s = c.args.self.now in omega (arith, stacked_length s.row.now (pile_count s.row.now s.len))
