-- Where a pile has a member, a take gives the newest, and leaves the row as it was.
use Rattle.std.proofs.Common.{arith}
use Rattle.bags.proofs.Piles.{take_newest, take_from_top}
use Rattle.bags.proofs.pile.PileBag.take.Goals as goal

pub returns-clause-answer : goal.returns-clause-answer
returns-clause-answer c = let s = c.args.self.now in take_newest s.row.now s.len _ c.count.ensures.exact _ (grind arith)

pub returns-clause-after : goal.returns-clause-after
returns-clause-after c = let s = c.args.self.now in take_from_top s.row.now s.len _ c.count.ensures.exact _ (grind arith)
