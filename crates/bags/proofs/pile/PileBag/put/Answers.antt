-- Where the row has a place left, a put is accepted, and writes that place alone.
use Rattle.std.proofs.Common.{arith}
use Rattle.bags.proofs.Piles.{put_accepted, put_on_top, put_written}
use Rattle.bags.proofs.pile.PileBag.put.Goals as goal

pub returns-clause-answer : goal.returns-clause-answer
returns-clause-answer c = let s = c.args.self.now in put_accepted s.row.now s.len _ c.count-n.ensures.exact (omega arith)

pub returns-clause-after : goal.returns-clause-after
returns-clause-after c = let s = c.args.self.now in put_on_top s.row.now s.len _ c.count-n.ensures.exact (omega arith) c.args.x

pub returns-clause-exact : goal.returns-clause-exact
returns-clause-exact c = let s = c.args.self.now in put_written s.row.now s.len _ c.count-n.ensures.exact (omega arith) c.args.x
