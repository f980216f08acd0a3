-- Where a ring has a slot left, a put is accepted, and adds the number as its newest.
use Rattle.std.proofs.Common.{arith}
use Rattle.bags.proofs.Rings.{put_accepted, put_at_end}
use Rattle.bags.proofs.ring.RingBag.put.Goals as goal

pub returns-clause-answer : goal.returns-clause-answer
returns-clause-answer c = let s = c.args.self.now in put_accepted s.slots s.first s.len (omega arith)

pub returns-clause-after : goal.returns-clause-after
returns-clause-after c = let s = c.args.self.now in put_at_end s.slots s.first s.len (omega arith) c.args.x s.whole
