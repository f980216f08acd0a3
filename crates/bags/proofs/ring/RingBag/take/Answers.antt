-- Where a ring has a member, a take gives the oldest, and leaves the others.
use Rattle.std.proofs.Common.{arith}
use Rattle.bags.proofs.Rings.{take_oldest, take_from_start}
use Rattle.bags.proofs.ring.RingBag.take.Goals as goal

pub returns-clause-answer : goal.returns-clause-answer
returns-clause-answer c = let s = c.args.self.now in take_oldest s.slots s.first s.len s.start c.in_ok-self.field-0 (grind arith)

pub returns-clause-after : goal.returns-clause-after
returns-clause-after c = let s = c.args.self.now in take_from_start s.slots s.first s.len s.start _ (grind arith)
