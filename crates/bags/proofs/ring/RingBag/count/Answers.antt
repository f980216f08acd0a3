-- A ring's count is the number of its members.
use Rattle.std.proofs.Common.{arith}
use Rattle.bags.specs.Rounds.{round_length}
use Rattle.bags.proofs.ring.RingBag.count.Goals as goal

pub returns : goal.returns
returns c = let s = c.args.self.now in omega (arith, round_length s.slots s.first s.len)
