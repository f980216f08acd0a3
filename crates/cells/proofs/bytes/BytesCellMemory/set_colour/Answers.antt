-- The write is the one that was asked for; what it makes of the table follows from that.
use Rattle.std.proofs.Common.{ap, arith, rules}
use Rattle.cells.proofs.StretchLaws.{coloured_after, spare_after_set}
use Rattle.cells.proofs.bytes.BytesCellMemory.set_colour.Goals as goal

pub returns-clause-after : goal.returns-clause-after
returns-clause-after c = coloured_after c.args.self.now.bytes.now _ c.args.cell c.args.colour (search rules)

pub returns-clause-rest : goal.returns-clause-rest
returns-clause-rest c = let bytes = c.args.self.now.bytes in ap (λ spare. (spare, bytes.ghost_name)) (spare_after_set bytes.now _ _ (grind arith))
