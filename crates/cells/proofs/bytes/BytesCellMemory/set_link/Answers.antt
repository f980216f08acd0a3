-- The write is the one that was asked for; what it makes of the table follows from that.
use Rattle.std.proofs.Common.{ap, rules}
use Rattle.cells.proofs.StretchLaws.{linked_after, linked_rest}
use Rattle.cells.proofs.bytes.BytesCellMemory.set_link.Goals as goal

pub returns-clause-after : goal.returns-clause-after
returns-clause-after c = linked_after c.args.self.now.bytes.now _ c.args.cell c.args.i c.args.value (search rules)

pub returns-clause-rest : goal.returns-clause-rest
returns-clause-rest c = let bytes = c.args.self.now.bytes in ap (λ spare. (spare, bytes.ghost_name)) (linked_rest bytes.now c.put_word.new.bytes c.args.cell c.args.i c.args.value (search rules))
