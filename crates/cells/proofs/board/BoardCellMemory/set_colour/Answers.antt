-- The write is the one that was asked for; what it makes of the table follows from that.
use Rattle.std.proofs.Common.{ap, arith, rules}
use Rattle.std.proofs.lemmas.List.{drop-set-lt}
use Rattle.cells.proofs.RowLaws.{coloured_after}
use Rattle.cells.proofs.board.BoardCellMemory.set_colour.Goals as goal

pub returns-clause-after : goal.returns-clause-after
returns-clause-after c = coloured_after c.args.self.now.rows.now _ c.args.cell c.args.colour (search rules)

pub returns-clause-rest : goal.returns-clause-rest
returns-clause-rest c = let rows = c.args.self.now.rows in ap (λ spare. (spare, rows.ghost_name)) (drop-set-lt 4097 rows.now _ _ (grind arith))
