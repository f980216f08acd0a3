use Rattle.std.proofs.Common.{get_or, None}
use Rattle.rules.specs.Greying.{greyed_to}
use Rattle.cellwork.specs.Becoming.{CellsBecome}
use Rattle.cellwork.proofs.colours.grey_all.Given as goal

-- what so many registers hold is greyed
abbrev pub invariant-loop-v : goal.invariant-loop-v
invariant-loop-v g l = CellsBecome g.M.CellMemory (λ cells. greyed_to l.v-index cells (λ j. get_or l.initial.v-items j None)) l.initial.memory l.memory
