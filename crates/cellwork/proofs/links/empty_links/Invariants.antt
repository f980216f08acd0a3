use Rattle.cellwork.specs.Becoming.{CellsBecome}
use Rattle.cellwork.specs.Emptied.{emptied_to}
use Rattle.cellwork.proofs.links.empty_links.Given as goal

-- so many links are empty
abbrev pub invariant-loop-i : goal.invariant-loop-i
invariant-loop-i g l = CellsBecome g.M.CellMemory (λ cells. emptied_to cells l.x l.i) l.initial.memory l.memory
