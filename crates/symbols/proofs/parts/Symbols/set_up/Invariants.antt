use Rattle.symbols.specs.Laying.{laid_to}
use Rattle.symbols.specs.Views.{state_of, Becomes}
use Rattle.symbols.proofs.parts.Symbols.set_up.Given as goal

-- the cells below x are laid out
abbrev pub invariant-loop-x : goal.invariant-loop-x
invariant-loop-x g l =
    let s = state_of g.M.CellMemory g.F.Bag g.C.Bag l.initial.self in
    Becomes g.M.CellMemory g.F.Bag g.C.Bag (laid_to s l.d l.x) l.initial.self l.self
