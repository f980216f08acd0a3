use Rattle.turns.specs.Parts.{FreeBecomes}
use Rattle.turns.proofs.Returning.{returned}
use Rattle.turns.proofs.parts.Control.give_back.Given as goal

-- so many cells went back to the free list
abbrev pub invariant-loop-k : goal.invariant-loop-k
invariant-loop-k g l = FreeBecomes g.F.Bag (λ s. returned s l.m l._k) l.initial.free l.free l.initial.self l.self
