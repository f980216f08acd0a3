use Rattle.rules.specs.Pools.{reserving}
use Rattle.turns.specs.Parts.{FreeBecomes}
use Rattle.turns.proofs.parts.Control.reserve.Given as goal

-- so many cells went to the pool
abbrev pub invariant-loop-k : goal.invariant-loop-k
invariant-loop-k g l = FreeBecomes g.F.Bag (λ s. reserving s l.m l._k) l.initial.free l.free l.initial.self l.self
