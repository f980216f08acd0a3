-- Some numbers are read, and the rest of the line has the others.
use Rattle.script.specs.Places.{rest}
use Rattle.script.proofs.Numbers.{ReadSoFar}
use Rattle.script.proofs.reader.Reader.numbers.Given as goal

abbrev pub invariant-loop-number : goal.invariant-loop-number
invariant-loop-number l = ReadSoFar l.count l.number-index (rest l.initial.self) (rest l.self) l.number-items
