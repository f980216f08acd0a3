-- The number that a turn of the collector answers.
use Rattle.std.specs.Prelude.{ℕ}
use Rattle.rules.specs.declared.Turn.{Turn}
use Rattle.rules.specs.declared.Turn.TheVariants.{Waited, Worked, Returned}

abbrev pub turn_number : Turn → ℕ
turn_number Waited = 0
turn_number Worked = 1
turn_number Returned = 2
