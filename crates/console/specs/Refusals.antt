-- The number of whatever refused a line.
use Rattle.std.specs.Prelude.{ℕ}
use Rattle.cells.specs.Codes.{memory_refusal_number}
use Rattle.rules.specs.Refusals.{refusal_number}
use Rattle.script.specs.Lines.{refusal_number as line_refusal_number}
use Rattle.console.specs.declared.refused.Refused.{Refused}
use Rattle.console.specs.declared.refused.Refused.TheVariants.{Line, Call, Cell}

abbrev pub number_of : Refused → ℕ
number_of (Line e) = line_refusal_number e
number_of (Call e) = refusal_number e
number_of (Cell e) = memory_refusal_number e
