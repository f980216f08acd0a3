-- Colours and statuses compared, and cells greyed.
use Rattle.std.specs.Prelude.{ℕ, zero, suc, Bool, true, false, Some, None, Option}
use Rattle.cells.specs.declared.Colour.{Colour}
use Rattle.cells.specs.declared.Colour.TheVariants.{Blue, White, Grey, Black}
use Rattle.cells.specs.Memory.{Cells, coloured}
use Rattle.rules.specs.declared.Status.{Status}
use Rattle.rules.specs.declared.Status.TheVariants.{Async, Sync1, Sync2}

abbrev pub same_status : Status → Status → Bool
same_status Async Async = true
same_status Async Sync1 = false
same_status Async Sync2 = false
same_status Sync1 Async = false
same_status Sync1 Sync1 = true
same_status Sync1 Sync2 = false
same_status Sync2 Async = false
same_status Sync2 Sync1 = false
same_status Sync2 Sync2 = true

abbrev pub is_black : Colour → Bool
is_black Blue = false
is_black White = false
is_black Grey = false
is_black Black = true

abbrev pub is_grey : Colour → Bool
is_grey Blue = false
is_grey White = false
is_grey Grey = true
is_grey Black = false

-- White becomes Grey, and no other colour changes
abbrev pub greyer : Colour → Colour
greyer Blue = Blue
greyer White = Grey
greyer Grey = Grey
greyer Black = Black

abbrev pub greyed : Cells → ℕ → Cells
greyed m x = coloured m x (greyer (m.colour x))

abbrev pub greyed_if : Cells → Option ℕ → Cells
greyed_if m None = m
greyed_if m (Some x) = greyed m x

-- what the first k registers hold is greyed, in their order
abbrev pub greyed_to : ℕ → Cells → (ℕ → Option ℕ) → Cells
greyed_to zero m registers = m
greyed_to (suc k) m registers = greyed_if (greyed_to k m registers) (registers k)
