-- Registers by the bits of a mask.
use Rattle.std.specs.Prelude.{ℕ, cond, None, Option}
use Rattle.rules.specs.Handshake.{bit}

-- the registers whose bit of the mask is one
abbrev pub choice : ℕ → (ℕ → Option ℕ) → ℕ → Option ℕ
choice mask registers j = cond (bit mask j) (registers j) None
