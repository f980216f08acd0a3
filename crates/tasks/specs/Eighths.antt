-- Numbers below eight.
use Rattle.std.specs.Prelude.{ℕ, cond, Some, None, Option, nat_lt}

-- the number, where there is a slot or register of that number
abbrev pub below_eight : ℕ → Option ℕ
below_eight k = cond (nat_lt k 8) (Some k) None
