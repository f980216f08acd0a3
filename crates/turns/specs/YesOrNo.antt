-- Answers that say yes or no, as the numbers of the rules.
use Rattle.std.specs.Prelude.{ℕ, Bool, cond, Ok, Err, Result}
use Rattle.rules.specs.declared.Refusal.{Refusal}

abbrev pub one_if : Bool → Result ℕ Refusal
one_if b = Ok (cond b 1 0)

abbrev pub yes_or_no : Result Bool Refusal → Result ℕ Refusal
yes_or_no (Ok b) = one_if b
yes_or_no (Err e) = Err e
