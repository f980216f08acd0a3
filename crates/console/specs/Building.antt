-- A cell that is built in one line of a script.
use Rattle.std.specs.Prelude.{ℕ, Option, Result}
use Rattle.rules.specs.declared.Refusal.{Refusal}
use Rattle.rules.specs.declared.Refusal.TheVariants.{NoSuchSlot, NoSuchRegister}
use Rattle.rules.specs.State.{Task, State, Outcome, accepted, need, by, has_slot, is_register, of_idle_task}
use Rattle.rules.specs.Makings.{newest_of, make, fill, finish}
use Rattle.rules.specs.Changes.{carry_on}

-- the cell that is to be made; the checks of all parts come before anything changes
abbrev pub build_checks : ℕ → (ℕ → Option Task) → ℕ → ℕ → ℕ → Result ℕ Refusal
build_checks d tasks m b a =
    need (has_slot d m) NoSuchSlot (need (is_register b) NoSuchRegister (need (is_register a) NoSuchRegister
    (of_idle_task (tasks m) (λ t. newest_of t.pool))))

-- make, one carry on, fill of link 0, finish
abbrev pub built : ℕ → ℕ → ℕ → ℕ → State → State
built m b a x s = (finish m x b (fill m 0 a (carry_on m (make m s).after).after).after).after

abbrev pub build : ℕ → ℕ → ℕ → State → Outcome
build m b a s = by s (build_checks s.directory s.tasks m b a) (λ x. accepted x (built m b a x s))
