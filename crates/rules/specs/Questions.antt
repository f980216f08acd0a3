-- What the questions about a task tell; none of them changes anything.
use Rattle.std.specs.Prelude.{ℕ, cond, length, Some, None, Ok, Err, Option, Result}
use Rattle.rules.specs.declared.Status.{Status}
use Rattle.rules.specs.declared.Refusal.{Refusal}
use Rattle.rules.specs.declared.Refusal.TheVariants.{NoSuchSlot, NoSuchRegister, NoTask}
use Rattle.rules.specs.State.{Task, has_slot, is_register}

-- of a present task
abbrev pub tells : {A : Type 0} → (Task → A) → Option Task → Result A Refusal
tells tell None = Err NoTask
tells tell (Some t) = Ok (tell t)

abbrev pub status_told : ℕ → (ℕ → Option Task) → ℕ → Result Status Refusal
status_told d tasks m = cond (has_slot d m) (tells (λ t. t.status) (tasks m)) (Err NoSuchSlot)

abbrev pub pool_told : ℕ → (ℕ → Option Task) → ℕ → Result ℕ Refusal
pool_told d tasks m = cond (has_slot d m) (tells (λ t. length t.pool) (tasks m)) (Err NoSuchSlot)

abbrev pub register_told : ℕ → (ℕ → Option Task) → ℕ → ℕ → Result (Option ℕ) Refusal
register_told d tasks m j = cond (has_slot d m) (cond (is_register j) (tells (λ t. t.registers j) (tasks m)) (Err NoSuchRegister)) (Err NoSuchSlot)
