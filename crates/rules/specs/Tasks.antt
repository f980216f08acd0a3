-- Tasks that begin and end, and their registers. Each call has its checks, in the order of their numbers, and what it does;
-- checks look at d, the number of directory cells, and at the tasks.
use Rattle.std.specs.Prelude.{ℕ, Bool, true, false, List, [], ◌∷◌, Some, None, Ok, Err, Option, Result, nat_lt}
use Rattle.rules.specs.declared.Status.{Status}
use Rattle.rules.specs.declared.Refusal.{Refusal}
use Rattle.rules.specs.declared.Refusal.TheVariants.{NoSuchSlot, NoSuchRegister, NoSuchLink, NoSuchDirectoryCell, SlotTaken, RegisterEmpty, PoolNotEmpty}
use Rattle.rules.specs.State.{Task, State, Outcome, accepted, need, by, with_task, with_register, in_slot, has_slot, is_register, of_idle_task}

-- a task as it begins
abbrev pub new_task : Status → Task
new_task q = record { status = q; registers = λ j. None; pool = []; work = None }

abbrev pub vacant : Option Task → Result (Unit {0}) Refusal
vacant None = Ok tt
vacant (Some t) = Err SlotTaken

abbrev pub enter_checks : ℕ → (ℕ → Option Task) → ℕ → Result (Unit {0}) Refusal
enter_checks d tasks p = need (has_slot d p) NoSuchSlot (vacant (tasks p))

abbrev pub enter : ℕ → State → Outcome
enter p s = by s (enter_checks s.directory s.tasks p) (λ _. accepted 0 (with_task s p (Some (new_task s.collector.status))))

abbrev pub is_empty : List ℕ → Bool
is_empty [] = true
is_empty (x ∷ xs) = false

abbrev pub leave_checks : ℕ → (ℕ → Option Task) → ℕ → Result (Unit {0}) Refusal
leave_checks d tasks m = need (has_slot d m) NoSuchSlot (of_idle_task (tasks m) (λ t. need (is_empty t.pool) PoolNotEmpty (Ok tt)))

abbrev pub leave : ℕ → State → Outcome
leave m s = by s (leave_checks s.directory s.tasks m) (λ _. accepted 0 (with_task s m None))

abbrev pub with_held : Option Task → ℕ → Option ℕ → Option Task
with_held o b v = in_slot (λ t. with_register t b v) o

-- register b of task m holds v
abbrev pub holds : State → ℕ → ℕ → Option ℕ → Outcome
holds s m b v = accepted 0 (with_task s m (with_held (s.tasks m) b v))

-- directory cell j, for register b
abbrev pub point_checks : ℕ → (ℕ → Option Task) → ℕ → ℕ → ℕ → Result (Option ℕ) Refusal
point_checks d tasks m j b =
    need (has_slot d m) NoSuchSlot (need (is_register b) NoSuchRegister (need (nat_lt j d) NoSuchDirectoryCell
    (of_idle_task (tasks m) (λ t. Ok (Some j)))))

abbrev pub point : ℕ → ℕ → ℕ → State → Outcome
point m j b s = by s (point_checks s.directory s.tasks m j b) (holds s m b)

-- what register a holds, for register b
abbrev pub move_checks : ℕ → (ℕ → Option Task) → ℕ → ℕ → ℕ → Result (Option ℕ) Refusal
move_checks d tasks m a b =
    need (has_slot d m) NoSuchSlot (need (is_register a) NoSuchRegister (need (is_register b) NoSuchRegister
    (of_idle_task (tasks m) (λ t. Ok (t.registers a)))))

abbrev pub move : ℕ → ℕ → ℕ → State → Outcome
move m a b s = by s (move_checks s.directory s.tasks m a b) (holds s m b)

-- nothing, for register b
abbrev pub clear_checks : ℕ → (ℕ → Option Task) → ℕ → ℕ → Result (Option ℕ) Refusal
clear_checks d tasks m b = need (has_slot d m) NoSuchSlot (need (is_register b) NoSuchRegister (of_idle_task (tasks m) (λ t. Ok None)))

abbrev pub clear : ℕ → ℕ → State → Outcome
clear m b s = by s (clear_checks s.directory s.tasks m b) (holds s m b)

abbrev pub cell_in : Option ℕ → Result ℕ Refusal
cell_in None = Err RegisterEmpty
cell_in (Some x) = Ok x

-- the cell in register a, of which link i, one of L, is for register b
abbrev pub load_checks : ℕ → ℕ → (ℕ → Option Task) → ℕ → ℕ → ℕ → ℕ → Result ℕ Refusal
load_checks d L tasks m a i b =
    need (has_slot d m) NoSuchSlot (need (is_register a) NoSuchRegister (need (is_register b) NoSuchRegister (need (nat_lt i L) NoSuchLink
    (of_idle_task (tasks m) (λ t. cell_in (t.registers a))))))

abbrev pub load : ℕ → ℕ → ℕ → ℕ → State → Outcome
load m a i b s = by s (load_checks s.directory s.links s.tasks m a i b) (λ x. holds s m b (s.cells.link x i))
