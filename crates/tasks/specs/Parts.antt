-- What the records of the tasks stand for, and what is made of them.
use Rattle.std.specs.Prelude.{ℕ, Bool, Some, None, Ok, Err, Option, Result, slice_index_or}
use Rattle.std.specs.Borrow.{Bor}
use Rattle.rules.specs.declared.Refusal.{Refusal}
use Rattle.rules.specs.declared.Status.{Status}
use Rattle.rules.specs.declared.Work.{Work}
use Rattle.rules.specs.State.{Task, grown, in_slot, with_pool, with_register, with_status, with_work}
use Rattle.rules.specs.Makings.{of_making, older_of}
use Rattle.tasks.specs.Pools.{newest, pool_of}
use Rattle.tasks.specs.declared.task.Task.{Task as TaskPart}
use Rattle.tasks.specs.declared.slots.Tasks.{Tasks}

abbrev pub task_of : TaskPart → Task
task_of t = record { status = t.status; registers = λ j. slice_index_or t.registers j None; pool = pool_of t.pool; work = t.work }

abbrev pub slot_of : Option TaskPart → Option Task
slot_of None = None
slot_of (Some t) = Some (task_of t)

abbrev pub tasks_of : Tasks → ℕ → Option Task
tasks_of ts m = slot_of (slice_index_or ts.slots m None)

-- the record that was lent, if any
abbrev pub lent_slot : Option (Bor TaskPart) → Option TaskPart
lent_slot None = None
lent_slot (Some t) = Some t.now

-- the task that was lent, if any
abbrev pub borrowed_slot : Option (Bor TaskPart) → Option Task
borrowed_slot None = None
borrowed_slot (Some t) = Some (task_of t.now)

abbrev pub found : Result (Bor TaskPart) Refusal → Result Task Refusal
found (Ok t) = Ok (task_of t.now)
found (Err e) = Err e

-- a task that is making a cell, the cell, and whether it is settled
abbrev pub making_found : Result (Bor TaskPart × ℕ × Bool) Refusal → Result (Task × ℕ × Bool) Refusal
making_found (Ok f) = Ok (task_of f.0.now, f.1, f.2)
making_found (Err e) = Err e

abbrev pub making_of : Option Task → Result (Task × ℕ × Bool) Refusal
making_of o = of_making o (λ t x settled. Ok (t, x, settled))

abbrev pub with_grown : Option Task → ℕ → Option Task
with_grown o x = in_slot (λ t. with_pool t (grown t.pool x)) o

abbrev pub newest_in : Option Task → Option ℕ
newest_in None = None
newest_in (Some t) = newest t.pool

abbrev pub with_older : Option Task → Option Task
with_older o = in_slot (λ t. with_pool t (older_of t.pool)) o

abbrev pub with_work_of : Option Task → Option Work → Option Task
with_work_of o w = in_slot (λ t. with_work t w) o

abbrev pub with_status_of : Option Task → Status → Option Task
with_status_of o q = in_slot (λ t. with_status t q) o

-- the making of cell x is over, and register b holds it
abbrev pub with_finished : Option Task → ℕ → ℕ → Option Task
with_finished o x b = in_slot (λ t. with_work (with_register t b (Some x)) None) o

-- the making of cell x is over, and the pool has it again
abbrev pub with_scrapped : Option Task → ℕ → Option Task
with_scrapped o x = in_slot (λ t. with_work (with_pool t (grown t.pool x)) None) o
