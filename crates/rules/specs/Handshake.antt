-- Tasks that begin as another left off, and tasks that reply to the collector.
use Rattle.std.specs.Prelude.{ℕ, ◌/◌, ◌%◌, ◌^◌, Bool, cond, Some, None, Ok, Err, Option, Result, ◌==◌, count_ones}
use Rattle.rules.specs.declared.Status.{Status}
use Rattle.rules.specs.declared.Status.TheVariants.{Sync2}
use Rattle.rules.specs.declared.Refusal.{Refusal}
use Rattle.rules.specs.declared.Refusal.TheVariants.{NoSuchSlot, NoTask, SlotTaken, WorkUnfinished, StatusBehind}
use Rattle.rules.specs.State.{Task, State, Outcome, accepted, need, by, with_cells, with_task, with_status, in_slot, has_slot, is_idle, of_idle_task}
use Rattle.rules.specs.Tasks.{new_task}
use Rattle.rules.specs.Greying.{same_status, greyed_to}

abbrev pub bit : ℕ → ℕ → Bool
bit mask j = (mask / 2 ^ j) % 2 == 1

abbrev pub taken : {A : Type 0} → Option Task → Result A Refusal → Result A Refusal
taken None next = next
taken (Some t) next = Err SlotTaken

abbrev pub launch_from : Status → Option Task → Option Task → Result (Unit {0}) Refusal
launch_from asked None new = Err NoTask
launch_from asked (Some t) new = taken new (need (is_idle t.work) WorkUnfinished (need (same_status t.status asked) StatusBehind (Ok tt)))

abbrev pub launch_checks : ℕ → Status → (ℕ → Option Task) → ℕ → ℕ → Result (Unit {0}) Refusal
launch_checks d asked tasks m p = need (has_slot d m) NoSuchSlot (need (has_slot d p) NoSuchSlot (launch_from asked (tasks m) (tasks p)))

-- the registers whose bit of the mask is one
abbrev pub chosen : ℕ → Option Task → ℕ → Option ℕ
chosen mask None j = None
chosen mask (Some t) j = cond (bit mask j) (t.registers j) None

abbrev pub launched : Status → ℕ → Option Task → Task
launched q mask parent = record { status = q; registers = chosen mask parent; pool = (new_task q).pool; work = None }

abbrev pub launch : ℕ → ℕ → ℕ → State → Outcome
launch m p mask s =
    by s (launch_checks s.directory s.collector.status s.tasks m p) (λ _.
    accepted (count_ones mask) (with_task s p (Some (launched s.collector.status mask (s.tasks m)))))

-- the status of the task
abbrev pub cooperate_checks : ℕ → (ℕ → Option Task) → ℕ → Result Status Refusal
cooperate_checks d tasks m = need (has_slot d m) NoSuchSlot (of_idle_task (tasks m) (λ t. Ok t.status))

abbrev pub registers_in : Option Task → ℕ → Option ℕ
registers_in None j = None
registers_in (Some t) j = t.registers j

-- a reply: at Sync2 what the eight registers hold is greyed, and the status becomes the one that is asked for
abbrev pub replying : State → ℕ → Status → State
replying s m q =
    with_cells (with_task s m (in_slot (λ t. with_status t s.collector.status) (s.tasks m)))
    (cond (same_status q Sync2) (greyed_to 8 s.cells (registers_in (s.tasks m))) s.cells)

abbrev pub cooperate : ℕ → State → Outcome
cooperate m s =
    by s (cooperate_checks s.directory s.tasks m) (λ q. cond (same_status q s.collector.status) (accepted 0 s) (accepted 1 (replying s m q)))
