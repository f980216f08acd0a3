-- Changes of a link, and the turns that carry a change or a making on.
use Rattle.std.specs.Prelude.{ℕ, Bool, true, false, cond, ◌||◌, Some, None, Ok, Err, Option, Result, ◌==◌, nat_le, nat_lt}
use Rattle.cells.specs.declared.Colour.{Colour}
use Rattle.cells.specs.declared.Colour.TheVariants.{White, Grey as GreyColour, Black}
use Rattle.cells.specs.Memory.{Cells, coloured, linked}
use Rattle.rules.specs.declared.Status.{Status}
use Rattle.rules.specs.declared.Status.TheVariants.{Async, Sync1, Sync2}
use Rattle.rules.specs.declared.Swept.{Swept}
use Rattle.rules.specs.declared.Swept.TheVariants.{Before, At, Past}
use Rattle.rules.specs.declared.Step.{Step}
use Rattle.rules.specs.declared.Step.TheVariants.{Grey, Warn, Store}
use Rattle.rules.specs.declared.Work.{Work}
use Rattle.rules.specs.declared.Work.TheVariants.{Change, Making}
use Rattle.rules.specs.declared.Collector.{Collector}
use Rattle.rules.specs.declared.Refusal.{Refusal}
use Rattle.rules.specs.declared.Refusal.TheVariants.{NoSuchSlot, NoSuchRegister, NoSuchLink, NoTask, RegisterEmpty, NothingToCarryOn}
use Rattle.rules.specs.State.{Task, State, Outcome, accepted, need, by, with_cells, with_collector, with_task, with_work, in_slot, has_slot, is_register, of_idle_task}
use Rattle.rules.specs.Greying.{is_black, greyed_if}

-- the cell whose link i, one of L, is to change, and its new value
abbrev pub changed_cell : Option ℕ → Option ℕ → Result (ℕ × Option ℕ) Refusal
changed_cell None y = Err RegisterEmpty
changed_cell (Some x) y = Ok (x, y)

abbrev pub change_checks : ℕ → ℕ → (ℕ → Option Task) → ℕ → ℕ → ℕ → ℕ → Result (ℕ × Option ℕ) Refusal
change_checks d L tasks m a i b =
    need (has_slot d m) NoSuchSlot (need (is_register a) NoSuchRegister (need (is_register b) NoSuchRegister (need (nat_lt i L) NoSuchLink
    (of_idle_task (tasks m) (λ t. changed_cell (t.registers a) (t.registers b))))))

-- what a task at Async owes for the old value, while the sweep has not begun
abbrev pub unswept_step : Cells → Swept → ℕ → Step
unswept_step m Before old = cond (is_black (m.colour old)) Store (Warn old)
unswept_step m (At k) old = Store
unswept_step m Past old = Store

abbrev pub async_step : Cells → Swept → Option ℕ → Step
async_step m swept None = Store
async_step m swept (Some old) = unswept_step m swept old

-- the first step that a change leaves to a carry on
abbrev pub first_step : Status → Cells → Swept → Option ℕ → Step
first_step Async m swept old = async_step m swept old
first_step Sync1 m swept old = Grey
first_step Sync2 m swept old = Grey

-- the old value is greyed at once, unless only the store is left
abbrev pub greyed_old : Step → Cells → Option ℕ → Cells
greyed_old Grey m old = greyed_if m old
greyed_old (Warn o) m old = greyed_if m old
greyed_old Store m old = m

abbrev pub status_in : Option Task → Status
status_in None = Async
status_in (Some t) = t.status

abbrev pub changing : State → ℕ → ℕ → ℕ → Option ℕ → Step → State
changing s m x i y step =
    with_cells (with_task s m (in_slot (λ t. with_work t (Some (Change x i y step))) (s.tasks m))) (greyed_old step s.cells (s.cells.link x i))

abbrev pub change : ℕ → ℕ → ℕ → ℕ → State → Outcome
change m a i b s =
    by s (change_checks s.directory s.links s.tasks m a i b) (λ f.
    accepted 0 (changing s m f.0 i f.1 (first_step (status_in (s.tasks m)) s.cells s.collector.swept (s.cells.link f.0 i))))

-- the colour of a settled cell x, for a task of that status and a sweep that is so far
abbrev pub behind_sweep : Swept → ℕ → Colour
behind_sweep Before x = Black
behind_sweep (At k) x = cond (nat_lt x k) White (cond (x == k) GreyColour Black)
behind_sweep Past x = White

abbrev pub settled_colour : Status → Swept → ℕ → Colour
settled_colour Async swept x = behind_sweep swept x
settled_colour Sync1 swept x = White
settled_colour Sync2 swept x = White

-- dirty after the warning about old: yes, if the scan may have passed it
abbrev pub warned : ℕ → Option ℕ → Bool → Bool
warned old None dirty = dirty
warned old (Some k) dirty = nat_le old k || dirty

abbrev pub with_dirty : Collector → Bool → Collector
with_dirty c x = record { status = c.status; phase = c.phase; swept = c.swept; scanned = c.scanned; dirty = x; stage = c.stage; next = c.next; looked = c.looked; hand = c.hand }

abbrev pub owed_work : Option Work → Result Work Refusal
owed_work None = Err NothingToCarryOn
owed_work (Some (Change x i y step)) = Ok (Change x i y step)
owed_work (Some (Making x true)) = Err NothingToCarryOn
owed_work (Some (Making x false)) = Ok (Making x false)

abbrev pub owed : Option Task → Result Work Refusal
owed None = Err NoTask
owed (Some t) = owed_work t.work

-- the work that is to be carried on
abbrev pub carry_on_checks : ℕ → (ℕ → Option Task) → ℕ → Result Work Refusal
carry_on_checks d tasks m = need (has_slot d m) NoSuchSlot (owed (tasks m))

abbrev pub with_work_in : State → ℕ → Option Work → State
with_work_in s m x = with_task s m (in_slot (λ t. with_work t x) (s.tasks m))

abbrev pub stepping : State → ℕ → ℕ → ℕ → Option ℕ → Step → Outcome
stepping s m x i y Grey = accepted 1 (with_cells (with_work_in s m (Some (Change x i y Store))) (greyed_if s.cells y))
stepping s m x i y (Warn old) =
    accepted 1 (with_collector (with_work_in s m (Some (Change x i y Store))) (with_dirty s.collector (warned old s.collector.scanned s.collector.dirty)))
stepping s m x i y Store = accepted 0 (with_cells (with_work_in s m None) (linked s.links s.cells x i y))

abbrev pub carrying : State → ℕ → Work → Outcome
carrying s m (Change x i y step) = stepping s m x i y step
carrying s m (Making x settled) =
    accepted 0 (with_cells (with_work_in s m (Some (Making x true))) (coloured s.cells x (settled_colour (status_in (s.tasks m)) s.collector.swept x)))

abbrev pub carry_on : ℕ → State → Outcome
carry_on m s = by s (carry_on_checks s.directory s.tasks m) (carrying s m)
