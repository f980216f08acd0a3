-- The state of a symbol memory, and what a call answers and leaves.
use Rattle.std.specs.Prelude.{ℕ, Bool, true, false, cond, List, ◌∷◌, length, Some, None, Ok, Err, Option, Result, ◌==◌, nat_lt}
use Rattle.cells.specs.Memory.{Cells, at}
use Rattle.bags.specs.Holding.{Hold}
use Rattle.rules.specs.declared.Status.{Status}
use Rattle.rules.specs.declared.Collector.{Collector}
use Rattle.rules.specs.declared.Work.{Work}
use Rattle.rules.specs.declared.Refusal.{Refusal}
use Rattle.rules.specs.declared.Refusal.TheVariants.{NoTask, WorkUnfinished}

pub record Task : Type 0 where
  pub status : Status
  pub registers : ℕ → Option ℕ
  -- the last added first
  pub pool : List ℕ
  pub work : Option Work

pub record State : Type 0 where
  pub cells : Cells
  -- how many links a cell has
  pub links : ℕ
  pub free : Hold
  pub cache : Hold
  -- how many directory cells there are; none before the set up
  pub directory : ℕ
  pub tasks : ℕ → Option Task
  pub collector : Collector

-- what a call answers and leaves
pub record Outcome : Type 0 where
  pub answer : Result ℕ Refusal
  pub after : State

abbrev pub accepted : ℕ → State → Outcome
accepted k s = record { answer = Ok k; after = s }

abbrev pub refused : Refusal → State → Outcome
refused e s = record { answer = Err e; after = s }

-- a check: where the test fails the call is refused
abbrev pub need : {A : Type 0} → Bool → Refusal → Result A Refusal → Result A Refusal
need passed e next = cond passed next (Err e)

-- a call by its checks: refused, and nothing changed, or done with what the checks found
abbrev pub by : {A : Type 0} → State → Result A Refusal → (A → Outcome) → Outcome
by s (Ok x) done = done x
by s (Err e) done = refused e s

abbrev pub with_task : State → ℕ → Option Task → State
with_task s m t = record { cells = s.cells; links = s.links; free = s.free; cache = s.cache; directory = s.directory; tasks = at m t s.tasks; collector = s.collector }

abbrev pub with_cells : State → Cells → State
with_cells s x = record { cells = x; links = s.links; free = s.free; cache = s.cache; directory = s.directory; tasks = s.tasks; collector = s.collector }

abbrev pub with_free : State → Hold → State
with_free s h = record { cells = s.cells; links = s.links; free = h; cache = s.cache; directory = s.directory; tasks = s.tasks; collector = s.collector }

abbrev pub with_cache : State → Hold → State
with_cache s h = record { cells = s.cells; links = s.links; free = s.free; cache = h; directory = s.directory; tasks = s.tasks; collector = s.collector }

abbrev pub with_collector : State → Collector → State
with_collector s c = record { cells = s.cells; links = s.links; free = s.free; cache = s.cache; directory = s.directory; tasks = s.tasks; collector = c }

abbrev pub with_register : Task → ℕ → Option ℕ → Task
with_register t b v = record { status = t.status; registers = at b v t.registers; pool = t.pool; work = t.work }

abbrev pub with_pool : Task → List ℕ → Task
with_pool t xs = record { status = t.status; registers = t.registers; pool = xs; work = t.work }

abbrev pub with_work : Task → Option Work → Task
with_work t x = record { status = t.status; registers = t.registers; pool = t.pool; work = x }

abbrev pub with_status : Task → Status → Task
with_status t q = record { status = q; registers = t.registers; pool = t.pool; work = t.work }

-- a pool with one cell more, where it has a place
abbrev pub grown : List ℕ → ℕ → List ℕ
grown pool x = cond (nat_lt (length pool) 4) (x ∷ pool) pool

-- a slot's task, if there is one, changed
abbrev pub in_slot : (Task → Task) → Option Task → Option Task
in_slot change None = None
in_slot change (Some t) = Some (change t)

-- beside d directory cells there are eight slots; before the set up, when d is 0, there is none
abbrev pub has_slot : ℕ → ℕ → Bool
has_slot d m = cond (d == 0) false (nat_lt m 8)

abbrev pub is_register : ℕ → Bool
is_register a = nat_lt a 8

abbrev pub is_idle : Option Work → Bool
is_idle None = true
is_idle (Some w) = false

-- 11 and 13: a task, and no unfinished work of it; what is looked for in that task
abbrev pub of_idle_task : {A : Type 0} → Option Task → (Task → Result A Refusal) → Result A Refusal
of_idle_task None next = Err NoTask
of_idle_task (Some t) next = need (is_idle t.work) WorkUnfinished (next t)
