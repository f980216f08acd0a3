-- The parts that a turn of the collector is made on, gathered into the state that the rules speak of; and what it is for a
-- function on some of the parts to keep to a rule: it does so whatever the other parts are.
use Rattle.std.specs.Borrow.{MutBor}
use Rattle.std.specs.Prelude.{◌≡◌, ℕ, ◌+◌, false, cond, [], None, Option, nat_lt, Some}
use Rattle.cells.specs.declared.CellMemory.{Ghosts as MemoryGhosts}
use Rattle.cells.specs.declared.Colour.TheVariants.{White}
use Rattle.cells.specs.Memory.{Cells}
use Rattle.bags.specs.declared.Bag.{Ghosts as BagGhosts}
use Rattle.bags.specs.Holding.{Hold}
use Rattle.rules.specs.declared.Collector.{Collector}
use Rattle.rules.specs.State.{Task, State, Outcome}
use Rattle.rules.specs.Collecting.{looking, scan_from, sweep_from, waits, works}

abbrev pub state_of_parts : Cells → ℕ → Hold → Hold → ℕ → (ℕ → Option Task) → Collector → State
state_of_parts x l f h d tasks k = record { cells = x; links = l; free = f; cache = h; directory = d; tasks = tasks; collector = k }

module _ {M F C : Type 0} (m : MemoryGhosts M) (f : BagGhosts F) (c : BagGhosts C) where
  abbrev pub gathered : M → F → C → ℕ → (ℕ → Option Task) → Collector → State
  gathered memory free cache d tasks k = state_of_parts (m.means memory) m.links (f.means free) (c.means cache) d tasks k

-- r' is the loan that r was, and what of it no cell and no member uses is as it was
pub record Kept {A S : Type 0} (unused : A → S) (r r' : MutBor A) : Type 0 where
  pub loan : r'.ghost_name ≡ r.ghost_name
  pub spare : unused r'.now ≡ unused r.now

-- a bag without room
abbrev nothing : Hold
nothing = record { members = []; room = 0; manner = record { choice = λ _. 0; added = λ xs _. xs; rest = λ xs. xs } }

-- what a rule that changes the collector alone makes of it, with nothing around it
abbrev pub alone : (State → State) → Collector → Collector
alone rule k = (rule (state_of_parts (record { size = 0; colour = λ _. White; link = λ _ _. None }) 0 nothing nothing 0 (λ _. None) k)).collector

-- Below, `told` is what a function tells of the state after it, the state alone or also an answer, and the rule makes that of the
-- state before it.

-- memory, free list and collector are changed by the rule, whatever the other parts are
module _ {M F : Type 0} (m : MemoryGhosts M) (f : BagGhosts F) where
  pub record Sweeps {A : Type 0} (told rule : State → A) (memory memory' : MutBor M) (free free' : MutBor F) (k k' : MutBor Collector) : Type 0 where
    pub state : (h : Hold) (d : ℕ) (tasks : ℕ → Option Task) → told (state_of_parts (m.means memory'.now) m.links (f.means free'.now) h d tasks k'.now) ≡ rule (state_of_parts (m.means memory.now) m.links (f.means free.now) h d tasks k.now)
    pub spare : m.spare memory'.now ≡ m.spare memory.now
    pub free_spare : f.spare free'.now ≡ f.spare free.now

-- Scan, where there is nothing to trace
abbrev pub scan_on : State → Option ℕ → Outcome
scan_on s None = waits s
scan_on s (Some k) =
    cond (nat_lt k s.cells.size)
    (cond s.collector.looked (works (scan_from s s.collector.dirty (k + 1))) (works (looking s k)))
    (cond s.collector.dirty (works (scan_from s false 0)) (works (sweep_from s)))
