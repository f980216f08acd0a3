-- What it is for a turn of Mark or Scan to keep to a rule.
use Rattle.std.specs.Prelude.{◌≡◌, ℕ, Option}
use Rattle.std.specs.Borrow.{MutBor}
use Rattle.rules.specs.declared.Collector.{Collector}
use Rattle.cells.specs.declared.CellMemory.{Ghosts as MemoryGhosts}
use Rattle.bags.specs.declared.Bag.{Ghosts as BagGhosts}
use Rattle.bags.specs.Holding.{Hold}
use Rattle.rules.specs.State.{Task, State}
use Rattle.collecting.specs.Gathering.{state_of_parts}
use Rattle.collecting.specs.declared.marking.Marker.{Marker}

-- the marker has what was lent to it
pub record Lent {M C : Type 0} (m : MutBor M) (h : MutBor C) (co : MutBor Collector) (k : Marker M C) : Type 0 where
  pub memory : k.memory.now ≡ m.now
  pub cache : k.cache.now ≡ h.now
  pub collector : k.collector.now ≡ co.now
  pub memory_loan : k.memory.ghost_name ≡ m.ghost_name
  pub cache_loan : k.cache.ghost_name ≡ h.ghost_name
  pub collector_loan : k.collector.ghost_name ≡ co.ghost_name

-- memory, cache and collector are changed by the rule, whatever the other parts are, and they are the ones that were lent
module _ {M C : Type 0} (m : MemoryGhosts M) (c : BagGhosts C) where
  pub record Marks {A : Type 0} (told rule : State → A) (k k' : Marker M C) : Type 0 where
    pub state : (f : Hold) (d : ℕ) (tasks : ℕ → Option Task) → told (state_of_parts (m.means k'.memory.now) m.links f (c.means k'.cache.now) d tasks k'.collector.now) ≡ rule (state_of_parts (m.means k.memory.now) m.links f (c.means k.cache.now) d tasks k.collector.now)
    pub spare : m.spare k'.memory.now ≡ m.spare k.memory.now
    pub cache_spare : c.spare k'.cache.now ≡ c.spare k.cache.now
    pub memory_loan : k'.memory.ghost_name ≡ k.memory.ghost_name
    pub cache_loan : k'.cache.ghost_name ≡ k.cache.ghost_name
    pub collector_loan : k'.collector.ghost_name ≡ k.collector.ghost_name
