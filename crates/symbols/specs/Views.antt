-- The state of a symbol memory over any cell memory and any two bags, and what it is for a call to keep to a rule.
use Rattle.std.specs.Prelude.{◌≡◌, ℕ, Result}
use Rattle.cells.specs.declared.CellMemory.{Ghosts as MemoryGhosts}
use Rattle.bags.specs.declared.Bag.{Ghosts as BagGhosts}
use Rattle.rules.specs.declared.Refusal.{Refusal}
use Rattle.rules.specs.State.{State, Outcome}
use Rattle.symbols.specs.declared.parts.Symbols.{Symbols}
use Rattle.turns.specs.Parts.{state_with}

module _ {M F C : Type 0} (m : MemoryGhosts M) (f : BagGhosts F) (c : BagGhosts C) where
  abbrev pub state_of : Symbols M F C → State
  state_of h = state_with h.control (m.means h.memory.now) m.links (f.means h.free.now) (c.means h.cache.now)

  -- h' has the memory and the bags that were lent to h, and what lies beside the table is as it was
  pub record Same (h h' : Symbols M F C) : Type 0 where
    pub memory : h'.memory.ghost_name ≡ h.memory.ghost_name
    pub free : h'.free.ghost_name ≡ h.free.ghost_name
    pub cache : h'.cache.ghost_name ≡ h.cache.ghost_name
    pub spare : m.spare h'.memory.now ≡ m.spare h.memory.now
    pub free_spare : f.spare h'.free.now ≡ f.spare h.free.now
    pub cache_spare : c.spare h'.cache.now ≡ c.spare h.cache.now

  -- h' is in state t
  pub record Becomes (t : State) (h h' : Symbols M F C) : Type 0 where
    pub state : state_of h' ≡ t
    pub lent : Same h h'

  -- a call that took h to h' and answered r kept to the rule
  pub record Does (rule : State → Outcome) (h h' : Symbols M F C) (r : Result ℕ Refusal) : Type 0 where
    pub result : record { answer = r; after = state_of h' } ≡ rule (state_of h)
    pub lent : Same h h'
