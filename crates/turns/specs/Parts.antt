-- What a call does to the parts of a symbol memory that it touches, whatever the others hold.
use Rattle.std.specs.Prelude.{◌≡◌, ℕ, None, Result}
use Rattle.cells.specs.declared.CellMemory.{Ghosts as MemoryGhosts}
use Rattle.cells.specs.Memory.{Cells}
use Rattle.bags.specs.declared.Bag.{Ghosts as BagGhosts}
use Rattle.bags.specs.Holding.{Hold}
use Rattle.rules.specs.declared.Refusal.{Refusal}
use Rattle.rules.specs.SettingUp.{resting}
use Rattle.rules.specs.State.{State, Outcome}
use Rattle.tasks.specs.Parts.{tasks_of}
use Rattle.turns.specs.declared.parts.Control.{Control}

-- the state that a control and what is lent to it make together
abbrev pub state_with : Control → Cells → ℕ → Hold → Hold → State
state_with k cells links free cache = record { cells = cells; links = links; free = free; cache = cache; directory = k.directory; tasks = tasks_of k.tasks; collector = k.collector }

-- beside d directory cells no task is present, and the collector rests
pub record Beginning (d : ℕ) (k : Control) : Type 0 where
  pub directory : k.directory ≡ d
  pub tasks : tasks_of k.tasks ≡ (λ _. None)
  pub collector : k.collector ≡ resting

-- a call that touches the control alone kept to the rule
abbrev pub OnControl : (State → Outcome) → Control → Control → Result ℕ Refusal → Type 0
OnControl rule k k' r =
    (cells : Cells) (links : ℕ) (free cache : Hold)
    → record { answer = r; after = state_with k' cells links free cache } ≡ rule (state_with k cells links free cache)

module _ {M : Type 0} (m : MemoryGhosts M) where
  -- one that touches the cell memory too
  pub record OnCells (rule : State → Outcome) (memory memory' : M) (k k' : Control) (r : Result ℕ Refusal) : Type 0 where
    pub result : (free cache : Hold)
        → record { answer = r; after = state_with k' (m.means memory') m.links free cache } ≡ rule (state_with k (m.means memory) m.links free cache)
    pub rest : m.spare memory' ≡ m.spare memory

module _ {F : Type 0} (f : BagGhosts F) where
  -- one that touches the free list too
  pub record OnFree (rule : State → Outcome) (free free' : F) (k k' : Control) (r : Result ℕ Refusal) : Type 0 where
    pub result : (cells : Cells) (links : ℕ) (cache : Hold)
        → record { answer = r; after = state_with k' cells links (f.means free') cache } ≡ rule (state_with k cells links (f.means free) cache)
    pub rest : f.spare free' ≡ f.spare free

  -- the free list and the control are as the rule makes them
  pub record FreeBecomes (rule : State → State) (free free' : F) (k k' : Control) : Type 0 where
    pub state : (cells : Cells) (links : ℕ) (cache : Hold) → state_with k' cells links (f.means free') cache ≡ rule (state_with k cells links (f.means free) cache)
    pub rest : f.spare free' ≡ f.spare free
