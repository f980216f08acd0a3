-- What it is for cells to be changed by a rule.
use Rattle.std.specs.Prelude.{◌≡◌}
use Rattle.cells.specs.declared.CellMemory.{Ghosts as MemoryGhosts}
use Rattle.cells.specs.Memory.{Cells}

module _ {M : Type 0} (m : MemoryGhosts M) where
  -- the cells are as the rule makes them, and what lies beside the table is as it was
  pub record CellsBecome (rule : Cells → Cells) (old new : M) : Type 0 where
    pub after : m.means new ≡ rule (m.means old)
    pub rest : m.spare new ≡ m.spare old
