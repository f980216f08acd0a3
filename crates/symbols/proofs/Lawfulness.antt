-- A symbol memory that is set up keeps to the law, over any cell memory and any two bags.
use Rattle.std.proofs.Common.{◌≡◌, ℕ, ◌≤◌}
use Rattle.cells.specs.declared.CellMemory.{Ghosts as MemoryGhosts}
use Rattle.bags.specs.declared.Bag.{Ghosts as BagGhosts}
use Rattle.rules.specs.State.{State, accepted}
use Rattle.rules.specs.SettingUp.{set_up}
use Rattle.rules.specs.Law.{Lawful}
use Rattle.rules.proofs.Turning.{law}
use Rattle.symbols.specs.declared.parts.Symbols.{Symbols}
use Rattle.symbols.specs.Views.{state_of}

pub set_up_lawful : {M F C : Type 0} (m : MemoryGhosts M) (few : (1 ≤ m.links) × (m.links ≤ 8)) (f : BagGhosts F) (c : BagGhosts C) (h : Symbols M F C) (d : ℕ) (s : State)
    → set_up d (state_of m f c h) ≡ accepted 0 s → Lawful s
set_up_lawful m few f c h d s accepts = law s (record {
  before = state_of m f c h;
  d = d;
  accepts = accepts;
  memory = m.sound h.memory.now;
  few = few;
  free = f.sound h.free.now;
  cache = c.sound h.cache.now;
})
