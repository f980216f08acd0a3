-- What was lent stays lent, from one call to the next.
use Rattle.std.proofs.Common.{refl, ◌∙◌}
use Rattle.cells.specs.declared.CellMemory.{Ghosts as MemoryGhosts}
use Rattle.bags.specs.declared.Bag.{Ghosts as BagGhosts}
use Rattle.symbols.specs.declared.parts.Symbols.{Symbols}
use Rattle.symbols.specs.Views.{Same}

module _ {M F C : Type 0} (m : MemoryGhosts M) (f : BagGhosts F) (c : BagGhosts C) where
  pub same_refl : (h : Symbols M F C) → Same m f c h h
  same_refl h = record { memory = refl; free = refl; cache = refl; spare = refl; free_spare = refl; cache_spare = refl }

  pub same_then : {h i j : Symbols M F C} → Same m f c h i → Same m f c i j → Same m f c h j
  same_then p q = record {
    memory = q.memory ∙ p.memory;
    free = q.free ∙ p.free;
    cache = q.cache ∙ p.cache;
    spare = q.spare ∙ p.spare;
    free_spare = q.free_spare ∙ p.free_spare;
    cache_spare = q.cache_spare ∙ p.cache_spare;
  }
