-- What a pool stands for, and what is looked for in it.
use Rattle.std.specs.Prelude.{ℕ, min, List, [], ◌∷◌, Some, None, Option}
use Rattle.bags.specs.Stacks.{stacked}
use Rattle.tasks.specs.declared.pool.Pool.{Pool}

-- the cells of a pool, the last added first; a count above four is read as four
abbrev pub pool_of : Pool → List ℕ
pool_of p = stacked p.cells (min p.count 4)

-- the last added cell of a pool
abbrev pub newest : List ℕ → Option ℕ
newest [] = None
newest (x ∷ xs) = Some x
