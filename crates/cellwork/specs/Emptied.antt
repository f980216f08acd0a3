-- A cell on the way to having no link.
use Rattle.std.specs.Prelude.{ℕ, cond, None, nat_lt}
use Rattle.cells.specs.Memory.{Cells, at}

-- links 0 to k − 1 of cell x are empty
abbrev pub emptied_to : Cells → ℕ → ℕ → Cells
emptied_to m x k = record { size = m.size; colour = m.colour; link = at x (λ i. cond (nat_lt i k) None (m.link x i)) m.link }
