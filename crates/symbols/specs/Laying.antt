-- Cells that are laid out, one after the other.
use Rattle.std.specs.Prelude.{ℕ, ◌-◌, cond, None, nat_lt}
use Rattle.cells.specs.declared.Colour.{Colour}
use Rattle.cells.specs.declared.Colour.TheVariants.{Blue, White}
use Rattle.cells.specs.Memory.{coloured}
use Rattle.bags.specs.Holding.{put_into}
use Rattle.rules.specs.State.{State, with_cells, with_free}
use Rattle.rules.specs.Makings.{unlinked}
use Rattle.rules.specs.SettingUp.{rising}

-- the colour of cell c as it begins beside d directory cells
abbrev pub first_colour : ℕ → ℕ → Colour
first_colour d c = cond (nat_lt c d) White Blue

-- cell x is laid out
abbrev pub laying : State → ℕ → ℕ → State
laying s d x = with_free (with_cells s (coloured (unlinked s.cells x) x (first_colour d x))) (cond (nat_lt x d) s.free (put_into s.free x))

-- the cells 0 to k − 1 are laid out
abbrev pub laid_to : State → ℕ → ℕ → State
laid_to s d k = with_free (with_cells s (record {
  size = s.cells.size;
  colour = λ c. cond (nat_lt c k) (first_colour d c) (s.cells.colour c);
  link = λ c i. cond (nat_lt c k) None (s.cells.link c i);
})) (rising s.free d (k - d))
