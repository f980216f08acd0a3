-- What a cell memory holds, and what each of its calls answers and makes of it.
use Rattle.std.specs.Prelude.{◌≡◌, ℕ, ◌<◌, ◌≤◌, Bool, true, cond, ◌&&◌, ◌⊎◌, Some, None, Ok, Err, Option, Result, ◌==◌, nat_lt}
use Rattle.cells.specs.declared.Colour.{Colour}
use Rattle.cells.specs.declared.Colour.TheVariants.{White}
use Rattle.cells.specs.declared.MemoryRefusal.{MemoryRefusal}
use Rattle.cells.specs.declared.MemoryRefusal.TheVariants.{Outside}

-- a table of the cells 0 to size − 1; a link is empty or names a cell
pub record Cells : Type 0 where
  pub size : ℕ
  pub colour : ℕ → Colour
  pub link : ℕ → ℕ → Option ℕ

-- f, but with x at place i
abbrev pub at : {A : Type 0} → ℕ → A → (ℕ → A) → ℕ → A
at i x f k = cond (k == i) x (f k)

abbrev pub recoloured : Cells → ℕ → Colour → Cells
recoloured m c x = record { size = m.size; colour = at c x m.colour; link = m.link }

abbrev pub relinked : Cells → ℕ → ℕ → Option ℕ → Cells
relinked m c i v = record { size = m.size; colour = m.colour; link = at c (at i v (m.link c)) m.link }

-- a link value that a table of n cells can hold
abbrev pub fitting : ℕ → Option ℕ → Bool
fitting n None = true
fitting n (Some x) = nat_lt x n

abbrev pub Within : ℕ → Option ℕ → Type 0
Within n None = Unit {0}
Within n (Some x) = x < n

-- what every cell memory with L links a cell keeps to; outside the table, where there is nothing, all tables read alike,
-- so that two are equal as soon as their cells are
pub record Sound (L : ℕ) (m : Cells) : Type 0 where
  pub small : m.size ≤ 4097
  pub within : (c i : ℕ) → Within m.size (m.link c i)
  pub no_cell : (c : ℕ) → m.size ≤ c → m.colour c ≡ White
  pub no_link : (c i : ℕ) → (m.size ≤ c) ⊎ (L ≤ i) → m.link c i ≡ None

-- the answer x where the place is inside the table, the refusal otherwise
abbrev pub inside : {A : Type 0} → Bool → A → Result A MemoryRefusal
inside b x = cond b (Ok x) (Err Outside)

abbrev pub colour_at : Cells → ℕ → Result Colour MemoryRefusal
colour_at m c = inside (nat_lt c m.size) (m.colour c)

abbrev pub colour_taken : Cells → ℕ → Result (Unit {0}) MemoryRefusal
colour_taken m c = inside (nat_lt c m.size) tt

abbrev pub coloured : Cells → ℕ → Colour → Cells
coloured m c x = cond (nat_lt c m.size) (recoloured m c x) m

abbrev pub link_at : ℕ → Cells → ℕ → ℕ → Result (Option ℕ) MemoryRefusal
link_at L m c i = inside (nat_lt c m.size && nat_lt i L) (m.link c i)

-- link i of cell c can be set to v
abbrev pub settable : ℕ → Cells → ℕ → ℕ → Option ℕ → Bool
settable L m c i v = nat_lt c m.size && (nat_lt i L && fitting m.size v)

abbrev pub link_taken : ℕ → Cells → ℕ → ℕ → Option ℕ → Result (Unit {0}) MemoryRefusal
link_taken L m c i v = inside (settable L m c i v) tt

abbrev pub linked : ℕ → Cells → ℕ → ℕ → Option ℕ → Cells
linked L m c i v = cond (settable L m c i v) (relinked m c i v) m
