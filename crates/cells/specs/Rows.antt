-- What a row of records means as a cell memory, and what is written into it.
use Rattle.std.specs.Prelude.{ℕ, ◌≤◌, min, cond, List, [], length, drop, Option, nat_lt, slice_index, slice_index_or, slice_set}
use Rattle.std.proofs.Common.{arith, lit≤}
use Rattle.std.specs.Borrow.{GName}
use Rattle.cells.specs.declared.Colour.{Colour}
use Rattle.cells.specs.declared.board.Board.{Board}
use Rattle.cells.specs.declared.board.CellRecord.{CellRecord}
use Rattle.cells.specs.Memory.{Cells, Sound, settable}
use Rattle.cells.specs.Codes.{code_of, word_of, table_of, table_sound}

abbrev pub cells_in_rows : List CellRecord → ℕ
cells_in_rows rows = min (length rows) 4097

abbrev pub blank : CellRecord
blank = record { colour = 0; links = [] }

abbrev pub code_in_row : List CellRecord → ℕ → ℕ
code_in_row rows c = (slice_index_or rows c blank).colour

abbrev pub word_in_row : List CellRecord → ℕ → ℕ → ℕ
word_in_row rows c i = slice_index (slice_index_or rows c blank).links i

abbrev pub rows_mean : List CellRecord → Cells
rows_mean rows = table_of 4 (cells_in_rows rows) (code_in_row rows) (word_in_row rows)

pub rows_sound : (rows : List CellRecord) → Sound 4 (rows_mean rows)
rows_sound rows = table_sound 4 (cells_in_rows rows) (code_in_row rows) (word_in_row rows) (omega arith)

abbrev pub board_mean : Board → Cells
board_mean b = rows_mean b.rows.now

-- the rows past the last cell, and the name of the loan
abbrev pub board_spare : Board → List CellRecord × GName
board_spare b = (drop 4097 b.rows.now, b.rows.ghost_name)

pub four_few : (1 ≤ 4) × (4 ≤ 8)
four_few = (lit≤ tt, lit≤ tt)

abbrev pub painted_row : List CellRecord → ℕ → Colour → CellRecord
painted_row rows c x = record { colour = code_of x; links = (slice_index_or rows c blank).links }

abbrev pub relinked_row : List CellRecord → ℕ → ℕ → Option ℕ → CellRecord
relinked_row rows c i v = record { colour = (slice_index_or rows c blank).colour; links = slice_set (slice_index_or rows c blank).links i (word_of v) }

-- the rows after cell c was asked to take colour x: one code is written, or nothing
abbrev pub rows_coloured : List CellRecord → ℕ → Colour → List CellRecord
rows_coloured rows c x = cond (nat_lt c (cells_in_rows rows)) (slice_set rows c (painted_row rows c x)) rows

-- the rows after link i of cell c was asked to become v: one word is written, or nothing
abbrev pub rows_linked : List CellRecord → ℕ → ℕ → Option ℕ → List CellRecord
rows_linked rows c i v = cond (settable 4 (rows_mean rows) c i v) (slice_set rows c (relinked_row rows c i v)) rows
