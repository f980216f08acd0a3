-- What a stretch of bytes means as a cell memory, five bytes to a cell, and what is written into it.
use Rattle.std.specs.Prelude.{ℕ, ◌+◌, ◌*◌, ◌/◌, ◌%◌, ◌≤◌, min, cond, List, length, drop, Option, nat_lt, slice_index, slice_set}
use Rattle.std.proofs.Common.{arith, lit≤}
use Rattle.std.specs.Borrow.{GName}
use Rattle.cells.specs.declared.Colour.{Colour}
use Rattle.cells.specs.declared.bytes.Bytes.{Bytes}
use Rattle.cells.specs.Memory.{Cells, Sound, settable}
use Rattle.cells.specs.Codes.{code_of, word_of, table_of, table_sound}

abbrev pub cells_in_bytes : List ℕ → ℕ
cells_in_bytes bs = min (length bs / 5) 4097

-- where the high byte of link i of cell c stands
abbrev pub link_place : ℕ → ℕ → ℕ
link_place c i = 5 * c + 2 * i + 1

-- the number whose high byte stands at p
abbrev pub word_at : List ℕ → ℕ → ℕ
word_at bs p = 256 * slice_index bs p + slice_index bs (p + 1)

abbrev pub word_put : List ℕ → ℕ → ℕ → List ℕ
word_put bs p w = slice_set (slice_set bs p (w / 256)) (p + 1) (w % 256)

abbrev pub code_in_bytes : List ℕ → ℕ → ℕ
code_in_bytes bs c = slice_index bs (5 * c)

abbrev pub word_in_bytes : List ℕ → ℕ → ℕ → ℕ
word_in_bytes bs c i = word_at bs (link_place c i)

abbrev pub bytes_mean : List ℕ → Cells
bytes_mean bs = table_of 2 (cells_in_bytes bs) (code_in_bytes bs) (word_in_bytes bs)

pub bytes_sound : (bs : List ℕ) → Sound 2 (bytes_mean bs)
bytes_sound bs = table_sound 2 (cells_in_bytes bs) (code_in_bytes bs) (word_in_bytes bs) (omega arith)

abbrev pub stretch_mean : Bytes → Cells
stretch_mean b = bytes_mean b.bytes.now

-- the bytes past the last cell, and the name of the loan
abbrev pub stretch_spare : Bytes → List ℕ × GName
stretch_spare b = (drop (5 * cells_in_bytes b.bytes.now) b.bytes.now, b.bytes.ghost_name)

pub two_few : (1 ≤ 2) × (2 ≤ 8)
two_few = (lit≤ tt, lit≤ tt)

-- the bytes after cell c was asked to take colour x: one code is written, or nothing
abbrev pub bytes_coloured : List ℕ → ℕ → Colour → List ℕ
bytes_coloured bs c x = cond (nat_lt c (cells_in_bytes bs)) (slice_set bs (5 * c) (code_of x)) bs

-- the bytes after link i of cell c was asked to become v: one word is written, or nothing
abbrev pub bytes_linked : List ℕ → ℕ → ℕ → Option ℕ → List ℕ
bytes_linked bs c i v = cond (settable 2 (bytes_mean bs) c i v) (word_put bs (link_place c i) (word_of v)) bs
