-- What is written into a row of records changes its table as asked.
use Rattle.std.proofs.Common.{◌≡◌, ℕ, ◌<◌, true, ltb, List, length, get_or, set, Option, sym, refl, ap, ◌∙◌, ⊎_elim, arith, length-set}
use Rattle.std.proofs.lemmas.List.{get_or-set_same, get_or-set_other}
use Rattle.std.proofs.lemmas.Bool.{cases_eq, ltb-true}
use Rattle.cells.specs.declared.Colour.{Colour}
use Rattle.cells.specs.declared.board.CellRecord.{CellRecord}
use Rattle.cells.specs.Memory.{coloured, recoloured, linked, relinked, fitting, settable}
use Rattle.cells.specs.Codes.{word_of, table_of}
use Rattle.cells.specs.Rows.{blank, cells_in_rows, code_in_row, word_in_row, rows_mean, painted_row, relinked_row, rows_coloured, rows_linked}
use Rattle.cells.proofs.Tables.{through_cond, settable_parts, table_recoloured, table_relinked}

module _ (rows : List CellRecord) (c : ℕ) (r : CellRecord) where
  same_count : cells_in_rows (set rows c r) ≡ cells_in_rows rows
  same_count = simp length-set

  -- a part in which the new record agrees with the old one stays as it was in every row
  part_kept : {B : Type 0} (part : CellRecord → B) → c < length rows → part r ≡ part (get_or rows c blank) → (k : ℕ) → part (get_or (set rows c r) k blank) ≡ part (get_or rows k blank)
  part_kept part inside same k =
      ⊎_elim
      (λ (e : k ≡ c). ap (λ n. part (get_or (set rows c r) n blank)) e ∙ ap part (get_or-set_same rows c r blank inside) ∙ same ∙ ap (λ n. part (get_or rows n blank)) (sym e))
      (λ ne. ap part (get_or-set_other rows c k r blank ne))
      (cases_eq k c)

rows_recoloured : (rows : List CellRecord) (c : ℕ) (x : Colour) → c < cells_in_rows rows → rows_mean (set rows c (painted_row rows c x)) ≡ recoloured (rows_mean rows) c x
rows_recoloured rows c x inside =
    let r : CellRecord = painted_row rows c x in
    let new : List CellRecord = set rows c r in
    let low : c < length rows = omega arith in
    ap (λ n. table_of 4 n (code_in_row new) (word_in_row new)) (same_count rows c r)
    ∙ table_recoloured 4 (cells_in_rows rows) (code_in_row rows) (code_in_row new) (word_in_row rows) (word_in_row new) c x inside
    (ap (λ (y : CellRecord). y.colour) (get_or-set_same rows c r blank low))
    (λ k ne. ap (λ (y : CellRecord). y.colour) (get_or-set_other rows c k r blank ne))
    (λ k m _. part_kept rows c r (λ (y : CellRecord). get_or y.links m 0) low refl k)

rows_relinked : (rows : List CellRecord) (c i : ℕ) (v : Option ℕ) → c < cells_in_rows rows → i < 4 → fitting (cells_in_rows rows) v ≡ true → i < length (get_or rows c blank).links
    → rows_mean (set rows c (relinked_row rows c i v)) ≡ relinked (rows_mean rows) c i v
rows_relinked rows c i v inside few fit long =
    let r : CellRecord = relinked_row rows c i v in
    let new : List CellRecord = set rows c r in
    let old : List ℕ = (get_or rows c blank).links in
    let low : c < length rows = omega arith in
    let at_c : (m : ℕ) → word_in_row new c m ≡ get_or (set old i (word_of v)) m 0 = λ m. ap (λ (y : CellRecord). get_or y.links m 0) (get_or-set_same rows c r blank low) in
    ap (λ n. table_of 4 n (code_in_row new) (word_in_row new)) (same_count rows c r)
    ∙ table_relinked 4 (cells_in_rows rows) (code_in_row rows) (code_in_row new) (word_in_row rows) (word_in_row new) c i v inside few (omega arith) fit
    (at_c i ∙ get_or-set_same old i (word_of v) 0 long)
    (λ k m _ other.
    ⊎_elim
    (λ (e : k ≡ c). ap (λ n. word_in_row new n m) e ∙ at_c m ∙ get_or-set_other old i m (word_of v) 0 (λ f. other (e, f)) ∙ ap (λ n. word_in_row rows n m) (sym e))
    (λ ne. ap (λ (y : CellRecord). get_or y.links m 0) (get_or-set_other rows c k r blank ne))
    (cases_eq k c))
    (part_kept rows c r (λ (y : CellRecord). y.colour) low refl)

pub coloured_after : (rows new : List CellRecord) (c : ℕ) (x : Colour) → new ≡ rows_coloured rows c x → rows_mean new ≡ coloured (rows_mean rows) c x
coloured_after rows new c x exact =
    ap rows_mean exact
    ∙ through_cond rows_mean (ltb c (cells_in_rows rows)) (set rows c (painted_row rows c x)) rows (recoloured (rows_mean rows) c x) (λ e. rows_recoloured rows c x (ltb-true c (cells_in_rows rows) e))

pub linked_after : (rows new : List CellRecord) (c i : ℕ) (v : Option ℕ) → length (get_or rows c blank).links ≡ 4 → new ≡ rows_linked rows c i v → rows_mean new ≡ linked 4 (rows_mean rows) c i v
linked_after rows new c i v four exact =
    ap rows_mean exact
    ∙ through_cond rows_mean (settable 4 (rows_mean rows) c i v) (set rows c (relinked_row rows c i v)) rows (relinked (rows_mean rows) c i v)
    (λ e.
    let parts : (c < cells_in_rows rows) × (i < 4) × (fitting (cells_in_rows rows) v ≡ true) = settable_parts 4 (rows_mean rows) c i v e in
    rows_relinked rows c i v parts.0 parts.1 parts.2 (omega arith))
