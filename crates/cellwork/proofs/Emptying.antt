-- The links of a cell, emptied one after the other.
use Rattle.std.proofs.Common.{◌≡◌, ℕ, ◌+◌, ◌<◌, ◌≤◌, true, false, cond, ltb, None, Option, ap, ◌∙◌, inl, inr, ⊎_elim, arith}
use mathlib.Core.Path.{fun_ext}
use Rattle.std.proofs.lemmas.Bool.Decides.{nat_tests}
use Rattle.std.proofs.lemmas.Bool.{cases_lt, cond-true, cond-false, lt-ltb, le-ltb}
use Rattle.cells.specs.Memory.{Cells, Sound, at, linked, settable}
use Rattle.rules.specs.Makings.{unlinked}
use Rattle.rules.proofs.States.{at_here, at_again}
use Rattle.cellwork.specs.Emptied.{emptied_to}

abbrev with_row : Cells → ℕ → (ℕ → Option ℕ) → Cells
with_row m x row = record { size = m.size; colour = m.colour; link = at x row m.link }

-- the links of cell x, with the first k of them empty
abbrev row_to : Cells → ℕ → ℕ → ℕ → Option ℕ
row_to m x k i = cond (ltb i k) None (m.link x i)

one_more : (m : Cells) (x k : ℕ) → at k None (row_to m x k) ≡ row_to m x (k + 1)
one_more m x k = fun_ext (λ i. grind (arith, nat_tests))

inside_set : (L : ℕ) (m : Cells) (x k : ℕ) → x < m.size → k < L → linked L (emptied_to m x k) x k None ≡ emptied_to m x (k + 1)
inside_set L m x k lt few =
    let ok : settable L (emptied_to m x k) x k None ≡ true = grind (arith, nat_tests) in
    cond-true (settable L (emptied_to m x k) x k None) _ _ ok
    ∙ ap (λ f. record { size = m.size; colour = m.colour; link = f })
    (at_again x (row_to m x k) (at k None (at x (row_to m x k) m.link x)) m.link)
    ∙ ap (λ row. with_row m x (at k None row)) (at_here x (row_to m x k) m.link)
    ∙ ap (with_row m x) (one_more m x k)

outside_same : (L : ℕ) (m : Cells) → Sound L m → (x k : ℕ) → m.size ≤ x → linked L (emptied_to m x k) x k None ≡ emptied_to m x (k + 1)
outside_same L m sound x k ge =
    let no : settable L (emptied_to m x k) x k None ≡ false = grind (arith, nat_tests) in
    cond-false (settable L (emptied_to m x k) x k None) _ _ no
    ∙ ap (with_row m x) (fun_ext (λ i. let none = sound.no_link x i (inl ge) in grind (arith, nat_tests)))

pub one_emptied : (L : ℕ) (m : Cells) → Sound L m → (x k : ℕ) → k < L → linked L (emptied_to m x k) x k None ≡ emptied_to m x (k + 1)
one_emptied L m sound x k few = ⊎_elim (λ lt. inside_set L m x k lt few) (outside_same L m sound x k) (cases_lt x m.size)

pub all_emptied : (L : ℕ) (m : Cells) → Sound L m → (x k : ℕ) → L ≤ k → emptied_to m x k ≡ unlinked m x
all_emptied L m sound x k all = ap (with_row m x) (fun_ext (λ i. ⊎_elim
    (λ (lt : i < k). cond-true (ltb i k) None (m.link x i) (lt-ltb i k lt))
    (λ (ge : k ≤ i). cond-false (ltb i k) None (m.link x i) (le-ltb i k ge) ∙ sound.no_link x i (inr (omega arith)))
    (cases_lt i k)))
