-- Cells laid out one after the other, from none to all.
use Rattle.std.proofs.Common.{◌≡◌, ℕ, suc, ◌+◌, ◌-◌, ◌<◌, ◌≤◌, cond, eqb, ltb, None, Option, sym, ap, ◌∙◌, ap₂, inl, ⊎_elim, arith}
use mathlib.Core.Path.{fun_ext}
use Rattle.std.proofs.lemmas.Bool.Decides.{nat_tests}
use Rattle.std.proofs.lemmas.Bool.{cases_eq, cases_lt, cond-true, cond-false, eq-eqb, ne_eqb, lt-ltb, le-ltb}
use Rattle.cells.specs.declared.Colour.{Colour}
use Rattle.cells.specs.Memory.{Cells, Sound, at}
use Rattle.bags.specs.Holding.{Hold, put_into}
use Rattle.rules.specs.declared.Collector.{Collector}
use Rattle.rules.specs.State.{Task, State, with_cells, with_free}
use Rattle.rules.specs.SettingUp.{blank, rising, begun, resting}
use Rattle.symbols.specs.Laying.{first_colour, laying, laid_to}

abbrev laid : State → (ℕ → Colour) → (ℕ → ℕ → Option ℕ) → Hold → State
laid s colour link free = with_free (with_cells s (record { size = s.cells.size; colour = colour; link = link })) free

one_coloured : (s : State) (d k : ℕ) → at k (first_colour d k) (laid_to s d k).cells.colour ≡ (laid_to s d (k + 1)).cells.colour
one_coloured s d k = fun_ext (λ c. ⊎_elim
    (λ (e : c ≡ k). cond-true (eqb c k) _ _ (eq-eqb c k e) ∙ ap (first_colour d) (sym e) ∙ sym (cond-true (ltb c (k + 1)) _ _ (lt-ltb c (k + 1) (omega arith))))
    (λ (ne : c ≡ k → ⊥). cond-false (eqb c k) _ _ (ne_eqb c k ne) ∙ ⊎_elim
    (λ (lt : c < k). cond-true (ltb c k) _ _ (lt-ltb c k lt) ∙ sym (cond-true (ltb c (k + 1)) _ _ (lt-ltb c (k + 1) (omega arith))))
    (λ (ge : k ≤ c). cond-false (ltb c k) _ _ (le-ltb c k ge) ∙ sym (cond-false (ltb c (k + 1)) _ _ (le-ltb c (k + 1) (omega arith))))
    (cases_lt c k))
    (cases_eq c k))

one_unlinked : (s : State) (d k : ℕ) → at k (λ i. None) (laid_to s d k).cells.link ≡ (laid_to s d (k + 1)).cells.link
one_unlinked s d k = fun_ext (λ c. ⊎_elim
    (λ (e : c ≡ k). cond-true (eqb c k) _ _ (eq-eqb c k e) ∙ fun_ext (λ i. sym (cond-true (ltb c (k + 1)) _ _ (lt-ltb c (k + 1) (omega arith)))))
    (λ (ne : c ≡ k → ⊥). cond-false (eqb c k) _ _ (ne_eqb c k ne) ∙ fun_ext (λ i. ⊎_elim
    (λ (lt : c < k). cond-true (ltb c k) _ _ (lt-ltb c k lt) ∙ sym (cond-true (ltb c (k + 1)) _ _ (lt-ltb c (k + 1) (omega arith))))
    (λ (ge : k ≤ c). cond-false (ltb c k) _ _ (le-ltb c k ge) ∙ sym (cond-false (ltb c (k + 1)) _ _ (le-ltb c (k + 1) (omega arith))))
    (cases_lt c k)))
    (cases_eq c k))

one_put : (h : Hold) (d k : ℕ) → cond (ltb k d) (rising h d (k - d)) (put_into (rising h d (k - d)) k) ≡ rising h d (k + 1 - d)
one_put h d k = ⊎_elim
    (λ (lt : k < d).
    let none : k - d ≡ k + 1 - d = omega arith in
    cond-true (ltb k d) _ _ (lt-ltb k d lt) ∙ ap (rising h d) none)
    (λ (ge : d ≤ k).
    let here : k ≡ d + (k - d) = omega arith in
    let more : suc (k - d) ≡ k + 1 - d = omega arith in
    cond-false (ltb k d) _ _ (le-ltb k d ge) ∙ ap (put_into (rising h d (k - d))) here ∙ ap (rising h d) more)
    (cases_lt k d)

pub one_laid : (s : State) (d k : ℕ) → k < s.cells.size → laying (laid_to s d k) d k ≡ laid_to s d (k + 1)
one_laid s d k lt =
    ap (λ (m : Cells). with_free (with_cells s m) (cond (ltb k d) (rising s.free d (k - d)) (put_into (rising s.free d (k - d)) k)))
    (cond-true (ltb k s.cells.size) _ _ (lt-ltb k s.cells.size lt))
    ∙ ap₂ (λ colour link. laid s colour link (cond (ltb k d) (rising s.free d (k - d)) (put_into (rising s.free d (k - d)) k))) (one_coloured s d k) (one_unlinked s d k)
    ∙ ap (laid s (laid_to s d (k + 1)).cells.colour (laid_to s d (k + 1)).cells.link) (one_put s.free d k)

module _ (L : ℕ) (m : Cells) (sound : Sound L m) (d : ℕ) where
  all_coloured : (c : ℕ) → cond (ltb c m.size) (first_colour d c) (m.colour c) ≡ (blank m.size d).colour c
  all_coloured c = ⊎_elim
      (λ (lt : c < m.size). grind (arith, nat_tests))
      (λ (ge : m.size ≤ c). let none = sound.no_cell c ge in grind (arith, nat_tests))
      (cases_lt c m.size)

  all_unlinked : (c i : ℕ) → cond (ltb c m.size) None (m.link c i) ≡ None
  all_unlinked c i = ⊎_elim
      (λ (lt : c < m.size). cond-true (ltb c m.size) _ _ (lt-ltb c m.size lt))
      (λ (ge : m.size ≤ c). cond-false (ltb c m.size) _ _ (le-ltb c m.size ge) ∙ sound.no_link c i (inl ge))
      (cases_lt c m.size)

  all_laid : record { size = m.size; colour = λ c. cond (ltb c m.size) (first_colour d c) (m.colour c); link = λ c i. cond (ltb c m.size) None (m.link c i) } ≡ blank m.size d
  all_laid = ap₂ (λ colour link. record { size = m.size; colour = colour; link = link }) (fun_ext all_coloured) (fun_ext (λ c. fun_ext (λ i. all_unlinked c i)))

abbrev with_rest : State → ℕ → (ℕ → Option Task) → Collector → State
with_rest t d ts co = record { cells = t.cells; links = t.links; free = t.free; cache = t.cache; directory = d; tasks = ts; collector = co }

-- with all cells laid out, no task and the collector at rest, the symbol memory has begun
pub laid_begun : (s t : State) (d e x : ℕ) (ts : ℕ → Option Task) (co : Collector) → Sound s.links s.cells → t ≡ laid_to s d x → x ≡ s.cells.size → e ≡ d → ts ≡ (λ m. None) → co ≡ resting
    → with_rest t e ts co ≡ begun s d
laid_begun s t d e x ts co sound state end same none rest =
    ap (λ n. with_rest t n ts co) same
    ∙ ap (λ u. with_rest u d ts co) (state ∙ ap (laid_to s d) end) ∙ ap₂ (with_rest (laid_to s d s.cells.size) d) none rest
    ∙ ap (λ (m : Cells). record { cells = m; links = s.links; free = rising s.free d (s.cells.size - d); cache = s.cache; directory = d; tasks = λ m. None; collector = resting })
    (all_laid s.links s.cells sound d)
