-- A state with another task in a slot, read and written again.
use Rattle.std.proofs.Common.{◌≡◌, ℕ, eqb, Ok, Option, Result, sym, refl, ap, ◌∙◌, ⊎_elim}
use mathlib.Core.Path.{fun_ext}
use Rattle.std.proofs.lemmas.Bool.{cases_eq, cond-true, cond-false, eq-eqb, ne_eqb}
use Rattle.cells.specs.Memory.{at}
use Rattle.rules.specs.declared.Refusal.{Refusal}
use Rattle.rules.specs.State.{Task, State, Outcome, by, with_task}

pub at_here : {A : Type 0} (i : ℕ) (x : A) (f : ℕ → A) → at i x f i ≡ x
at_here i x f = cond-true (eqb i i) x (f i) (eq-eqb i i refl)

pub at_again : {A : Type 0} (i : ℕ) (x y : A) (f : ℕ → A) → at i y (at i x f) ≡ at i y f
at_again i x y f = fun_ext (λ k. ⊎_elim
    (λ (e : k ≡ i). cond-true (eqb k i) y _ (eq-eqb k i e) ∙ sym (cond-true (eqb k i) y _ (eq-eqb k i e)))
    (λ ne. cond-false (eqb k i) y _ (ne_eqb k i ne) ∙ cond-false (eqb k i) x _ (ne_eqb k i ne) ∙ sym (cond-false (eqb k i) y _ (ne_eqb k i ne)))
    (cases_eq k i))

pub at_as_it_was : {A : Type 0} (i : ℕ) (x : A) (f : ℕ → A) → f i ≡ x → at i x f ≡ f
at_as_it_was i x f e = fun_ext (λ k. ⊎_elim
    (λ (s : k ≡ i). cond-true (eqb k i) x (f k) (eq-eqb k i s) ∙ sym e ∙ ap f (sym s))
    (λ ne. cond-false (eqb k i) x (f k) (ne_eqb k i ne))
    (cases_eq k i))

abbrev with : State → (ℕ → Option Task) → State
with s ts = record { cells = s.cells; links = s.links; free = s.free; cache = s.cache; directory = s.directory; tasks = ts; collector = s.collector }

pub task_as_it_was : (s : State) (m : ℕ) (t : Option Task) → s.tasks m ≡ t → with_task s m t ≡ s
task_as_it_was s m t e = ap (with s) (at_as_it_was m t s.tasks e)

-- a call whose checks passed
pub passed : {A : Type 0} (s : State) (checks : Result A Refusal) (done : A → Outcome) (x : A) → Ok x ≡ checks → done x ≡ by s checks done
passed s checks done x e = ap (λ c. by s c done) e
