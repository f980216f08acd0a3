-- A register that is written, and a task that is changed in its slot, told as the rules tell them.
use Rattle.std.proofs.Common.{◌≡◌, ℕ, ◌<◌, List, length, Option, Some, None, slice_index_or, slice_set, sym, ap, ◌∙◌, ⊎_elim, arith, rules}
use mathlib.Core.Path.{fun_ext}
use Rattle.std.proofs.lemmas.Bool.{cases_eq, cond-true, cond-false, eq-eqb, ne_eqb}
use Rattle.std.proofs.lemmas.List.{get_or-set_same, get_or-set_other}
use Rattle.cells.specs.Memory.{at}
use Rattle.rules.specs.State.{Task}
use Rattle.tasks.specs.Parts.{slot_of, task_of}
use Rattle.tasks.specs.declared.task.Task.{Task as TaskPart}

pub register_written : (row : List (Option ℕ)) (b i : ℕ) (v : Option ℕ) → length row ≡ 8 → i ≡ b → i < 8
    → (λ j. slice_index_or (slice_set row i v) j None) ≡ at b v (λ j. slice_index_or row j None)
register_written row b i v eight same below = search rules

-- slot m, whose index is i, has task t, and is changed to what f makes of it
pub slot_changed : (slots : List (Option TaskPart)) (m i : ℕ) (t : TaskPart) (o : Option TaskPart) (f : Option Task → Option Task)
    → length slots ≡ 8 → i ≡ m → i < 8 → slice_index_or slots i None ≡ Some t → slot_of o ≡ f (Some (task_of t))
    → (λ k. slot_of (slice_index_or (slice_set slots i o) k None)) ≡ at m (f (slot_of (slice_index_or slots m None))) (λ k. slot_of (slice_index_or slots k None))
slot_changed slots m i t o f eight same below here changed = fun_ext (λ k. ⊎_elim
    (λ (e : k ≡ m).
    ap (λ j. slot_of (slice_index_or (slice_set slots i o) j None)) (e ∙ sym same)
    ∙ ap slot_of (get_or-set_same slots i o None (omega (arith, eight)))
    ∙ changed
    ∙ ap (λ s. f (slot_of s)) (sym here)
    ∙ ap (λ j. f (slot_of (slice_index_or slots j None))) same
    ∙ sym (cond-true _ _ _ (eq-eqb k m e)))
    (λ (ne : k ≡ m → ⊥).
    ap slot_of (get_or-set_other slots i k o None (λ d. ne (d ∙ same)))
    ∙ sym (cond-false _ _ _ (ne_eqb k m ne)))
    (cases_eq k m))
