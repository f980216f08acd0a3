-- Registers copied by the bits of a mask.
use Rattle.std.proofs.Common.{◌≡◌, ℕ, ◌<◌, ◌≤◌, List, length, get_or, Some, None, Option, sym, refl, ◌∙◌, ⊎_elim, arith}
use mathlib.Core.Path.{fun_ext}
use lib.ListN.{get_or-eq_default}
use Rattle.std.proofs.lemmas.Bool.{cases_lt, cond_both}
use Rattle.rules.specs.State.{Task}
use Rattle.rules.specs.Handshake.{bit, chosen, registers_in}
use Rattle.tasks.specs.Masks.{choice}

-- past the eighth there is nothing to copy
pub chosen_all : (mask : ℕ) (row made : List (Option ℕ)) → length row ≡ 8 → length made ≡ 8
    → ((k : ℕ) → k < 8 → get_or made k None ≡ choice mask (λ j. get_or row j None) k)
    → (λ k. get_or made k None) ≡ choice mask (λ j. get_or row j None)
chosen_all mask row made eight long each = fun_ext (λ k. ⊎_elim
    (λ (lt : k < 8). each k lt)
    (λ (ge : 8 ≤ k). get_or-eq_default made None (omega (arith, long)) ∙ sym (cond_both (bit mask k) (get_or row k None) None (λ v. v ≡ None) (λ _. get_or-eq_default row None (omega (arith, eight))) (λ _. refl)))
    (cases_lt k 8))

-- nothing is copied where there is no task
pub choice_chosen : (mask : ℕ) (o : Option Task) → choice mask (registers_in o) ≡ chosen mask o
choice_chosen mask None = fun_ext (λ k. cond_both (bit mask k) None None (λ v. v ≡ None) (λ _. refl) (λ _. refl))
choice_chosen mask (Some t) = refl
