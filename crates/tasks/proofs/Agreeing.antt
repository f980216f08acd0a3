-- One slot after the other agrees, or one that does not settles it for all.
use Rattle.std.proofs.Common.{◌≡◌, ℕ, zero, suc, ◌+◌, ◌<◌, ◌≤◌, true, false, ◌&&◌, List, length, take, None, Option, slice_index_or, sym, ap, ap₂, ◌∙◌, inl, inr, add-one, refl, arith}
use mathlib.Core.Bool.{and-false}
use Rattle.std.proofs.Math.Bool.{and_comm}
use Rattle.std.proofs.lemmas.Bool.{cases_lt}
use Rattle.std.proofs.lemmas.List.Folds.{list_all_more}
use Rattle.std.specs.List.{list_all}
use Rattle.rules.specs.declared.Status.{Status}
use Rattle.rules.specs.State.{Task}
use Rattle.rules.specs.Collecting.{agrees, agree_to}
use Rattle.tasks.specs.declared.task.Task.{Task as TaskPart}
use Rattle.tasks.specs.Parts.{slot_of}

pub one_more : (k : ℕ) (q : Status) (tasks : ℕ → Option Task) → agrees q (tasks k) ≡ true → agree_to k q tasks ≡ true → agree_to (k + 1) q tasks ≡ true
one_more k q tasks here before = ap (λ n. agree_to n q tasks) (add-one k) ∙ ap₂ ◌&&◌ here before

pub one_against : (n : ℕ) (k : ℕ) (q : Status) (tasks : ℕ → Option Task) → k < n → agrees q (tasks k) ≡ false → agree_to n q tasks ≡ false
one_against zero k q tasks below here = absurd (omega arith)
one_against (suc n) k q tasks below here =
    elim (cases_lt k n) [
      | inl less ↦ ap (λ b. agrees q (tasks n) && b) (one_against n k q tasks less here) ∙ and-false (agrees q (tasks n))
      | inr least ↦
          let same : n ≡ k = omega arith in
          ap (λ b. b && agree_to n q tasks) (ap (λ i. agrees q (tasks i)) same ∙ here)
    ]

module _ (q : Status) (slots : List (Option TaskPart)) where
  pub first_agree : (k : ℕ) → k ≤ length slots → list_all (λ slot. agrees q (slot_of slot)) (take k slots) ≡ agree_to k q (λ m. slot_of (slice_index_or slots m None))
  first_agree zero below = refl
  first_agree (suc k) below =
      ap (λ n. list_all (λ slot. agrees q (slot_of slot)) (take n slots)) (sym (add-one k))
      ∙ list_all_more (λ slot. agrees q (slot_of slot)) slots k None (omega arith)
      ∙ and_comm (list_all (λ slot. agrees q (slot_of slot)) (take k slots)) (agrees q (slot_of (slice_index_or slots k None)))
      ∙ ap (λ b. agrees q (slot_of (slice_index_or slots k None)) && b) (first_agree k (omega arith))
