-- An array that is made place by place.
use Rattle.std.proofs.Common.{◌≡◌, ℕ, zero, suc, ◌+◌, ◌<◌, ◌≤◌, List, slice_index_or, subst, ap, sym, ◌∙◌, inl, inr, arith}
use Rattle.std.proofs.lemmas.Bool.{cases_eq}
use Rattle.std.specs.Fn.{Called, Mut}
use Rattle.std.specs.Array.{IsFromFnResultFrom}

-- where each call at a place i below n leaves f as it is and gives h i
module _ {F B : Type 0} (g : Mut F (ℕ × Unit {0}) B) (f : F) (n : ℕ) (h : ℕ → B) (ys : List B)
    (call : (i : ℕ) (y : B) (q : F) → i < n → Called g f (i, tt) y q → (q ≡ f) × (y ≡ h i)) where
  pub made_at : (m i : ℕ) → i + m ≤ n → IsFromFnResultFrom g f ys i m → (k : ℕ) (d : B) → i ≤ k → k < i + m → slice_index_or ys k d ≡ h k
  made_at zero i within made k d low high = absurd (omega arith)
  made_at (suc m) i within made k d low high =
      let here = call i made.1 made.0 (omega arith) made.3 in
      elim (cases_eq k i) [
        | inl e ↦ ap (λ j. slice_index_or ys j d) e ∙ made.2.1 d ∙ here.1 ∙ ap h (sym e)
        | inr ne ↦ made_at m (i + 1) (omega arith) (subst (λ q. IsFromFnResultFrom g q ys (i + 1) m) here.0 made.4) k d (omega arith) (omega arith)
      ]
