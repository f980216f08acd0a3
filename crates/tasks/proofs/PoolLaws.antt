-- A pool with one cell more and one less.
use Rattle.std.proofs.Common.{◌≡◌, ℕ, suc, ◌+◌, ◌-◌, ◌<◌, min, ◌≢◌, List, ◌∷◌, length, get_or, Some, sym, ap, ◌∙◌, arith}
use Rattle.std.proofs.lemmas.Bool.{cond-true, lt-ltb}
use Rattle.bags.specs.Stacks.{stacked, stacked_length}
use Rattle.rules.specs.Makings.{older_of}
use Rattle.rules.specs.State.{grown}
use Rattle.tasks.specs.Pools.{newest}

-- of a row whose count is held at four or below, and n the count
module _ (row : List ℕ) (count n : ℕ) (told : n ≡ length (stacked row (min count 4))) where
  is_count : n ≡ min count 4
  is_count = told ∙ stacked_length row (min count 4)

  pub pool_grows : (row' : List ℕ) (x : ℕ) → n < 4 → stacked row' (n + 1) ≡ x ∷ stacked row n → stacked row' (min (n + 1) 4) ≡ grown (stacked row (min count 4)) x
  pool_grows row' x h e =
      ap (stacked row') (omega arith) ∙ e ∙ ap (λ k. x ∷ stacked row k) is_count
      ∙ sym (cond-true _ _ _ (lt-ltb (length (stacked row (min count 4))) 4 (omega (arith, told))))

  module _ (some : n ≢ 0) where
    is_more : min count 4 ≡ suc (n - 1)
    is_more = omega (arith, is_count)

    pub pool_gives : Some (get_or row (n - 1) 0) ≡ newest (stacked row (min count 4))
    pool_gives = ap (λ k. newest (stacked row k)) (sym is_more)

    pub pool_shrinks : stacked row (min (n - 1) 4) ≡ older_of (stacked row (min count 4))
    pool_shrinks = ap (stacked row) (omega (arith, is_count)) ∙ ap (λ k. older_of (stacked row k)) (sym is_more)
