-- The colour of a settled cell: White but for a task at Async before or ahead of the sweep.
use Rattle.std.proofs.Common.{◌≡◌, ℕ, ◌<◌, ◌≤◌, cond, eqb, ltb, ◌≢◌, ◌⊎◌, refl, ◌∙◌, inl, inr, ⊎_elim, arith}
use Rattle.std.proofs.lemmas.Bool.{cases_eq, cases_lt, cond-true, cond-false, lt-ltb, le-ltb, eq-eqb, ne_eqb}
use Rattle.cells.specs.declared.Colour.TheVariants.{Blue, White, Grey, Black}
use Rattle.rules.specs.declared.Status.{Status}
use Rattle.rules.specs.declared.Status.TheVariants.{Async, Sync1, Sync2}
use Rattle.rules.specs.declared.Swept.{Swept}
use Rattle.rules.specs.declared.Swept.TheVariants.{Before, At, Past}
use Rattle.rules.specs.Changes.{settled_colour}

-- while the sweep is at k
in_sweep : (k x : ℕ) → ((x < k) × (settled_colour Async (At k) x ≡ White)) ⊎ (((x ≡ k) × (settled_colour Async (At k) x ≡ Grey)) ⊎ ((k < x) × (settled_colour Async (At k) x ≡ Black)))
in_sweep k x = ⊎_elim
    (λ (l : x < k). inl (l, cond-true (ltb x k) White (cond (eqb x k) Grey Black) (lt-ltb x k l)))
    (λ (g : k ≤ x).
    let on = cond-false (ltb x k) White (cond (eqb x k) Grey Black) (le-ltb x k g) in
    inr (⊎_elim
    (λ (e : x ≡ k). inl (e, on ∙ cond-true (eqb x k) Grey Black (eq-eqb x k e)))
    (λ (n : x ≡ k → ⊥). inr (omega arith, on ∙ cond-false (eqb x k) Grey Black (ne_eqb x k n)))
    (cases_eq x k)))
    (cases_lt x k)

pub settled_not_blue : (q : Status) (w : Swept) (x : ℕ) → settled_colour q w x ≢ Blue
settled_not_blue Async Before x e = cc
settled_not_blue Async (At k) x e = ⊎_elim
    (λ a. let f = a.1 in cc)
    (⊎_elim (λ a. let f = a.1 in cc) (λ a. let f = a.1 in cc))
    (in_sweep k x)
settled_not_blue Async Past x e = cc
settled_not_blue Sync1 w x e = cc
settled_not_blue Sync2 w x e = cc

pub settled_white : (q : Status) (w : Swept) (x : ℕ) → q ≢ Async → settled_colour q w x ≡ White
settled_white Async w x n = absurd (n refl)
settled_white Sync1 w x n = refl
settled_white Sync2 w x n = refl

pub settled_before : (q : Status) (w : Swept) (x : ℕ) → q ≡ Async → w ≡ Before → settled_colour q w x ≡ Black
settled_before q w x e f = let same : settled_colour q w x ≡ settled_colour Async Before x = cc in same

pub settled_past : (q : Status) (w : Swept) (x : ℕ) → w ≡ Past → settled_colour q w x ≢ Black
settled_past Async w x e f = let same : settled_colour Async w x ≡ settled_colour Async Past x = cc in cc
settled_past Sync1 w x e f = cc
settled_past Sync2 w x e f = cc

pub settled_passed : (q : Status) (w : Swept) (k x : ℕ) → w ≡ At k → x ≤ k → settled_colour q w x ≢ Black
settled_passed Async w k x e l f =
    let same : settled_colour Async w x ≡ settled_colour Async (At k) x = cc in
    ⊎_elim
    (λ a. let g = a.1 in cc)
    (⊎_elim (λ a. let g = a.1 in cc) (λ a. omega (arith, a.0)))
    (in_sweep k x)
settled_passed Sync1 w k x e l f = cc
settled_passed Sync2 w k x e l f = cc

pub settled_ahead : (q : Status) (w : Swept) (k x : ℕ) → q ≡ Async → w ≡ At k → settled_colour q w x ≡ White → x < k
settled_ahead q w k x e f g =
    let same : settled_colour q w x ≡ settled_colour Async (At k) x = cc in
    ⊎_elim
    (λ a. a.0)
    (⊎_elim (λ a. let h = a.1 in cc) (λ a. let h = a.1 in cc))
    (in_sweep k x)
