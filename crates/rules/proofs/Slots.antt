-- A slot that is written, read again; and the pools together when one slot is written.
use Rattle.std.proofs.Common.{◌≡◌, ℕ, zero, suc, ◌+◌, ◌<◌, ◌≤◌, eqb, ◌⊎◌, Option, sym, refl, ap, ◌∙◌, inl, inr, ⊎_elim, arith, Some, None, subst}
use Rattle.std.proofs.lemmas.Bool.{cases_eq, cond-true, cond-false, eq-eqb, ne_eqb, cases_lt}
use Rattle.cells.specs.Memory.{at}
use Rattle.bags.specs.Holding.{copies}
use Rattle.rules.specs.State.{Task}
use Rattle.rules.specs.Pools.{pool_in}
use Rattle.rules.specs.Law.{copies_pooled}
use Rattle.std.proofs.lemmas.Option.{same_Some}

pub at_cases : {A : Type 0} (i : ℕ) (x : A) (f : ℕ → A) (k : ℕ) (y : A) → at i x f k ≡ y → ((k ≡ i) × (x ≡ y)) ⊎ ((k ≡ i → ⊥) × (f k ≡ y))
at_cases i x f k y e = ⊎_elim
    (λ (q : k ≡ i). inl (q, sym (cond-true (eqb k i) x (f k) (eq-eqb k i q)) ∙ e))
    (λ (n : k ≡ i → ⊥). inr (n, sym (cond-false (eqb k i) x (f k) (ne_eqb k i n)) ∙ e))
    (cases_eq k i)

pub at_other : {A : Type 0} (i : ℕ) (x : A) (f : ℕ → A) (k : ℕ) → (k ≡ i → ⊥) → at i x f k ≡ f k
at_other i x f k n = cond-false (eqb k i) x (f k) (ne_eqb k i n)

-- what the task in a slot has
pub slot_has : (P : Task → Type 0) {o : Option Task} {t : Task} → o ≡ Some t → P t → (u : Task) → o ≡ Some u → P u
slot_has P p h u q = subst P (same_Some _ _ (sym p ∙ q)) h

-- a slot with a task is one of the eight
pub slot_below : {tasks : ℕ → Option Task} → ((m : ℕ) → 8 ≤ m → tasks m ≡ None) → (m : ℕ) (t : Task) → tasks m ≡ Some t → m < 8
slot_below vacant m t p = ⊎_elim (λ (l : m < 8). l) (λ (g : 8 ≤ m). let none = vacant m g in cc) (cases_lt m 8)

-- a slot that is written changes the pools together by its own pool
pub pooled_swap : (k m : ℕ) → m < k → (o : Option Task) (tasks : ℕ → Option Task) (c : ℕ) → copies_pooled k (at m o tasks) c + copies (pool_in (tasks m)) c ≡ copies_pooled k tasks c + copies (pool_in o) c
pooled_swap zero m l o tasks c = absurd (omega arith)
pooled_swap (suc k) m l o tasks c = ⊎_elim
    (λ (q : k ≡ m).
    let here : copies (pool_in (at m o tasks k)) c ≡ copies (pool_in o) c = ap (λ x. copies (pool_in x) c) (cond-true (eqb k m) o (tasks k) (eq-eqb k m q)) in
    let was : copies (pool_in (tasks k)) c ≡ copies (pool_in (tasks m)) c = ap (λ j. copies (pool_in (tasks j)) c) q in
    let others = pooled_past k m o tasks c (omega arith) in
    omega arith)
    (λ (n : k ≡ m → ⊥).
    let here : copies (pool_in (at m o tasks k)) c ≡ copies (pool_in (tasks k)) c = ap (λ x. copies (pool_in x) c) (at_other m o tasks k n) in
    let others = pooled_swap k m (omega arith) o tasks c in
    omega arith)
    (cases_eq k m)
  where
    pooled_past : (k m : ℕ) (o : Option Task) (tasks : ℕ → Option Task) (c : ℕ) → k ≤ m → copies_pooled k (at m o tasks) c ≡ copies_pooled k tasks c
    pooled_past zero m o tasks c h = refl
    pooled_past (suc k) m o tasks c h =
        let here : copies (pool_in (at m o tasks k)) c ≡ copies (pool_in (tasks k)) c = ap (λ x. copies (pool_in x) c) (at_other m o tasks k (λ e. omega arith)) in
        let others = pooled_past k m o tasks c (omega arith) in
        omega arith
