-- How many numbers below n have a property, by sums.
use Rattle.std.proofs.Common.{◌≡◌, ℕ, zero, suc, ◌+◌, ◌<◌, ◌≤◌, eqb, ◌⊎◌, List, [], ◌∷◌, length, refl, ◌∙◌, subst, ⊎_elim, not-suc-le-zero, arith}
use Rattle.std.proofs.lemmas.Bool.{cases_eq, cond-true, cond-false, eq-eqb, ne_eqb}
use Rattle.bags.specs.Holding.{one, copies}
use Rattle.rules.specs.Law.{Number, none, one as counted, skip}

pub none_of : (P : ℕ → Type 0) (n : ℕ) → ((c : ℕ) → c < n → ¬ (P c)) → Number P n 0
none_of P zero h = none
none_of P (suc n) h = skip (h n (omega arith)) (none_of P n (λ c l. h c (omega arith)))

abbrev pub sum_to : ℕ → (ℕ → ℕ) → ℕ
sum_to zero f = 0
sum_to (suc n) f = f n + sum_to n f

-- a property that f tells by 1 and 0
pub number_by_sum : (P : ℕ → Type 0) (f : ℕ → ℕ) (n : ℕ) → ((c : ℕ) → c < n → (P c × (f c ≡ 1)) ⊎ ((¬ (P c)) × (f c ≡ 0))) → Number P n (sum_to n f)
number_by_sum P f zero h = none
number_by_sum P f (suc n) h =
    let before = number_by_sum P f n (λ c l. h c (omega arith)) in
    ⊎_elim
    (λ (y : P n × (f n ≡ 1)). let k : suc (sum_to n f) ≡ f n + sum_to n f = omega (arith, y.1) in subst (Number P (suc n)) k (counted y.0 before))
    (λ (z : (¬ (P n)) × (f n ≡ 0)). let k : sum_to n f ≡ f n + sum_to n f = omega (arith, z.1) in subst (Number P (suc n)) k (skip z.0 before))
    (h n (omega arith))

pub sum_add : (n : ℕ) (f g : ℕ → ℕ) → sum_to n (λ c. f c + g c) ≡ sum_to n f + sum_to n g
sum_add zero f g = refl
sum_add (suc n) f g = let before = sum_add n f g in omega arith

pub sum_none : (n : ℕ) → sum_to n (λ c. 0) ≡ 0
sum_none zero = refl
sum_none (suc n) = let before = sum_none n in omega arith

pub one_at : (x k : ℕ) → k ≡ x → one x k ≡ 1
one_at x k e = cond-true (eqb k x) 1 0 (eq-eqb k x e)

pub one_elsewhere : (x k : ℕ) → (k ≡ x → ⊥) → one x k ≡ 0
one_elsewhere x k ne = cond-false (eqb k x) 1 0 (ne_eqb k x ne)

sum_one_past : (n x : ℕ) → n ≤ x → sum_to n (one x) ≡ 0
sum_one_past zero x h = refl
sum_one_past (suc n) x h = let before = sum_one_past n x (omega arith) in omega (arith, one_elsewhere x n (λ e. omega arith))

pub sum_one : (n x : ℕ) → x < n → sum_to n (one x) ≡ 1
sum_one zero x h = absurd (not-suc-le-zero h)
sum_one (suc n) x h = ⊎_elim
    (λ (e : n ≡ x). omega (arith, sum_one_past n x (omega arith), one_at x n e))
    (λ (ne : n ≡ x → ⊥). omega (arith, sum_one n x (omega arith), one_elsewhere x n ne))
    (cases_eq n x)

-- the copies of all numbers below n are the members, where no other is a member
pub sum_copies : (n : ℕ) (xs : List ℕ) → ((c : ℕ) → 0 < copies xs c → c < n) → sum_to n (copies xs) ≡ length xs
sum_copies n [] h = sum_none n
sum_copies n (x ∷ xs) h =
    let first = sum_one n x (h x (omega (arith, one_at x x refl))) in
    let others = sum_copies n xs (λ c l. h c (omega arith)) in
    sum_add n (one x) (copies xs) ∙ omega arith
