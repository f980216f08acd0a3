-- From an account of each cell to the third promise: as many members as free cells, and each of these once.
use Rattle.std.proofs.Common.{◌≡◌, ℕ, zero, suc, ◌+◌, ◌-◌, ◌<◌, ◌≤◌, ◌⊎◌, length, Option, refl, ap, ◌∙◌, subst, inl, inr, ⊎_elim, arith}
use Rattle.std.proofs.lemmas.Bool.{cases_eq, cases_lt}
use Rattle.cells.specs.declared.Colour.{Colour}
use Rattle.cells.specs.declared.Colour.TheVariants.{Blue, White, Grey, Black}
use Rattle.bags.specs.Holding.{one, copies}
use Rattle.rules.specs.State.{Task, State}
use Rattle.rules.specs.Pools.{pool_in}
use Rattle.rules.specs.Law.{Number, HeldOnce, pooled, copies_pooled}
use Rattle.rules.proofs.Numbers.{sum_to, number_by_sum, sum_add, sum_one, sum_copies, sum_none, one_at, one_elsewhere}

-- 1 for a free cell
abbrev pub blueness : Colour → ℕ
blueness Blue = 1
blueness White = 0
blueness Grey = 0
blueness Black = 0

blue_or_not : (x : Colour) → ((x ≡ Blue) × (blueness x ≡ 1)) ⊎ ((¬ (x ≡ Blue)) × (blueness x ≡ 0))
blue_or_not Blue = inl (refl, refl)
blue_or_not White = inr (λ e. cc, refl)
blue_or_not Grey = inr (λ e. cc, refl)
blue_or_not Black = inr (λ e. cc, refl)

-- free list and pools hold a free cell once, and no other cell
abbrev pub Account : State → Type 0
Account s = (c : ℕ) → copies s.free.members c + copies_pooled 8 s.tasks c ≡ blueness (s.cells.colour c)

pub sum_pooled : (n k : ℕ) (tasks : ℕ → Option Task) → ((c : ℕ) → 0 < copies_pooled k tasks c → c < n) → sum_to n (copies_pooled k tasks) ≡ pooled k tasks
sum_pooled n zero tasks h = sum_none n
sum_pooled n (suc k) tasks h =
    let here = sum_copies n (pool_in (tasks k)) (λ c l. h c (omega arith)) in
    let others = sum_pooled n k tasks (λ c l. h c (omega arith)) in
    sum_add n (copies (pool_in (tasks k))) (copies_pooled k tasks) ∙ omega arith

module _ (s : State) (account : Account s) (outside : (c : ℕ) → s.cells.size ≤ c → s.cells.colour c ≡ White) where
  abbrev held : ℕ → ℕ
  held c = copies s.free.members c + copies_pooled 8 s.tasks c

  inside : (c : ℕ) → 0 < held c → c < s.cells.size
  inside c some = ⊎_elim
      (λ (l : c < s.cells.size). l)
      (λ (g : s.cells.size ≤ c). absurd (omega (arith, account c, ap blueness (outside c g))))
      (cases_lt c s.cells.size)

  told : (c : ℕ) → ((s.cells.colour c ≡ Blue) × (held c ≡ 1)) ⊎ ((¬ (s.cells.colour c ≡ Blue)) × (held c ≡ 0))
  told c = ⊎_elim (λ y. inl (y.0, account c ∙ y.1)) (λ z. inr (z.0, account c ∙ z.1)) (blue_or_not (s.cells.colour c))

  pub members : sum_to s.cells.size held ≡ length s.free.members + pooled 8 s.tasks
  members =
      let free = sum_copies s.cells.size s.free.members (λ c l. inside c (omega arith)) in
      let pools = sum_pooled s.cells.size 8 s.tasks (λ c l. inside c (omega arith)) in
      sum_add s.cells.size (copies s.free.members) (copies_pooled 8 s.tasks) ∙ omega arith

  pub held_once : HeldOnce s
  held_once = record {
    total = subst (Number (λ c. s.cells.colour c ≡ Blue) s.cells.size) members (number_by_sum (λ c. s.cells.colour c ≡ Blue) held s.cells.size (λ c l. told c));
    once = λ c l b. account c ∙ ap blueness b;
  }

-- a slot's pool is among the pools together
pooled_some : (k m : ℕ) (tasks : ℕ → Option Task) → m < k → length (pool_in (tasks m)) ≤ pooled k tasks
pooled_some zero m tasks l = absurd (omega arith)
pooled_some (suc k) m tasks l = ⊎_elim
    (λ (q : m ≡ k). let here = ap (λ j. length (pool_in (tasks j))) q in omega arith)
    (λ (n : m ≡ k → ⊥). let others = pooled_some k m tasks (omega arith) in omega arith)
    (cases_eq m k)

sum_bounded : (n d : ℕ) (f : ℕ → ℕ) → ((c : ℕ) → f c ≤ 1) → ((c : ℕ) → c < d → f c ≡ 0) → sum_to n f ≤ n - d
sum_bounded zero d f most none = omega arith
sum_bounded (suc n) d f most none =
    let before = sum_bounded n d f most none in
    let here = most n in
    ⊎_elim (λ (l : n < d). omega (arith, none n l)) (λ (g : d ≤ n). omega arith) (cases_lt n d)

blueness_most : (x : Colour) → blueness x ≤ 1
blueness_most Blue = omega arith
blueness_most White = omega arith
blueness_most Grey = omega arith
blueness_most Black = omega arith

pub not_blue : (x : Colour) → ¬ (x ≡ Blue) → blueness x ≡ 0
not_blue x n = ⊎_elim (λ y. absurd (n y.0)) (λ z. z.1) (blue_or_not x)

pub is_blue : (x : Colour) → 0 < blueness x → x ≡ Blue
is_blue x l = ⊎_elim (λ y. y.0) (λ z. absurd (omega (arith, z.1))) (blue_or_not x)

-- the free list with a pool has no more members than there are cells outside the directory, of which none is free
pub members_fit : (s : State) → Account s → ((c : ℕ) → s.cells.size ≤ c → s.cells.colour c ≡ White) → ((c : ℕ) → c < s.directory → ¬ (s.cells.colour c ≡ Blue))
    → (m : ℕ) → m < 8 → length s.free.members + length (pool_in (s.tasks m)) ≤ s.cells.size - s.directory
members_fit s account outside used m l =
    let all = members s account outside in
    let here = pooled_some 8 m s.tasks l in
    let bound = sum_bounded s.cells.size s.directory (λ c. copies s.free.members c + copies_pooled 8 s.tasks c)
    (λ c. omega (arith, account c, blueness_most (s.cells.colour c)))
    (λ c k. account c ∙ not_blue (s.cells.colour c) (used c k)) in
    omega arith

-- where a cell outside the directory is not free, there is room for one member more
pub one_more_fits : (s : State) → Account s → ((c : ℕ) → s.cells.size ≤ c → s.cells.colour c ≡ White) → ((c : ℕ) → c < s.directory → ¬ (s.cells.colour c ≡ Blue))
    → (k : ℕ) → s.directory ≤ k → k < s.cells.size → ¬ (s.cells.colour k ≡ Blue) → length s.free.members + 1 ≤ s.cells.size - s.directory
one_more_fits s account outside used k far near free =
    let all = members s account outside in
    let bound = sum_bounded s.cells.size s.directory (λ c. one k c + (copies s.free.members c + copies_pooled 8 s.tasks c)) at_most_one none_in_directory in
    let split = sum_add s.cells.size (one k) (λ c. copies s.free.members c + copies_pooled 8 s.tasks c) in
    let single = sum_one s.cells.size k near in
    omega arith
  where
    at_most_one : (c : ℕ) → one k c + (copies s.free.members c + copies_pooled 8 s.tasks c) ≤ 1
    at_most_one c = ⊎_elim
        (λ (q : c ≡ k). let none = account c ∙ ap (λ j. blueness (s.cells.colour j)) q ∙ not_blue (s.cells.colour k) free in let here = one_at k c q in omega arith)
        (λ (n : c ≡ k → ⊥). let here = one_elsewhere k c n in omega (arith, account c, blueness_most (s.cells.colour c)))
        (cases_eq c k)

    none_in_directory : (c : ℕ) → c < s.directory → one k c + (copies s.free.members c + copies_pooled 8 s.tasks c) ≡ 0
    none_in_directory c l =
        let here = one_elsewhere k c (λ q. omega arith) in
        omega (arith, account c ∙ not_blue (s.cells.colour c) (used c l))
