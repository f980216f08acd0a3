-- What blackening does to the colours, the cache and dirty, in the four ways it can go.
use Rattle.std.proofs.Common.{◌≡◌, ℕ, ◌+◌, ◌<◌, Bool, true, false, eqb, ltb, ◌≢◌, ◌⊎◌, Some, None, Option, sym, refl, ap, ◌∙◌, subst, inl, inr, ⊎_elim, arith}
use Rattle.std.proofs.lemmas.Bool.Decides.{nat_tests}
use Rattle.std.proofs.lemmas.Bool.{cases_eq, cases_Bool, cond-true, cond-false, eq-eqb, lt-ltb}
use Rattle.cells.specs.declared.Colour.{Colour}
use Rattle.cells.specs.declared.Colour.TheVariants.{Blue, White, Grey, Black}
use Rattle.cells.specs.Memory.{at, coloured, recoloured}
use Rattle.bags.specs.Holding.{Hold, Fair, one, copies, has_room, holding, put_into}
use Rattle.rules.specs.State.{State, with_cells, with_cache, with_collector}
use Rattle.rules.specs.Greying.{is_black}
use Rattle.rules.specs.Changes.{with_dirty}
use Rattle.rules.specs.Collecting.{overflowed, blacken_if}
use Rattle.rules.proofs.Words.{is_shaded}
use Rattle.rules.proofs.Marking.{turned}
use Rattle.std.proofs.lemmas.Option.{same_Some}
use Rattle.rules.proofs.Slots.{at_other}
use Rattle.rules.proofs.Numbers.{one_at, one_elsewhere}

-- of nothing; of a cell that is Black; with a place in the cache; with none
pub data Blackened (s : State) : Option ℕ → (ℕ → Colour) → Hold → Bool → Type 0 where
  nothing : Blackened s None s.cells.colour s.cache s.collector.dirty
  stays : {v : ℕ} → s.cells.colour v ≡ Black → Blackened s (Some v) s.cells.colour s.cache s.collector.dirty
  joins : {v : ℕ} → s.cells.colour v ≢ Black → has_room s.cache ≡ true → Blackened s (Some v) (at v Black s.cells.colour) (put_into s.cache v) s.collector.dirty
  overflows : {v : ℕ} → s.cells.colour v ≢ Black → has_room s.cache ≡ false
      → Blackened s (Some v) (at v Grey s.cells.colour) s.cache (overflowed v s.collector.scanned s.collector.dirty)

pub is_black_lem : (x : Colour) → is_black x ≡ true → x ≡ Black
is_black_lem Black e = refl
is_black_lem Blue e = cc
is_black_lem White e = cc
is_black_lem Grey e = cc

is_not_black : (x : Colour) → is_black x ≡ false → x ≢ Black
is_not_black x e b = cc

-- what holds of every way holds of the blackening by its rule
pub blackened_by_rule : (P : State → Type 0) (s : State) (o : Option ℕ) → ((v : ℕ) → o ≡ Some v → v < s.cells.size)
    → ((colour : ℕ → Colour) (cache : Hold) (unclean : Bool) → Blackened s o colour cache unclean → P (turned s colour cache (with_dirty s.collector unclean)))
    → P (blacken_if s o)
blackened_by_rule P s None inside f = f _ _ _ nothing
blackened_by_rule P s (Some v) inside f = ⊎_elim
    (λ (b : is_black (s.cells.colour v) ≡ true). subst P (sym (cond-true (is_black (s.cells.colour v)) _ _ b)) (f _ _ _ (stays (is_black_lem _ b))))
    (λ (n : is_black (s.cells.colour v) ≡ false). subst P (sym (cond-false (is_black (s.cells.colour v)) _ _ n))
    (⊎_elim
    (λ (r : has_room s.cache ≡ true). subst P (sym (cond-true (has_room s.cache) _ _ r))
    (subst (λ x. P (with_cache (with_cells s x) (put_into s.cache v))) (sym (painted Black)) (f _ _ _ (joins (is_not_black _ n) r))))
    (λ (r : has_room s.cache ≡ false). subst P (sym (cond-false (has_room s.cache) _ _ r))
    (subst (λ x. P (with_collector (with_cells s x) (with_dirty s.collector (overflowed v s.collector.scanned s.collector.dirty)))) (sym (painted Grey)) (f _ _ _ (overflows (is_not_black _ n) r))))
    (cases_Bool (has_room s.cache))))
    (cases_Bool (is_black (s.cells.colour v)))
  where
    painted : (x : Colour) → coloured s.cells v x ≡ recoloured s.cells v x
    painted x = cond-true (ltb v s.cells.size) _ _ (lt-ltb v s.cells.size (inside v refl))

at_here : {A : Type 0} (i : ℕ) (x : A) (f : ℕ → A) (k : ℕ) → k ≡ i → at i x f k ≡ x
at_here i x f k e = cond-true (eqb k i) x (f k) (eq-eqb k i e)

put_there : (h : Hold) (v : ℕ) → has_room h ≡ true → put_into h v ≡ holding h (h.manner.added h.members v)
put_there h v r = cond-true (has_room h) _ _ r

put_copies : (h : Hold) (v c : ℕ) → Fair h.manner → has_room h ≡ true → copies (put_into h v).members c ≡ one v c + copies h.members c
put_copies h v c fair r = ap (λ (x : Hold). copies x.members c) (put_there h v r) ∙ fair.added_copies h.members v c

-- a cell whose colour changes is the blackened one, and is shaded
pub blackened_shaded : {s : State} {o : Option ℕ} {colour : ℕ → Colour} {cache : Hold} {unclean : Bool} → Blackened s o colour cache unclean
    → (c : ℕ) → (colour c ≡ s.cells.colour c) ⊎ ((o ≡ Some c) × (is_shaded (colour c) ≡ true))
blackened_shaded nothing c = inl refl
blackened_shaded (stays b) c = inl refl
blackened_shaded {s} (joins {v} n r) c = ⊎_elim
    (λ (e : c ≡ v). inr (ap Some (sym e), ap is_shaded (at_here v Black s.cells.colour c e)))
    (λ (d : c ≡ v → ⊥). inl (at_other v Black s.cells.colour c d))
    (cases_eq c v)
blackened_shaded {s} (overflows {v} n r) c = ⊎_elim
    (λ (e : c ≡ v). inr (ap Some (sym e), ap is_shaded (at_here v Grey s.cells.colour c e)))
    (λ (d : c ≡ v → ⊥). inl (at_other v Grey s.cells.colour c d))
    (cases_eq c v)

-- the blackened cell is shaded in any case
pub blackened_is_shaded : {s : State} {o : Option ℕ} {colour : ℕ → Colour} {cache : Hold} {unclean : Bool} → Blackened s o colour cache unclean
    → (c : ℕ) → o ≡ Some c → is_shaded (colour c) ≡ true
blackened_is_shaded nothing c e = cc
blackened_is_shaded {s} (stays {v} b) c e = ap (λ x. is_shaded (s.cells.colour x)) (sym (same_Some _ _ e)) ∙ ap is_shaded b
blackened_is_shaded {s} (joins {v} n r) c e = ap is_shaded (at_here v Black s.cells.colour c (sym (same_Some _ _ e)))
blackened_is_shaded {s} (overflows {v} n r) c e = ap is_shaded (at_here v Grey s.cells.colour c (sym (same_Some _ _ e)))

-- a cell that was not Black is Black and in the cache, or Grey for want of a place there
pub blackened_found : {s : State} {o : Option ℕ} {colour : ℕ → Colour} {cache : Hold} {unclean : Bool} → Blackened s o colour cache unclean → Fair s.cache.manner
    → (c : ℕ) → o ≡ Some c → s.cells.colour c ≢ Black
    → (0 < copies cache.members c) ⊎ ((colour c ≡ Grey) × (has_room s.cache ≡ false) × (unclean ≡ overflowed c s.collector.scanned s.collector.dirty))
blackened_found nothing fair c e d = cc
blackened_found {s} (stays b) fair c e d = absurd (d (ap s.cells.colour (sym (same_Some _ _ e)) ∙ b))
blackened_found {s} (joins {v} n r) fair c e d =
    let now = put_copies s.cache v c fair r in
    let here = one_at v c (sym (same_Some _ _ e)) in
    inl (omega arith)
blackened_found {s} (overflows {v} n r) fair c e d =
    inr (at_here v Grey s.cells.colour c (sym (same_Some _ _ e)), r, ap (λ x. overflowed x s.collector.scanned s.collector.dirty) (same_Some _ _ e))

-- what was in the cache still is, and else only the blackened cell is, which is Black
pub blackened_caches : {s : State} {o : Option ℕ} {colour : ℕ → Colour} {cache : Hold} {unclean : Bool} → Blackened s o colour cache unclean → Fair s.cache.manner
    → (c : ℕ) → 0 < copies s.cache.members c → 0 < copies cache.members c
blackened_caches nothing fair c l = l
blackened_caches (stays b) fair c l = l
blackened_caches {s} (joins {v} n r) fair c l = let now = put_copies s.cache v c fair r in omega arith
blackened_caches (overflows n r) fair c l = l

pub blackened_cached : {s : State} {o : Option ℕ} {colour : ℕ → Colour} {cache : Hold} {unclean : Bool} → Blackened s o colour cache unclean → Fair s.cache.manner
    → (c : ℕ) → 0 < copies cache.members c → (0 < copies s.cache.members c) ⊎ (o ≡ Some c)
blackened_cached nothing fair c l = inl l
blackened_cached (stays b) fair c l = inl l
blackened_cached {s} (joins {v} n r) fair c l = ⊎_elim
    (λ (e : c ≡ v). inr (ap Some (sym e)))
    (λ (d : c ≡ v → ⊥). inl (let now = put_copies s.cache v c fair r in let none = one_elsewhere v c d in omega arith))
    (cases_eq c v)
blackened_cached (overflows n r) fair c l = inl l

pub blackened_manner : {s : State} {o : Option ℕ} {colour : ℕ → Colour} {cache : Hold} {unclean : Bool} → Blackened s o colour cache unclean
    → (cache.manner ≡ s.cache.manner) × (cache.room ≡ s.cache.room)
blackened_manner nothing = (refl, refl)
blackened_manner (stays b) = (refl, refl)
blackened_manner {s} (joins {v} n r) = (ap (λ (x : Hold). x.manner) (put_there s.cache v r), ap (λ (x : Hold). x.room) (put_there s.cache v r))
blackened_manner (overflows n r) = (refl, refl)

-- a Black cell outside the cache was Black before
pub blackened_black : {s : State} {o : Option ℕ} {colour : ℕ → Colour} {cache : Hold} {unclean : Bool} → Blackened s o colour cache unclean → Fair s.cache.manner
    → (c : ℕ) → colour c ≡ Black → ¬ (0 < copies cache.members c) → s.cells.colour c ≡ Black
blackened_black nothing fair c b n = b
blackened_black (stays d) fair c b n = b
blackened_black {s} (joins {v} d r) fair c b n = ⊎_elim
    (λ (e : c ≡ v). absurd (n (let now = put_copies s.cache v c fair r in let here = one_at v c e in omega arith)))
    (λ (e : c ≡ v → ⊥). sym (at_other v Black s.cells.colour c e) ∙ b)
    (cases_eq c v)
blackened_black {s} (overflows {v} d r) fair c b n = ⊎_elim
    (λ (e : c ≡ v). let grey = at_here v Grey s.cells.colour c e in cc)
    (λ (e : c ≡ v → ⊥). sym (at_other v Grey s.cells.colour c e) ∙ b)
    (cases_eq c v)

-- dirty stays yes, and becomes yes for a cell behind the scan
pub overflowed_dirty : (v : ℕ) (at_scan : Option ℕ) (d : Bool) → d ≡ true → overflowed v at_scan d ≡ true
overflowed_dirty v None d e = e
overflowed_dirty v (Some k) d e = grind (arith, nat_tests)

pub overflowed_behind : (v k : ℕ) (d : Bool) → v < k → overflowed v (Some k) d ≡ true
overflowed_behind v k d l = grind (arith, nat_tests)

pub blackened_dirty : {s : State} {o : Option ℕ} {colour : ℕ → Colour} {cache : Hold} {unclean : Bool} → Blackened s o colour cache unclean
    → s.collector.dirty ≡ true → unclean ≡ true
blackened_dirty nothing e = e
blackened_dirty (stays b) e = e
blackened_dirty (joins n r) e = e
blackened_dirty {s} (overflows {v} n r) e = overflowed_dirty v s.collector.scanned s.collector.dirty e
