-- Blackening a cell that can be touched and is marked keeps the invariant, while hand, next directory cell and looked-at mark move on
-- past that cell only.
use Rattle.std.proofs.Common.{◌≡◌, ℕ, ◌<◌, ◌≤◌, Bool, true, false, ◌≢◌, ◌⊎◌, length, Some, None, Option, sym, ap, ◌∙◌, inl, inr, ⊎_elim, arith}
use Rattle.std.proofs.lemmas.Bool.{cases_eq, cases_lt, lt-ltb}
use Rattle.cells.specs.declared.Colour.{Colour}
use Rattle.cells.specs.declared.Colour.TheVariants.{Grey, Black}
use Rattle.bags.specs.Holding.{Hold, Fair, copies, has_room}
use Rattle.rules.specs.declared.Stage.TheVariants.{Mark, Scan}
use Rattle.rules.specs.declared.Hand.{Hand}
use Rattle.rules.specs.State.{State}
use Rattle.rules.specs.Reach.{start, along}
use Rattle.rules.specs.Collecting.{overflowed}
use Rattle.rules.proofs.Ways.{lead_into}
use Rattle.rules.proofs.Words.{is_shaded, Shaded, Kept, Used, Busy, in_cache, InHand, Pending, cached, grey_in_mark, in_directory, ahead, at_scan, dirty, Follows, TracedRoot, pending, by_hand, Traced, Marked, FirstHalf, SecondHalf}
use Rattle.rules.proofs.Invariant.{Invariant}
use Rattle.rules.proofs.Touched.{in_hand_or_not}
use Rattle.rules.proofs.Marking.{turned, WorksIn, shaded_on, kept_on}
use Rattle.rules.proofs.GoingOn.{going, goes_on_kept}
use Rattle.rules.proofs.Blackened.{Blackened, blackened_shaded, blackened_is_shaded, blackened_found, blackened_caches, blackened_cached, blackened_manner, blackened_black, blackened_dirty, overflowed_behind}
use Rattle.std.proofs.lemmas.Option.{same_Some}

is_it : (o : Option ℕ) (c : ℕ) → (o ≡ Some c) ⊎ (¬ (o ≡ Some c))
is_it None c = inr (λ e. cc)
is_it (Some v) c = ⊎_elim
    (λ (e : v ≡ c). inl (ap Some e))
    (λ (n : v ≡ c → ⊥). inr (λ e. n (same_Some _ _ e)))
    (cases_eq v c)

module _ (s : State) (I : Invariant s) (o : Option ℕ) (colour' : ℕ → Colour) (cache' : Hold) (dirty' : Bool) (b : Blackened s o colour' cache' dirty')
    (next' : ℕ) (looked' : Bool) (hand' : Option Hand) where
  abbrev s' : State
  s' = turned s colour' cache' (going s.collector dirty' next' looked' hand')

  -- what moves on does so past the blackened cell only
  pub record MovesOn : Type 0 where
    pub was : WorksIn s.collector.stage
    pub used : (c : ℕ) → o ≡ Some c → Used s c
    pub marked : SecondHalf s → (c : ℕ) → o ≡ Some c → Marked s I.Cut c
    pub hand_left : (x j c : ℕ) → InHand s x j → s.cells.link x j ≡ Some c → (o ≡ Some c) ⊎ InHand s' x j
    pub hand_kept : (h : Hand) → hand' ≡ Some h → Kept s h.cell × (h.link < s.links)
    pub next_left : s.collector.stage ≡ Mark → (c : ℕ) → s.collector.next ≤ c → c < s.directory → (o ≡ Some c) ⊎ (next' ≤ c)
    pub next_passed : s.collector.stage ≡ Mark → (c : ℕ) → c < next' → c < s.directory → (c < s.collector.next) ⊎ (o ≡ Some c)
    pub looked_left : s.collector.stage ≡ Scan → (c : ℕ) → s.collector.scanned ≡ Some c → s.cells.colour c ≡ Grey → s.collector.looked ≡ false → (o ≡ Some c) ⊎ (looked' ≡ false)
    pub looks : s.collector.stage ≡ Scan → Busy s' → (k : ℕ) → s.collector.scanned ≡ Some k → (k < s.cells.size) × (looked' ≡ true) × Kept s' k
    pub traces_on : s.collector.stage ≡ Scan → (c : ℕ) → s.collector.scanned ≡ Some c → Busy s' → Busy s ⊎ (o ≡ Some c)

  module _ (g : MovesOn) where
    fair : Fair s.cache.manner
    fair = I.structure.cache_fair

    shades : (c : ℕ) → (colour' c ≡ s.cells.colour c) ⊎ (Used s c × (is_shaded (colour' c) ≡ true))
    shades c = ⊎_elim inl (λ a. inr (g.used c a.0, a.1)) (blackened_shaded b c)

    same_elsewhere : (c : ℕ) → ¬ (o ≡ Some c) → colour' c ≡ s.cells.colour c
    same_elsewhere c n = ⊎_elim (λ e. e) (λ a. absurd (n a.0)) (blackened_shaded b c)

    keep_on : {c : ℕ} → Kept s c → Kept s' c
    keep_on = kept_on s I colour' cache' (going s.collector dirty' next' looked' hand') shades

    shade_on : (c : ℕ) → Shaded s c → Shaded s' c
    shade_on = shaded_on s I colour' cache' (going s.collector dirty' next' looked' hand') shades

    blackened_kept_now : (c : ℕ) → o ≡ Some c → Kept s' c
    blackened_kept_now c e = (blackened_is_shaded b c e, (I.safe c (g.used c e)).2)

    -- a cache without a place is not empty, so there is something to trace
    full_busy : has_room s.cache ≡ false → Busy s
    full_busy f = in_cache (⊎_elim
        (λ (l : length s.cache.members < s.cache.room). let t = lt-ltb (length s.cache.members) s.cache.room l in cc)
        (λ (l : s.cache.room ≤ length s.cache.members). omega (arith, I.structure.cache_room))
        (cases_lt (length s.cache.members) s.cache.room))

    -- the blackened cell is still to be traced from, unless it was Black, or is the looked-at cell at scanned
    found : (c : ℕ) → o ≡ Some c → s.cells.colour c ≢ Black → ¬ ((s.collector.stage ≡ Scan) × (s.collector.scanned ≡ Some c) × Busy s) → Pending s' c
    found c e n apart = ⊎_elim
        (λ l. cached l)
        (λ (a : (colour' c ≡ Grey) × (has_room s.cache ≡ false) × (dirty' ≡ overflowed c s.collector.scanned s.collector.dirty)). ⊎_elim
        (λ m. grey_in_mark m (blackened_kept_now c e) a.0)
        (λ (m : s.collector.stage ≡ Scan).
        let place = I.control.places.scan_place m in
        let k = place.0 in
        let at-k = place.1.0 in
        ⊎_elim
        (λ (l : c < k). dirty m (a.2 ∙ ap (λ p. overflowed c p s.collector.dirty) at-k ∙ overflowed_behind c k s.collector.dirty l) (blackened_kept_now c e) a.0)
        (λ (l : k ≤ c). ⊎_elim
        (λ (q : k ≡ c). absurd (apart (m, at-k ∙ ap Some q, full_busy a.1)))
        (λ (q : k ≡ c → ⊥). ahead m at-k (omega arith) (blackened_kept_now c e) a.0)
        (cases_eq k c))
        (cases_lt c k))
        g.was)
        (blackened_found b fair c e n)

    grey_not_black : (c : ℕ) → s.cells.colour c ≡ Grey → s.cells.colour c ≢ Black
    grey_not_black c e q = cc

    mark_not_scan : {A : Type 0} → s.collector.stage ≡ Mark → s.collector.stage ≡ Scan → A
    mark_not_scan e q = cc

    pending_on : (c : ℕ) → Pending s c → Pending s' c
    pending_on c (cached l) = cached (blackened_caches b fair c l)
    pending_on c (grey_in_mark e k q) = ⊎_elim
        (λ (h : o ≡ Some c). found c h (grey_not_black c q) (λ a. mark_not_scan e a.0))
        (λ n. grey_in_mark e (keep_on k) (same_elsewhere c n ∙ q))
        (is_it o c)
    pending_on c (in_directory e l h n) = ⊎_elim
        (λ (i : o ≡ Some c). found c i n (λ a. mark_not_scan e a.0))
        (λ i. ⊎_elim (λ j. absurd (i j)) (λ p. in_directory e p h (λ q. n (sym (same_elsewhere c i) ∙ q))) (g.next_left e c l h))
        (is_it o c)
    pending_on c (ahead {k} e p l was_kept q) = ⊎_elim
        (λ (h : o ≡ Some c). found c h (grey_not_black c q) (λ a. let same : k ≡ c = same_Some _ _ (sym p ∙ a.1) in omega arith))
        (λ n. ahead e p l (keep_on was_kept) (same_elsewhere c n ∙ q))
        (is_it o c)
    pending_on c (at_scan e p l k q) = ⊎_elim
        (λ (h : o ≡ Some c). found c h (grey_not_black c q) (λ a. let seen = (I.control.scan_looked e a.2 c p).1 in cc))
        (λ n. ⊎_elim (λ i. absurd (n i)) (λ r. at_scan e p r (keep_on k) (same_elsewhere c n ∙ q)) (g.looked_left e c p q l))
        (is_it o c)
    pending_on c (dirty e p k q) = ⊎_elim
        (λ (h : o ≡ Some c). ⊎_elim
        (λ l. cached l)
        (λ (a : (colour' c ≡ Grey) × (has_room s.cache ≡ false) × (dirty' ≡ overflowed c s.collector.scanned s.collector.dirty)). dirty e (blackened_dirty b p) (keep_on k) a.0)
        (blackened_found b fair c h (grey_not_black c q)))
        (λ n. dirty e (blackened_dirty b p) (keep_on k) (same_elsewhere c n ∙ q))
        (is_it o c)

    -- a followed field still leads where it led, or the blackened cell is pending
    module _ (x c : ℕ) (f : Follows s I.Cut x c) (n : ¬ (o ≡ Some c)) where
      abbrev follows_on : Follows s' I.Cut x c
      follows_on = record {
        link = f.link;
        names = f.names;
        uncut = f.uncut;
        not_black = λ q. f.not_black (sym (same_elsewhere c n) ∙ q);
        not_at_scan = λ a. ⊎_elim (λ u. f.not_at_scan (a.0, a.1, u)) n (g.traces_on a.0 c a.1 a.2);
      }

    found_by : (x c : ℕ) → Follows s I.Cut x c → o ≡ Some c → Traced s' I.Cut c
    found_by x c f e = start (pending (found c e f.not_black f.not_at_scan))

    root_on : (c : ℕ) → TracedRoot s I.Cut c → Traced s' I.Cut c
    root_on c (pending p) = start (pending (pending_on c p))
    root_on c (by_hand x f h) = ⊎_elim
        (λ (e : o ≡ Some c). found_by x c f e)
        (λ n. ⊎_elim (λ e. absurd (n e)) (λ i. start (by_hand x (follows_on x c f n) i)) (g.hand_left x f.link c h f.names))
        (is_it o c)

    edge_on : (x c : ℕ) → Follows s I.Cut x c → Traced s' I.Cut x → Traced s' I.Cut c
    edge_on x c f t = ⊎_elim (λ (e : o ≡ Some c). found_by x c f e) (λ n. along t (follows_on x c f n)) (is_it o c)

    -- in the first half a Black cell whose link leaves the hand names the blackened cell
    names_shaded : FirstHalf s → (x i c : ℕ) → Kept s' x → colour' x ≡ Black → ¬ (0 < copies cache'.members x) → ¬ (InHand s' x i) → s.cells.link x i ≡ Some c → Shaded s' c
    names_shaded h x i c k q n a e = ⊎_elim
        (λ (held : InHand s x i). ⊎_elim (λ (j : o ≡ Some c). blackened_is_shaded b c j) (λ j. absurd (a j)) (g.hand_left x i c held e))
        (λ (free : ¬ (InHand s x i)).
        let was-black = blackened_black b fair x q n in
        shade_on c ((I.first_half h).black_to_shaded x i c (ap is_shaded was-black, k.1) was-black (λ l. n (blackened_caches b fair x l)) free e))
        (in_hand_or_not s.collector x i)

    pub blackening_kept : Invariant s'
    blackening_kept = goes_on_kept s I colour' cache' dirty' next' looked' hand' (record {
      was = g.was;
      shades = shades;
      marks = λ h c. ⊎_elim inl (λ a. inr (g.marked h c a.0)) (blackened_shaded b c);
      manner = (blackened_manner b).0;
      room = (blackened_manner b).1;
      looks = g.looks;
      cached_kept = λ c l. ⊎_elim (λ m. keep_on (I.sweeps.cached c m)) (λ e. blackened_kept_now c e) (blackened_cached b fair c l);
      hand_kept = λ h e. let a = g.hand_kept h e in (keep_on a.0, a.1);
      shaded_directory = λ e c l d. ⊎_elim (λ m. shade_on c (I.sweeps.directory e c m d)) (λ i. blackened_is_shaded b c i) (g.next_passed e c l d);
      black_to_shaded = names_shaded;
      traced_on = λ h c t. inr (lead_into root_on edge_on t);
    })
