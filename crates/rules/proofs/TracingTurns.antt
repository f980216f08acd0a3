-- The turns that blacken keep the invariant: a link followed from the hand, a directory cell, and a look at the cell at scanned.
use Rattle.std.proofs.Common.{◌≡◌, ℕ, ◌+◌, ◌<◌, ◌≤◌, Bool, true, false, ltb, ◌≢◌, ◌⊎◌, length, Some, None, Option, sym, refl, ap, ◌∙◌, subst, inl, inr, ⊎_elim, arith}
use Rattle.std.proofs.lemmas.Bool.{cases_eq, cases_lt, cases_Bool, cond-true, cond-false, lt-ltb, ltb-true}
use Rattle.cells.specs.declared.Colour.{Colour}
use Rattle.cells.specs.declared.Colour.TheVariants.{Blue, White, Grey, Black}
use Rattle.bags.specs.Holding.{has_member}
use Rattle.rules.specs.declared.Status.TheVariants.{Async}
use Rattle.rules.specs.declared.Stage.TheVariants.{Mark, Scan}
use Rattle.rules.specs.declared.Hand.{Hand}
use Rattle.rules.specs.State.{State, Outcome}
use Rattle.rules.specs.Greying.{is_grey}
use Rattle.rules.specs.Reach.{start, along}
use Rattle.rules.specs.Collecting.{blacken, blacken_if, next_hand, with_hand, with_next, with_looked, tracing, looking}
use Rattle.rules.proofs.Words.{Made, made_by, is_shaded, Kept, Used, directory, kept, Busy, Traces, in_hand, in_cache, InHand, Holding, ahead_of}
use Rattle.rules.proofs.Invariant.{Invariant}
use Rattle.rules.proofs.Marking.{WorksIn}
use Rattle.rules.proofs.GoingOn.{going, take_kept}
use Rattle.rules.proofs.Blackened.{nothing, blackened_by_rule, blackened_shaded, blackened_is_shaded}
use Rattle.rules.proofs.Blackening.{blackening_kept}
use Rattle.std.proofs.lemmas.Option.{same_Some}
use Rattle.rules.proofs.Touched.{no_hand}

-- with a cell in hand, what its next link names is blackened
module _ (s : State) (I : Invariant s) (was : WorksIn s.collector.stage) (h : Hand) (held : s.collector.hand ≡ Some h) where
  hand_cell : Kept s h.cell × (h.link < s.links)
  hand_cell = I.sweeps.in_hand h held

  abbrev target : Option ℕ
  target = s.cells.link h.cell h.link

  named_used : (c : ℕ) → target ≡ Some c → Used s c
  named_used c e = along (start (kept hand_cell.0)) (h.link, e)

  more_links : h.link + 1 < s.links → next_hand s.links h.cell h.link ≡ Some (record { cell = h.cell; link = h.link + 1 })
  more_links l = cond-true (ltb (h.link + 1) s.links) _ _ (lt-ltb (h.link + 1) s.links l)

  no_more_links : s.links ≤ h.link + 1 → next_hand s.links h.cell h.link ≡ None
  no_more_links l = ⊎_elim
      (λ (b : ltb (h.link + 1) s.links ≡ true). absurd (let t = ltb-true (h.link + 1) s.links b in omega arith))
      (λ (b : ltb (h.link + 1) s.links ≡ false). cond-false (ltb (h.link + 1) s.links) _ _ b)
      (cases_Bool (ltb (h.link + 1) s.links))

  -- the hand goes on at a later link of its cell
  later_held : {x j : ℕ} → x ≡ h.cell → h.link + 1 < s.links → h.link + 1 ≤ j → InHand (with_hand s (next_hand s.links h.cell h.link)) x j
  later_held e l g = ahead_of (more_links l ∙ ap (λ y. Some (record { cell = y; link = h.link + 1 })) (sym e)) g

  -- a link that leaves the hand is the one that was followed
  left_named : (x i c : ℕ) → InHand s x i → s.cells.link x i ≡ Some c → (target ≡ Some c) ⊎ InHand (with_hand s (next_hand s.links h.cell h.link)) x i
  left_named x i c (ahead_of {j} e l) names =
      let same : h ≡ record { cell = x; link = j } = same_Some _ _ (sym held ∙ e) in
      let cell : h.cell ≡ x = ap (λ (y : Hand). y.cell) same in
      let link : h.link ≡ j = ap (λ (y : Hand). y.link) same in
      ⊎_elim
      (λ (q : h.link ≡ i). inl (ap (λ y. s.cells.link y h.link) cell ∙ ap (s.cells.link x) q ∙ names))
      (λ (q : h.link ≡ i → ⊥). ⊎_elim
      (λ (m : h.link + 1 < s.links). inr (later_held (sym cell) m (omega arith)))
      (λ (m : s.links ≤ h.link + 1). let none = I.structure.memory.no_link x i (inr (omega arith)) in cc)
      (cases_lt (h.link + 1) s.links))
      (cases_eq h.link i)

  next_hand_kept : (g : Hand) → next_hand s.links h.cell h.link ≡ Some g → Kept s g.cell × (g.link < s.links)
  next_hand_kept g e = ⊎_elim
      (λ (l : h.link + 1 < s.links).
      let same : record { cell = h.cell; link = h.link + 1 } ≡ g = same_Some _ _ (sym (more_links l) ∙ e) in
      subst (λ (y : Hand). Kept s y.cell × (y.link < s.links)) same (hand_cell.0, l))
      (λ (l : s.links ≤ h.link + 1). let none = no_more_links l in cc)
      (cases_lt (h.link + 1) s.links)

  busy : Busy s
  busy = in_hand (λ e. cc)

  pub followed_kept : Invariant (with_hand (blacken_if s target) (next_hand s.links h.cell h.link))
  followed_kept = blackened_by_rule (λ t. Invariant (with_hand t (next_hand s.links h.cell h.link))) s target (λ v e. (I.safe v (named_used v e)).0)
      (λ colour cache unclean b. blackening_kept s I target colour cache unclean b s.collector.next s.collector.looked (next_hand s.links h.cell h.link) (record {
        was = was;
        used = named_used;
        marked = λ half c e. (I.second_half half).closed h.cell h.link c (inl hand_cell.0) e;
        hand_left = λ x j c a e. ⊎_elim inl (λ i. inr (moved unclean i)) (left_named x j c a e);
        hand_kept = next_hand_kept;
        next_left = λ e c l m. inr l;
        next_passed = λ e c l m. inl l;
        looked_left = λ e c p q l. inr l;
        looks = λ e u k q. let a = I.control.scan_looked e busy k q in (a.0, a.1, kept_still colour k (blackened_shaded b) a.2);
        traces_on = λ e c p u. inl busy;
      }))
    where
      moved : {x j : ℕ} (unclean : Bool) → InHand (with_hand s (next_hand s.links h.cell h.link)) x j
          → Holding (going s.collector unclean s.collector.next s.collector.looked (next_hand s.links h.cell h.link)) x j
      moved unclean (ahead_of e l) = ahead_of e l

      kept_still : (colour : ℕ → Colour) (k : ℕ) → ((c : ℕ) → (colour c ≡ s.cells.colour c) ⊎ ((target ≡ Some c) × (is_shaded (colour c) ≡ true))) → Kept s k → (is_shaded (colour k) ≡ true) × (¬ (Made s k))
      kept_still colour k shaded a = (⊎_elim (λ (e : colour k ≡ s.cells.colour k). ap is_shaded e ∙ a.0) (λ b. b.1) (shaded k), a.1)

-- while there is nothing to trace
module _ (s : State) (I : Invariant s) (free-hand : s.collector.hand ≡ None) (empty : has_member s.cache ≡ false) where
  pub no_members : length s.cache.members ≡ 0
  no_members = ⊎_elim
      (λ (l : 0 < length s.cache.members). let t = lt-ltb 0 (length s.cache.members) l in cc)
      (λ (l : length s.cache.members ≤ 0). omega arith)
      (cases_lt 0 (length s.cache.members))

  pub not_busy : ¬ (Busy s)
  not_busy (in_hand n) = n free-hand
  not_busy (in_cache l) = let none = no_members in omega arith

  -- the next directory cell is blackened
  pub directory_kept : s.collector.stage ≡ Mark → s.collector.next < s.directory → Invariant (with_next (blacken s s.collector.next) (s.collector.next + 1))
  directory_kept e near = blackened_by_rule (λ t. Invariant (with_next t (s.collector.next + 1))) s (Some s.collector.next) (λ v q. (I.safe v (in_directory v q)).0)
      (λ colour cache unclean b. blackening_kept s I (Some s.collector.next) colour cache unclean b (s.collector.next + 1) s.collector.looked s.collector.hand (record {
        was = inl e;
        used = in_directory;
        marked = λ half c q. (I.second_half half).directory c (near_cell c q);
        hand_left = λ x j c a q. absurd (no_hand free-hand a);
        hand_kept = λ h q. cc;
        next_left = λ m c l d. ⊎_elim (λ (q : s.collector.next ≡ c). inl (ap Some q)) (λ (n : s.collector.next ≡ c → ⊥). inr (omega arith)) (cases_eq s.collector.next c);
        next_passed = λ m c l d. ⊎_elim (λ (q : c < s.collector.next). inl q) (λ (q : s.collector.next ≤ c). inr (ap Some (let same : s.collector.next ≡ c = omega arith in same))) (cases_lt c s.collector.next);
        looked_left = λ m c p q l. inr l;
        looks = λ m u k q. cc;
        traces_on = λ m c p u. cc;
      }))
    where
      near_cell : (c : ℕ) → Some s.collector.next ≡ Some c → c < s.directory
      near_cell c q = let same : s.collector.next ≡ c = cc in subst (λ k. k < s.directory) same near

      in_directory : (c : ℕ) → Some s.collector.next ≡ Some c → Used s c
      in_directory c q = start (directory (near_cell c q))

  -- the cell at scanned is looked at, and blackened if it is Grey
  module _ (e : s.collector.stage ≡ Scan) (k : ℕ) (place : s.collector.scanned ≡ Some k) (inside : k < s.cells.size) where
    -- in Scan a cell being made is Black
    grey_not_made : s.cells.colour k ≡ Grey → ¬ (Made s k)
    grey_not_made g (made_by m a {t} p q) =
        let at = I.control.places.scan e in
        let async : t.status ≡ Async = ⊎_elim (λ (r : t.status ≡ s.collector.status). r ∙ at.0) (λ (r : t.status ≡ s.collector.phase). r ∙ at.1) (I.control.statuses m t p) in
        let black = I.new_cells.in_scan m k a t p q async e in
        cc

    grey_looked : s.cells.colour k ≡ Grey → Invariant (with_looked (blacken s k) true)
    grey_looked g = blackened_by_rule (λ t. Invariant (with_looked t true)) s (Some k) (λ v q. let same : k ≡ v = cc in subst (λ x. x < s.cells.size) same inside)
        (λ colour cache unclean b. blackening_kept s I (Some k) colour cache unclean b s.collector.next true s.collector.hand (record {
          was = inr e;
          used = λ c q. start (kept (kept_cell c q));
          marked = λ half c q. inl (kept_cell c q);
          hand_left = λ x j c a q. absurd (no_hand free-hand a);
          hand_kept = λ h q. cc;
          next_left = λ m c l d. inr l;
          next_passed = λ m c l d. inl l;
          looked_left = λ m c p q l. inl (ap Some (same_Some _ _ (sym place ∙ p)));
          looks = λ m u j q. let same : k ≡ j = same_Some _ _ (sym place ∙ q) in
              (subst (λ x. x < s.cells.size) same inside, refl, (blackened_is_shaded b j (ap Some same), subst (λ x. ¬ (Made s x)) same (grey_not_made g)));
          traces_on = λ m c p u. inr (ap Some (same_Some _ _ (sym place ∙ p)));
        }))
      where
        kept_cell : (c : ℕ) → Some k ≡ Some c → Kept s c
        kept_cell c q = let same : k ≡ c = cc in subst (Kept s) same (ap is_shaded g, grey_not_made g)

    still_idle : ¬ (Traces (going s.collector s.collector.dirty s.collector.next true s.collector.hand) s.cache)
    still_idle (in_hand n) = n free-hand
    still_idle (in_cache l) = let none = no_members in omega arith

    other_looked : s.cells.colour k ≢ Grey → Invariant (with_looked s true)
    other_looked n = blackening_kept s I None s.cells.colour s.cache s.collector.dirty nothing s.collector.next true s.collector.hand (record {
      was = inr e;
      used = λ c q. cc;
      marked = λ half c q. cc;
      hand_left = λ x j c a q. absurd (no_hand free-hand a);
      hand_kept = λ h q. cc;
      next_left = λ m c l d. inr l;
      next_passed = λ m c l d. inl l;
      looked_left = λ m c p q l. let same : k ≡ c = same_Some _ _ (sym place ∙ p) in absurd (n (ap s.cells.colour same ∙ q));
      looks = λ m u j q. absurd (still_idle u);
      traces_on = λ m c p u. absurd (still_idle u);
    })

    grey_or_not : (x : Colour) → ((x ≡ Grey) × (is_grey x ≡ true)) ⊎ ((x ≢ Grey) × (is_grey x ≡ false))
    grey_or_not Grey = inl (refl, refl)
    grey_or_not Blue = inr (λ q. cc, refl)
    grey_or_not White = inr (λ q. cc, refl)
    grey_or_not Black = inr (λ q. cc, refl)

    pub looking_kept : Invariant (looking s k)
    looking_kept = ⊎_elim
        (λ a. subst (λ t. Invariant (with_looked t true)) (sym (cond-true (is_grey (s.cells.colour k)) (blacken s k) s a.1)) (grey_looked a.0))
        (λ a. subst (λ t. Invariant (with_looked t true)) (sym (cond-false (is_grey (s.cells.colour k)) (blacken s k) s a.1)) (other_looked a.0))
        (grey_or_not (s.cells.colour k))

-- where there is something to trace, a turn of it; the others otherwise
pub tracing_kept : (s : State) (I : Invariant s) → WorksIn s.collector.stage → (others : Outcome)
    → (s.collector.hand ≡ None → has_member s.cache ≡ false → Invariant others.after) → Invariant (tracing s s.collector.hand others).after
tracing_kept s I was others f = by_hand s.collector.hand refl
  where
    by_hand : (h : Option Hand) → s.collector.hand ≡ h → Invariant (tracing s h others).after
    by_hand (Some h) e = followed_kept s I was h e
    by_hand None e = ⊎_elim
        (λ (m : has_member s.cache ≡ true). subst (λ (o : Outcome). Invariant o.after) (sym (cond-true (has_member s.cache) _ _ m)) (take_kept s I was e m))
        (λ (m : has_member s.cache ≡ false). subst (λ (o : Outcome). Invariant o.after) (sym (cond-false (has_member s.cache) _ _ m)) (f e m))
        (cases_Bool (has_member s.cache))
