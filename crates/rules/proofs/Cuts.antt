-- One more field may count as cut where what it names is Black or a start of the marking: the same cells are marked.
use Rattle.std.proofs.Common.{◌≡◌, ℕ, Bool, true, false, ◌&&◌, ◌||◌, eqb, ◌≢◌, ◌⊎◌, Some, sym, refl, ap, ◌∙◌, subst, inl, inr, ⊎_elim}
use Rattle.std.proofs.lemmas.Bool.{cases_Bool, and_parts, and_from, or_cases, or_parts, or_left, or_right, eqb-true, eq-eqb}
use Rattle.cells.specs.declared.Colour.TheVariants.{Blue, Black}
use Rattle.rules.specs.State.{State}
use Rattle.rules.specs.Reach.{start, along}
use Rattle.rules.proofs.Ways.{lead_into}
use Rattle.rules.proofs.Words.{is_shaded, Made, Used, SecondHalf, Pending, Follows, TracedRoot, pending, by_hand, Traced, Marked}
use Rattle.rules.proofs.Invariant.{MarksSecond, Invariant}
use Rattle.rules.proofs.Greyings.{black_or_not}

-- the cut fields, and (x, i)
abbrev pub cut_also : ℕ → ℕ → (ℕ → ℕ → Bool) → ℕ → ℕ → Bool
cut_also x i Cut a j = (eqb a x && eqb j i) || Cut a j

module _ (s : State) (I : Invariant s) (x i : ℕ) (used : Used s x)
    (starts : SecondHalf s → (c : ℕ) → I.Cut x i ≡ false → s.cells.link x i ≡ Some c → s.cells.colour c ≢ Black → Pending s c) where
  abbrev Cut' : ℕ → ℕ → Bool
  Cut' = cut_also x i I.Cut

  cut_here : Cut' x i ≡ true
  cut_here = or_left (eqb x x && eqb i i) (I.Cut x i) (and_from (eqb x x) (eqb i i) (eq-eqb x x refl) (eq-eqb i i refl))

  cut_on : (a j : ℕ) → I.Cut a j ≡ true → Cut' a j ≡ true
  cut_on a j e = or_right (eqb a x && eqb j i) (I.Cut a j) e

  cut_back : (a j : ℕ) → Cut' a j ≡ true → ((a ≡ x) × (j ≡ i)) ⊎ (I.Cut a j ≡ true)
  cut_back a j e = ⊎_elim
      (λ (h : (eqb a x && eqb j i) ≡ true). let p = and_parts (eqb a x) (eqb j i) h in inl (eqb-true a x p.0, eqb-true j i p.1))
      (λ (h : I.Cut a j ≡ true). inr h)
      (or_cases (eqb a x && eqb j i) (I.Cut a j) e)

  follows_back : {a c : ℕ} → Follows s Cut' a c → Follows s I.Cut a c
  follows_back {a} {c} w = record { link = w.link; names = w.names; uncut = (or_parts (eqb a x && eqb w.link i) (I.Cut a w.link) w.uncut).1; not_black = w.not_black; not_at_scan = w.not_at_scan }

  mark_back : {c : ℕ} → Marked s Cut' c → Marked s I.Cut c
  unfolding follows_back
  mark_back (inl k) = inl k
  mark_back (inr t) = inr (lead_into roots (λ a c w p. along p (follows_back w)) t)
    where
      roots : (c : ℕ) → TracedRoot s Cut' c → Traced s I.Cut c
      roots c (pending p) = start (pending p)
      roots c (by_hand a w h) = start (by_hand a (follows_back w) h)

  module _ (half : SecondHalf s) where
    -- a followed field is uncut still, or leads to a start
    follows_on : (a c : ℕ) (w : Follows s I.Cut a c) → (Cut' a w.link ≡ false) ⊎ Pending s c
    follows_on a c w = ⊎_elim
        (λ (cut : Cut' a w.link ≡ true). ⊎_elim
        (λ (here : (a ≡ x) × (w.link ≡ i)).
        let same : I.Cut a w.link ≡ I.Cut x i = ap (λ k. I.Cut k w.link) here.0 ∙ ap (I.Cut x) here.1 in
        let names : s.cells.link a w.link ≡ s.cells.link x i = ap (λ k. s.cells.link k w.link) here.0 ∙ ap (s.cells.link x) here.1 in
        inr (starts half c (sym same ∙ w.uncut) (sym names ∙ w.names) w.not_black))
        (λ (was : I.Cut a w.link ≡ true). let e = w.uncut in cc)
        (cut_back a w.link cut))
        (λ (uncut : Cut' a w.link ≡ false). inl uncut)
        (cases_Bool (Cut' a w.link))

    recut : {a c : ℕ} (w : Follows s I.Cut a c) → Cut' a w.link ≡ false → Follows s Cut' a c
    recut w e = record { link = w.link; names = w.names; uncut = e; not_black = w.not_black; not_at_scan = w.not_at_scan }

    mark_on : {c : ℕ} → Marked s I.Cut c → Marked s Cut' c
    unfolding recut
    mark_on (inl k) = inl k
    mark_on (inr t) = inr (lead_into roots edges t)
      where
        roots : (c : ℕ) → TracedRoot s I.Cut c → Traced s Cut' c
        roots c (pending p) = start (pending p)
        roots c (by_hand a w h) = ⊎_elim
            (λ (e : Cut' a w.link ≡ false). start (by_hand a (recut w e) h))
            (λ (p : Pending s c). start (pending p))
            (follows_on a c w)

        edges : (a c : ℕ) → Follows s I.Cut a c → Traced s Cut' a → Traced s Cut' c
        edges a c w p = ⊎_elim
            (λ (e : Cut' a w.link ≡ false). along p (recut w e))
            (λ (h : Pending s c). start (pending h))
            (follows_on a c w)

    -- what the field names is kept, or a start, or was marked already
    named_here : (c : ℕ) → s.cells.link x i ≡ Some c → Marked s Cut' c
    named_here c e = ⊎_elim
        (λ (was : I.Cut x i ≡ true). mark_on ((I.second_half half).cut_names x i c was e))
        (λ (new : I.Cut x i ≡ false). ⊎_elim
        (λ (b : s.cells.colour c ≡ Black). inl (ap is_shaded b, (I.safe c (along used (i, e))).2))
        (λ (n : s.cells.colour c ≢ Black). inr (start (pending (starts half c new e n))))
        (black_or_not (s.cells.colour c)))
        (cases_Bool (I.Cut x i))

    still_second : MarksSecond s Cut'
    still_second =
        let M = I.second_half half in
        record {
          closed = λ a j c k e. mark_on (M.closed a j c (mark_back k) e);
          registers = λ k j c t p g q. mark_on (M.registers k j c t p g q);
          filled = λ k a j c b t p g q e. mark_on (M.filled k a j c b t p g q e);
          directory = λ c l. mark_on (M.directory c l);
          cut_names = λ a j c k e. ⊎_elim
              (λ (here : (a ≡ x) × (j ≡ i)). named_here c (ap (s.cells.link x) (sym here.1) ∙ ap (λ y. s.cells.link y j) (sym here.0) ∙ e))
              (λ (was : I.Cut a j ≡ true). mark_on (M.cut_names a j c was e))
              (cut_back a j k);
          cut_cell = λ a j k. ⊎_elim
              (λ (here : (a ≡ x) × (j ≡ i)). subst (λ y. (s.cells.colour y ≢ Blue) × (¬ (Made s y))) (sym here.0) ((I.safe x used).1, (I.safe x used).2))
              (λ (was : I.Cut a j ≡ true). M.cut_cell a j was)
              (cut_back a j k);
          sync_cut = λ k a j y step t p q g. cut_on a j (M.sync_cut k a j y step t p q g);
          store_cut = λ k a j y t p q. cut_on a j (M.store_cut k a j y t p q);
          warn_cut = λ k a j old y t p q. ⊎_elim (λ e. inl (cut_on a j e)) (λ e. inr e) (M.warn_cut k a j old y t p q);
        }

  pub cut_turn : (J : Invariant s) × (J.Cut x i ≡ true)
  cut_turn = (
    record {
      structure = I.structure;
      control = I.control;
      works = I.works;
      safe = I.safe;
      new_cells = I.new_cells;
      sweeps = I.sweeps;
      first_half = I.first_half;
      Cut = Cut';
      second_half = still_second;
    },
    cut_here,
  )
