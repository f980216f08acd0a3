-- The turns that carry a change on keep the invariant: the grey of its new value, its warning, and its store.
use Rattle.std.proofs.Common.{◌≡◌, ℕ, Bool, true, false, leb, ◌≢◌, Some, None, Option, sym, ap, ◌∙◌, subst, inl, ⊎_elim}
use Rattle.std.proofs.lemmas.Bool.{cases_Bool, cond-true, leb-false, or_left, or_right}
use Rattle.cells.specs.declared.Colour.{Colour}
use Rattle.cells.specs.declared.Colour.TheVariants.{Grey, Black}
use Rattle.cells.specs.Memory.{Cells, settable, relinked, linked}
use Rattle.rules.specs.declared.Step.{Step}
use Rattle.rules.specs.declared.Step.TheVariants.{Grey as GreyStep, Warn, Store}
use Rattle.rules.specs.declared.Work.{Work}
use Rattle.rules.specs.declared.Work.TheVariants.{Change, Making}
use Rattle.rules.specs.State.{Task, State, with_cells, with_collector, with_task, with_work, in_slot}
use Rattle.rules.specs.Greying.{greyed_if}
use Rattle.rules.specs.Changes.{warned, with_dirty, stepping}
use Rattle.rules.specs.Reach.{start, along}
use Rattle.rules.proofs.Words.{is_shaded, Shaded, Kept, Used, register, SecondHalf, mark, scan, Pending, grey_in_mark, ahead, dirty}
use Rattle.rules.proofs.Invariant.{Invariant}
use Rattle.rules.proofs.Cuts.{cut_turn}
use Rattle.rules.proofs.Halves.{second_sync2, second_in_mark}
use Rattle.rules.proofs.Shading.{greyed_if_shades, greyed_if_turn}
use Rattle.rules.proofs.Retasked.{ChangeFits, retasked_turn}
use Rattle.rules.proofs.Warnings.{warned_turn}
use Rattle.rules.proofs.Stores.{takes, stored_turn}
use Rattle.rules.proofs.Greyings.{shaded_colour}

pub shaded_grey : (k : Colour) → is_shaded k ≡ true → k ≢ Black → k ≡ Grey
shaded_grey k h n = ⊎_elim (λ g. g) (λ b. absurd (n b)) (shaded_colour k h)

module _ (s : State) (I : Invariant s) (m : ℕ) (t : Task) (present : s.tasks m ≡ Some t) (x i : ℕ) (y : Option ℕ) where
  -- the slot's task with other work, as the rules write it
  rewritten : (w : Option Work) → in_slot (λ u. with_work u w) (s.tasks m) ≡ Some (with_work t w)
  rewritten w = ap (in_slot (λ u. with_work u w)) present

  module _ (step : Step) (work : t.work ≡ Some (Change x i y step)) where
    no_making : (k : ℕ) (a : Bool) → t.work ≡ Some (Making k a) → ⊥
    no_making k a e = cc

    value_held : (c : ℕ) → y ≡ Some c → (j : ℕ) × (t.registers j ≡ Some c)
    value_held c e = I.works.value_held m x i c step t present (work ∙ ap (λ v. Some (Change x i v step)) e)

    used_value : (c : ℕ) → y ≡ Some c → Used s c
    used_value c e = let h = value_held c e in start (register m h.0 present h.1)

    used_cell : Used s x
    used_cell = let h = I.works.cell_held m x i y step t present work in start (register m h.0 present h.1)

  grey_carried : t.work ≡ Some (Change x i y GreyStep) → Invariant (stepping s m x i y GreyStep).after
  grey_carried work =
      let late = I.works.grey_step m x i y t present work in
      let J = greyed_if_turn s I y (used_value GreyStep work) (λ h c e. inl (second_in_mark s I m t present h late)) in
      let fits : ChangeFits (with_cells s (greyed_if s.cells y)) J t.registers t.status x i y Store = record {
        cell_held = I.works.cell_held m x i y GreyStep t present work;
        value_held = value_held GreyStep work;
        link_there = I.works.link_there m x i y GreyStep t present work;
        grey_step = λ e. cc;
        warn_step = λ old e. cc;
        new_value = λ e n c q. let a = I.safe c (used_value GreyStep work c q) in greyed_if_shades s.cells y c q a.0 a.1;
        changed_link = λ h g c e. (J.first_half h).changed_link m x i c y GreyStep t present work g e;
        sync_cut = λ h g. (J.second_half h).sync_cut m x i y GreyStep t present work g;
        store_cut = λ h e. (J.second_half h).sync_cut m x i y GreyStep t present work (second_sync2 s I m t present h late);
        warn_cut = λ h old e. cc;
      } in
      subst (λ o. Invariant (with_cells (with_task s m o) (greyed_if s.cells y))) (sym (rewritten (Some (Change x i y Store))))
      (retasked_turn (with_cells s (greyed_if s.cells y)) J m t present (no_making GreyStep work) t.status (Some (Change x i y Store))
      (I.control.statuses m t present) fits (λ h g j c e. (J.second_half h).registers m j c t present g e))

  warn_carried : (old : ℕ) → t.work ≡ Some (Change x i y (Warn old)) → Invariant (stepping s m x i y (Warn old)).after
  warn_carried old work =
      let prompt = I.works.warn_step m x i old y t present work in
      let cut = cut_turn s₁ J x i (start (register m held.0 present held.1)) starts in
      let K = cut.0 in
      let fits : ChangeFits s₁ K t.registers t.status x i y Store = record {
        cell_held = held;
        value_held = value_held (Warn old) work;
        link_there = I.works.link_there m x i y (Warn old) t present work;
        grey_step = λ e. cc;
        warn_step = λ o e. cc;
        new_value = λ e n c q. absurd (n prompt);
        changed_link = λ h g c e. cc;
        sync_cut = λ h g. cut.1;
        store_cut = λ h e. cut.1;
        warn_cut = λ h o e. inl cut.1;
      } in
      subst (λ o. Invariant (with_collector (with_task s m o) (with_dirty s.collector again))) (sym (rewritten (Some (Change x i y Store))))
      (retasked_turn s₁ K m t present (no_making (Warn old) work) t.status (Some (Change x i y Store))
      (I.control.statuses m t present) fits (λ h g j c e. (K.second_half h).registers m j c t present g e))
    where
      again : Bool
      again = warned old s.collector.scanned s.collector.dirty

      s₁ : State
      s₁ = with_collector s (with_dirty s.collector again)

      held : (j : ℕ) × (t.registers j ≡ Some x)
      held = I.works.cell_held m x i y (Warn old) t present work

      warned_stays : (p : Option ℕ) (b : Bool) → b ≡ true → warned old p b ≡ true
      warned_stays None b e = e
      warned_stays (Some k) b e = or_right (leb old k) b e

      J : Invariant s₁
      J = warned_turn s I again (warned_stays s.collector.scanned s.collector.dirty)

      -- the old value, while it is there still, is Black or now a start
      start_of : SecondHalf s₁ → Kept s₁ old → s.cells.colour old ≡ Grey → Pending s₁ old
      start_of (mark e n) k g = grey_in_mark e k g
      start_of (scan e) k g =
          let place = I.control.places.scan_place e in
          let at = place.1.0 in
          ⊎_elim
          (λ (p : leb old place.0 ≡ true). dirty e (ap (λ q. warned old q s.collector.dirty) at ∙ or_left (leb old place.0) s.collector.dirty p) k g)
          (λ (p : leb old place.0 ≡ false). ahead e at (leb-false old place.0 p) k g)
          (cases_Bool (leb old place.0))

      starts : SecondHalf s₁ → (c : ℕ) → J.Cut x i ≡ false → s.cells.link x i ≡ Some c → s.cells.colour c ≢ Black → Pending s₁ c
      starts h c uncut e n = ⊎_elim
          (λ (was : J.Cut x i ≡ true). cc)
          (λ (r : (s.cells.link x i ≡ Some old) × Shaded s old).
          let a = r.0 in
          let same : old ≡ c = cc in
          let k : Kept s₁ old = (r.1, (I.safe old (along (used_cell (Warn old) work) (i, r.0))).2) in
          subst (Pending s₁) same (start_of h k (shaded_grey (s.cells.colour old) r.1 (λ b. n (ap s.cells.colour (sym same) ∙ b)))))
          ((J.second_half h).warn_cut m x i old y t present work)

  store_carried : t.work ≡ Some (Change x i y Store) → Invariant (stepping s m x i y Store).after
  store_carried work =
      let J = stored_turn s I m t present x i y work in
      let took : linked s.links s.cells x i y ≡ relinked s.cells x i y = cond-true (settable s.links s.cells x i y) (relinked s.cells x i y) s.cells (takes s I m t present x i y work) in
      subst (λ (n : Cells). Invariant (with_cells (with_task s m (in_slot (λ u. with_work u None) (s.tasks m))) n)) (sym took)
      (subst (λ o. Invariant (with_cells (with_task s m o) (relinked s.cells x i y))) (sym (rewritten None))
      (retasked_turn (with_cells s (relinked s.cells x i y)) J m t present (no_making Store work) t.status None
      (I.control.statuses m t present) tt (λ h g j c e. (J.second_half h).registers m j c t present g e)))

  pub stepping_kept : (step : Step) → t.work ≡ Some (Change x i y step) → Invariant (stepping s m x i y step).after
  stepping_kept GreyStep work = grey_carried work
  stepping_kept (Warn old) work = warn_carried old work
  stepping_kept Store work = store_carried work
