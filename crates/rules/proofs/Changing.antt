-- The turn that begins a change of a link keeps the invariant.
use Rattle.std.proofs.Common.{◌≡◌, ℕ, ◌<◌, Bool, true, false, cond, ltb, ◌≢◌, ◌⊎◌, Some, None, Option, sym, refl, ap, ◌∙◌, subst, inl, inr}
use Rattle.std.proofs.lemmas.Bool.{ltb-true}
use Rattle.cells.specs.declared.Colour.TheVariants.{Black}
use Rattle.cells.specs.Memory.{Cells}
use Rattle.rules.specs.declared.Status.{Status}
use Rattle.rules.specs.declared.Status.TheVariants.{Async, Sync1, Sync2}
use Rattle.rules.specs.declared.Swept.{Swept}
use Rattle.rules.specs.declared.Swept.TheVariants.{Before, At, Past}
use Rattle.rules.specs.declared.Step.{Step}
use Rattle.rules.specs.declared.Step.TheVariants.{Grey as GreyStep, Warn, Store}
use Rattle.rules.specs.declared.Work.TheVariants.{Change, Making}
use Rattle.rules.specs.State.{Task, State, with_cells, with_task, with_work, in_slot, has_slot, is_register}
use Rattle.rules.specs.Greying.{is_black, greyed_if}
use Rattle.rules.specs.Changes.{change_checks, first_step, greyed_old, status_in, changing, change}
use Rattle.rules.specs.Reach.{start, along}
use Rattle.rules.proofs.Checked.{need_passed, idle_passed, is_idle_lem, changed_is}
use Rattle.rules.proofs.TaskTurns.{kept_by}
use Rattle.rules.proofs.Words.{Shaded, Used, register, SecondHalf, Pending, grey_in_mark}
use Rattle.rules.proofs.Invariant.{Invariant}
use Rattle.rules.proofs.Cuts.{cut_turn}
use Rattle.rules.proofs.Halves.{unswept, second_in_mark}
use Rattle.rules.proofs.Shading.{greyed_if_table, greyed_if_shades, greyed_if_turn}
use Rattle.rules.proofs.Retasked.{ChangeFits, retasked_turn}
use Rattle.rules.proofs.Stepping.{shaded_grey}
use Rattle.rules.proofs.Blackened.{is_black_lem}

-- why a change begins at that step
data Begins (q : Status) (m : Cells) (swept : Swept) (old : Option ℕ) : Step → Type 0 where
  at_grey : q ≢ Async → Begins q m swept old GreyStep
  at_warn : {o : ℕ} → q ≡ Async → old ≡ Some o → Begins q m swept old (Warn o)
  at_store : q ≡ Async → (swept ≡ Before → (c : ℕ) → old ≡ Some c → m.colour c ≡ Black) → Begins q m swept old Store

begins : (q : Status) (m : Cells) (swept : Swept) (old : Option ℕ) → Begins q m swept old (first_step q m swept old)
begins Sync1 m swept old = at_grey (λ e. cc)
begins Sync2 m swept old = at_grey (λ e. cc)
begins Async m swept None = at_store refl (λ b c e. cc)
begins Async m (At k) (Some o) = at_store refl (λ b. cc)
begins Async m Past (Some o) = at_store refl (λ b. cc)
begins Async m Before (Some o) = by (is_black (m.colour o)) refl
  where
    by : (b : Bool) → is_black (m.colour o) ≡ b → Begins Async m Before (Some o) (cond b Store (Warn o))
    by true e = at_store refl (λ h c p. let same : o ≡ c = cc in ap m.colour (sym same) ∙ is_black_lem (m.colour o) e)
    by false e = at_warn refl refl

module _ (s : State) (I : Invariant s) (m : ℕ) (t : Task) (present : s.tasks m ≡ Some t) (idle : t.work ≡ None) (x i a b : ℕ) (y : Option ℕ)
    (cell : t.registers a ≡ Some x) (value : t.registers b ≡ y) (there : i < s.links) where
  no_making : (k : ℕ) (settled : Bool) → t.work ≡ Some (Making k settled) → ⊥
  no_making k settled e = cc

  used_old : (c : ℕ) → s.cells.link x i ≡ Some c → Used s c
  used_old c e = along (start (register m a present cell)) (i, e)

  begun_at_grey : t.status ≢ Async → Invariant (with_cells (with_task s m (Some (with_work t (Some (Change x i y GreyStep))))) (greyed_if s.cells (s.cells.link x i)))
  begun_at_grey late =
      let cut = cut_turn s₁ J x i (start (register m a present cell)) starts in
      let K = cut.0 in
      let fits : ChangeFits s₁ K t.registers t.status x i y GreyStep = record {
        cell_held = (a, cell);
        value_held = λ c e. (b, value ∙ e);
        link_there = there;
        grey_step = λ e. late;
        warn_step = λ o e. cc;
        new_value = λ e. cc;
        changed_link = λ h g c e. shaded c (as_it_was c e);
        sync_cut = λ h g. cut.1;
        store_cut = λ h e. cut.1;
        warn_cut = λ h o e. inl cut.1;
      } in
      retasked_turn s₁ K m t present no_making t.status (Some (Change x i y GreyStep))
      (I.control.statuses m t present) fits (λ h g j c e. (K.second_half h).registers m j c t present g e)
    where
      s₁ : State
      s₁ = with_cells s (greyed_if s.cells (s.cells.link x i))

      J : Invariant s₁
      J = greyed_if_turn s I (s.cells.link x i) used_old (λ h c e. inl (second_in_mark s I m t present h late))

      shaded : (c : ℕ) → s.cells.link x i ≡ Some c → Shaded s₁ c
      shaded c e = let k = I.safe c (used_old c e) in greyed_if_shades s.cells (s.cells.link x i) c e k.0 k.1

      as_it_was : (c : ℕ) → s₁.cells.link x i ≡ Some c → s.cells.link x i ≡ Some c
      as_it_was c e = sym (ap (λ (l : ℕ → ℕ → Option ℕ). l x i) (greyed_if_table s.cells (s.cells.link x i)).1) ∙ e

      -- the old value is Black, or Grey and so a start
      starts : SecondHalf s₁ → (c : ℕ) → J.Cut x i ≡ false → s₁.cells.link x i ≡ Some c → s₁.cells.colour c ≢ Black → Pending s₁ c
      starts h c uncut e n =
          let was = as_it_was c e in
          grey_in_mark (second_in_mark s I m t present h late) (shaded c was, (I.safe c (used_old c was)).2) (shaded_grey (s₁.cells.colour c) (shaded c was) n)

  begun_at_warn : (old : ℕ) → t.status ≡ Async → s.cells.link x i ≡ Some old
      → Invariant (with_cells (with_task s m (Some (with_work t (Some (Change x i y (Warn old)))))) (greyed_if s.cells (s.cells.link x i)))
  begun_at_warn old prompt names =
      let fits : ChangeFits s₁ J t.registers t.status x i y (Warn old) = record {
        cell_held = (a, cell);
        value_held = λ c e. (b, value ∙ e);
        link_there = there;
        grey_step = λ e. cc;
        warn_step = λ o e. prompt;
        new_value = λ e. cc;
        changed_link = λ h g. cc;
        sync_cut = λ h g. cc;
        store_cut = λ h e. cc;
        warn_cut = λ h o e. let same : old ≡ o = cc in subst (λ k. (J.Cut x i ≡ true) ⊎ ((s₁.cells.link x i ≡ Some k) × Shaded s₁ k)) same (inr (still, shaded));
      } in
      retasked_turn s₁ J m t present no_making t.status (Some (Change x i y (Warn old)))
      (I.control.statuses m t present) fits (λ h g j c e. (J.second_half h).registers m j c t present g e)
    where
      s₁ : State
      s₁ = with_cells s (greyed_if s.cells (s.cells.link x i))

      -- what a task at Async can load is marked
      J : Invariant s₁
      J = greyed_if_turn s I (s.cells.link x i) used_old
          (λ h c e. inr ((I.second_half h).closed x i c ((I.second_half h).registers m a x t present prompt cell) e))

      shaded : Shaded s₁ old
      shaded = let k = I.safe old (used_old old names) in greyed_if_shades s.cells (s.cells.link x i) old names k.0 k.1

      still : s₁.cells.link x i ≡ Some old
      still = ap (λ (l : ℕ → ℕ → Option ℕ). l x i) (greyed_if_table s.cells (s.cells.link x i)).1 ∙ names

  begun_at_store : t.status ≡ Async → (s.collector.swept ≡ Before → (c : ℕ) → s.cells.link x i ≡ Some c → s.cells.colour c ≡ Black)
      → Invariant (with_task s m (Some (with_work t (Some (Change x i y Store)))))
  begun_at_store prompt black =
      let cut = cut_turn s I x i (start (register m a present cell)) (λ h c uncut e n. absurd (n (black (unswept s I h) c e))) in
      let K = cut.0 in
      let fits : ChangeFits s K t.registers t.status x i y Store = record {
        cell_held = (a, cell);
        value_held = λ c e. (b, value ∙ e);
        link_there = there;
        grey_step = λ e. cc;
        warn_step = λ o e. prompt;
        new_value = λ e n. absurd (n prompt);
        changed_link = λ h g. cc;
        sync_cut = λ h g. cut.1;
        store_cut = λ h e. cut.1;
        warn_cut = λ h o e. inl cut.1;
      } in
      retasked_turn s K m t present no_making t.status (Some (Change x i y Store))
      (I.control.statuses m t present) fits (λ h g j c e. (K.second_half h).registers m j c t present g e)

  begun : {step : Step} → Begins t.status s.cells s.collector.swept (s.cells.link x i) step
      → Invariant (with_cells (with_task s m (Some (with_work t (Some (Change x i y step))))) (greyed_old step s.cells (s.cells.link x i)))
  begun (at_grey late) = begun_at_grey late
  begun (at_warn {o} prompt names) = begun_at_warn o prompt names
  begun (at_store prompt black) = begun_at_store prompt black

  changing_kept : Invariant (changing s m x i y (first_step (status_in (s.tasks m)) s.cells s.collector.swept (s.cells.link x i)))
  changing_kept = subst (λ (o : Option Task). Invariant (result o)) (sym present) (begun (begins t.status s.cells s.collector.swept (s.cells.link x i)))
    where
      -- the change as it is written, of what the slot holds
      result : Option Task → State
      result o =
          let step = first_step (status_in o) s.cells s.collector.swept (s.cells.link x i) in
          with_cells (with_task s m (in_slot (λ u. with_work u (Some (Change x i y step))) o)) (greyed_old step s.cells (s.cells.link x i))

pub change_kept : (s : State) → Invariant s → (m a i b : ℕ) → Invariant (change m a i b s).after
change_kept s I m a i b = kept_by s (change_checks s.directory s.links s.tasks m a i b) _ I (λ f e.
    let slot = need_passed (has_slot s.directory m) _ _ f e in
    let first = need_passed (is_register a) _ _ f slot.1 in
    let place = need_passed (is_register b) _ _ f first.1 in
    let there = need_passed (ltb i s.links) _ _ f place.1 in
    let found = idle_passed (s.tasks m) _ f there.1 in
    let t = found.0 in
    let is = changed_is (t.registers a) (t.registers b) f found.1.2 in
    changing_kept s I m t found.1.0 (is_idle_lem _ found.1.1) f.0 i a b f.1 is.0 is.1 (ltb-true i s.links there.0))
