-- Each of the sixteen calls of tasks, by its rule, changes only what is in reach or free.
use Rattle.std.proofs.Common.{◌≡◌, ℕ, ◌<◌, ltb, List, [], length, Some, None, Option, sym, refl, ap, ◌∙◌, subst, ⊎_elim}
use Rattle.std.proofs.lemmas.Bool.{cond_both, ltb-true}
use Rattle.cells.specs.Memory.{at}
use Rattle.rules.specs.declared.Status.TheVariants.{Sync2}
use Rattle.rules.specs.State.{Task, State, Outcome, with_register, with_pool, with_status, in_slot, has_slot, is_register}
use Rattle.rules.specs.Tasks.{new_task, holds, enter, leave, point, move, clear, load, enter_checks, leave_checks, point_checks, move_checks, clear_checks, load_checks}
use Rattle.rules.specs.Pools.{drawn, reserve, reserve_checks, give_back, give_back_checks}
use Rattle.rules.specs.Greying.{same_status}
use Rattle.rules.specs.Handshake.{bit, chosen, launched, launch, launch_checks, registers_in, replying, cooperate, cooperate_checks}
use Rattle.rules.specs.Reach.{start, along, directory, register, InReach}
use Rattle.rules.proofs.Slots.{at_cases}
use Rattle.rules.proofs.Checked.{need_passed, idle_passed, ok_same, cell_is}
use Rattle.rules.proofs.Painted.{Paints, unpainted, greyed_all_paint}
use Rattle.rules.proofs.Invariant.{Invariant}
use Rattle.rules.proofs.Watching.{Tasked}
use Rattle.rules.proofs.Tasked.{Offers, offers_own, slot_roots, changed_roots, paints, untouched, tasked_by}
use Rattle.rules.proofs.TaskTurns.{chosen_is}

-- a register that a launched task holds is one of its parent's
chosen_held : (mask : ℕ) (o : Option Task) (j c : ℕ) → chosen mask o j ≡ Some c → (t : Task) × ((o ≡ Some t) × (t.registers j ≡ Some c))
chosen_held mask None j c e = cc
chosen_held mask (Some t) j c e = (t, (refl, chosen_is (bit mask j) (t.registers j) c e))

module _ (s : State) (I : Invariant s) where
  pub enter_tasked : (p : ℕ) → Tasked s (enter p s).after
  enter_tasked p = tasked_by s I (enter_checks s.directory s.tasks p) _ (λ x _.
      paints s I _ (slot_roots s _ p refl (Some (new_task s.collector.status)) refl
      (λ u e. let same : new_task s.collector.status ≡ u = cc in subst (Offers s) same (record {
        registers = λ j c q. cc;
        making = λ c b q. cc;
      }))) (unpainted _ s.cells) (refl, refl, refl))

  pub launch_tasked : (m p mask : ℕ) → Tasked s (launch m p mask s).after
  launch_tasked m p mask = tasked_by s I (launch_checks s.directory s.collector.status s.tasks m p) _ (λ x _.
      let new = launched s.collector.status mask (s.tasks m) in
      paints s I _ (slot_roots s _ p refl (Some new) refl
      (λ u e. let same : launched s.collector.status mask (s.tasks m) ≡ u = cc in subst (Offers s) same (record {
        registers = λ j c q. let held = chosen_held mask (s.tasks m) j c q in start (register m j held.1.0 held.1.1);
        making = λ c b q. cc;
      }))) (unpainted _ s.cells) (refl, refl, refl))

  pub leave_tasked : (m : ℕ) → Tasked s (leave m s).after
  leave_tasked m = tasked_by s I (leave_checks s.directory s.tasks m) _ (λ x _.
      paints s I _ (slot_roots s _ m refl None refl (λ u e. cc)) (unpainted _ s.cells) (refl, refl, refl))

  -- a register is given what is in reach
  holds_tasked : (m b : ℕ) (v : Option ℕ) → ((c : ℕ) → v ≡ Some c → InReach s c) → Tasked s (holds s m b v).after
  holds_tasked m b v f = paints s I _ (changed_roots s _ m refl (λ t. with_register t b v) refl (λ t p.
      record {
        registers = λ j c q. ⊎_elim (λ e. f c e.1) (λ e. start (register m j p e.1)) (at_cases b v t.registers j (Some c) q);
        making = (offers_own s m t p).making;
      })) (unpainted _ s.cells) (refl, refl, refl)

  pub point_tasked : (m j b : ℕ) → Tasked s (point m j b s).after
  point_tasked m j b = tasked_by s I (point_checks s.directory s.tasks m j b) _ (λ v e.
      let slot = need_passed (has_slot s.directory m) _ _ v e in
      let place = need_passed (is_register b) _ _ v slot.1 in
      let there = need_passed (ltb j s.directory) _ _ v place.1 in
      let found = idle_passed (s.tasks m) _ v there.1 in
      let near : j < s.directory = ltb-true j s.directory there.0 in
      let is = ok_same found.1.2 in
      holds_tasked m b v (λ c q. let same : j ≡ c = cc in start (directory (subst (λ k. k < s.directory) same near))))

  pub move_tasked : (m a b : ℕ) → Tasked s (move m a b s).after
  move_tasked m a b = tasked_by s I (move_checks s.directory s.tasks m a b) _ (λ v e.
      let slot = need_passed (has_slot s.directory m) _ _ v e in
      let first = need_passed (is_register a) _ _ v slot.1 in
      let place = need_passed (is_register b) _ _ v first.1 in
      let found = idle_passed (s.tasks m) _ v place.1 in
      let is = ok_same found.1.2 in
      holds_tasked m b v (λ c q. start (register m a found.1.0 (sym is ∙ q))))

  pub clear_tasked : (m b : ℕ) → Tasked s (clear m b s).after
  clear_tasked m b = tasked_by s I (clear_checks s.directory s.tasks m b) _ (λ v e.
      let slot = need_passed (has_slot s.directory m) _ _ v e in
      let place = need_passed (is_register b) _ _ v slot.1 in
      let found = idle_passed (s.tasks m) _ v place.1 in
      let is = ok_same found.1.2 in
      holds_tasked m b v (λ c q. cc))

  pub load_tasked : (m a i b : ℕ) → Tasked s (load m a i b s).after
  load_tasked m a i b = tasked_by s I (load_checks s.directory s.links s.tasks m a i b) _ (λ x e.
      let slot = need_passed (has_slot s.directory m) _ _ x e in
      let first = need_passed (is_register a) _ _ x slot.1 in
      let place = need_passed (is_register b) _ _ x first.1 in
      let there = need_passed (ltb i s.links) _ _ x place.1 in
      let found = idle_passed (s.tasks m) _ x there.1 in
      holds_tasked m b (s.cells.link x i) (λ c q. along (start (register m a found.1.0 (cell_is _ x found.1.2))) (i, q)))

  -- a task is given another pool
  pooled_tasked : (m : ℕ) (pool : Task → List ℕ) (s' : State) → s'.tasks ≡ at m (in_slot (λ t. with_pool t (pool t)) (s.tasks m)) s.tasks
      → s'.directory ≡ s.directory → s'.cells ≡ s.cells → s'.collector ≡ s.collector → Tasked s s'
  pooled_tasked m pool s' is same cells co = paints s I s'
      (changed_roots s s' m same (λ t. with_pool t (pool t)) is (λ t p. record { registers = (offers_own s m t p).registers; making = (offers_own s m t p).making }))
      (subst (Paints (InReach s) s.cells) (sym cells) (unpainted _ s.cells))
      (ap (λ c. c.stage) co, ap (λ c. c.swept) co, ap (λ c. c.looked) co)

  pub reserve_tasked : (m : ℕ) → Tasked s (reserve m s).after
  reserve_tasked m = tasked_by s I (reserve_checks s.directory (length s.free.members) s.tasks m) _ (λ k _.
      pooled_tasked m (λ t. drawn k s.free t.pool) _ refl refl refl refl)

  pub give_back_tasked : (m : ℕ) → Tasked s (give_back m s).after
  give_back_tasked m = tasked_by s I (give_back_checks s.directory s.tasks m) _ (λ k _. pooled_tasked m (λ t. []) _ refl refl refl refl)

  registers_in_reach : (m : ℕ) (o : Option Task) → s.tasks m ≡ o → (j c : ℕ) → registers_in o j ≡ Some c → InReach s c
  registers_in_reach m None p j c q = cc
  registers_in_reach m (Some t) p j c q = start (register m j p q)

  pub cooperate_tasked : (m : ℕ) → Tasked s (cooperate m s).after
  cooperate_tasked m = tasked_by s I (cooperate_checks s.directory s.tasks m) _ (λ q _.
      cond_both (same_status q s.collector.status) _ _ (λ (o : Outcome). Tasked s o.after)
      (λ _. untouched s I)
      (λ _. paints s I (replying s m q)
      (changed_roots s (replying s m q) m refl (λ t. with_status t s.collector.status) refl (λ t p. record { registers = (offers_own s m t p).registers; making = (offers_own s m t p).making }))
      (cond_both (same_status q Sync2) _ _ (Paints (InReach s) s.cells)
      (λ _. greyed_all_paint (InReach s) 8 s.cells (registers_in (s.tasks m)) (registers_in_reach m (s.tasks m) refl))
      (λ _. unpainted _ s.cells))
      (refl, refl, refl)))
