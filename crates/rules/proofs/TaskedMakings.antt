-- The calls that make cells and change links touch only what is in reach or free, and so does every call of a task.
use Rattle.std.proofs.Common.{◌≡◌, ℕ, zero, suc, ◌<◌, ◌≤◌, true, false, eqb, ltb, ◌≢◌, List, [], ◌∷◌, Some, None, Ok, Err, Option, Result, sym, refl, ap, ◌∙◌, subst, inl, inr, ⊎_elim, arith}
use Rattle.std.proofs.lemmas.Bool.{cases_eq, eqb-true}
use Rattle.cells.specs.declared.Colour.TheVariants.{Blue, Black}
use Rattle.cells.specs.Memory.{coloured}
use Rattle.bags.specs.Holding.{copies}
use Rattle.rules.specs.declared.Step.{Step}
use Rattle.rules.specs.declared.Step.TheVariants.{Grey, Warn, Store}
use Rattle.rules.specs.declared.Work.{Work}
use Rattle.rules.specs.declared.Work.TheVariants.{Change as Changes, Making}
use Rattle.rules.specs.declared.Refusal.{Refusal}
use Rattle.rules.specs.declared.Refusal.TheVariants.{NoTask, NothingToCarryOn, PoolEmpty}
use Rattle.rules.specs.declared.Call.{Call}
use Rattle.rules.specs.declared.Call.TheVariants.{Enter, Launch, Leave, Point, Move, Clear, Load, Reserve, GiveBack, Make, CarryOn, Fill, Finish, Scrap, Change, Cooperate, Collect}
use Rattle.rules.specs.State.{Task, State, with_register, with_pool, with_work, grown, has_slot, is_register}
use Rattle.rules.specs.Pools.{pool_in}
use Rattle.rules.specs.Makings.{newest_of, make_checks, begin_making, make, fill_checks, fill, finish_checks, finish, scrap_checks, scrap}
use Rattle.rules.specs.Changes.{change_checks, first_step, greyed_old, status_in, change, owed_work, owed, carry_on_checks, stepping, carrying, carry_on}
use Rattle.rules.specs.Law.{copies_pooled}
use Rattle.rules.specs.Reach.{start, along, register, making, InReach}
use Rattle.rules.specs.Turns.{rule_of}
use Rattle.rules.proofs.Slots.{at_cases}
use Rattle.rules.proofs.Checked.{need_passed, idle_passed, ok_same, below_eight, making_passed, changed_is}
use Rattle.rules.proofs.Accounts.{is_blue}
use Rattle.rules.proofs.Painted.{Paints, unpainted, painted_in, coloured_paints, greyed_paints}
use Rattle.rules.proofs.Invariant.{Invariant}
use Rattle.rules.proofs.Watching.{roots_of, Tasked}
use Rattle.rules.proofs.Tasked.{Offers, offers_own, changed_roots, paints, sets_link, tasked_by}
use Rattle.rules.proofs.TaskedCalls.{enter_tasked, launch_tasked, leave_tasked, point_tasked, move_tasked, clear_tasked, load_tasked, reserve_tasked, give_back_tasked, cooperate_tasked}
use Rattle.rules.proofs.Numbers.{one_at}

-- the copies in one pool are among those in all
pool_among_pools : (k m : ℕ) (tasks : ℕ → Option Task) (c : ℕ) → m < k → copies (pool_in (tasks m)) c ≤ copies_pooled k tasks c
pool_among_pools zero m tasks c l = absurd (omega arith)
pool_among_pools (suc k) m tasks c l = ⊎_elim
    (λ (q : m ≡ k). let here = ap (λ j. copies (pool_in (tasks j)) c) q in omega arith)
    (λ (n : m ≡ k → ⊥). let others = pool_among_pools k m tasks c (omega arith) in omega arith)
    (cases_eq m k)

newest_held : (pool : List ℕ) (x : ℕ) → Ok x ≡ newest_of pool → 1 ≤ copies pool x
newest_held [] x e = let f : ◌≡◌ {A = Result ℕ Refusal} (Ok x) (Err PoolEmpty) = e in cc
newest_held (y ∷ ys) x e = let here = one_at y x (ok_same e) in omega arith

owed_passed : (o : Option Task) (w : Work) → Ok w ≡ owed o → (t : Task) × ((o ≡ Some t) × (t.work ≡ Some w))
owed_passed None w e = let g : ◌≡◌ {A = Result Work Refusal} (Ok w) (Err NoTask) = e in cc
owed_passed (Some t) w e = (t, (refl, go t.work e))
  where
    go : (o : Option Work) → Ok w ≡ owed_work o → o ≡ Some w
    go None e = let g : ◌≡◌ {A = Result Work Refusal} (Ok w) (Err NothingToCarryOn) = e in cc
    go (Some (Changes x i y step)) e = ap Some (sym (ok_same e))
    go (Some (Making x true)) e = let g : ◌≡◌ {A = Result Work Refusal} (Ok w) (Err NothingToCarryOn) = e in cc
    go (Some (Making x false)) e = ap Some (sym (ok_same e))

module _ (s : State) (I : Invariant s) where
  -- the newest cell of a pool is free
  newest_free : (m : ℕ) (t : Task) (x : ℕ) → m < 8 → s.tasks m ≡ Some t → Ok x ≡ newest_of t.pool → s.cells.colour x ≡ Blue
  newest_free m t x slot present e =
      let held = newest_held t.pool x e in
      let here = ap (λ o. copies (pool_in o) x) present in
      let among = pool_among_pools 8 m s.tasks x slot in
      is_blue _ (omega (arith, I.structure.account x))

  make_tasked : (m : ℕ) → Tasked s (make m s).after
  make_tasked m = tasked_by s I (make_checks s.directory s.tasks m) _ (λ x e.
      let slot = need_passed (has_slot s.directory m) _ _ x e in
      let found = idle_passed (s.tasks m) _ x slot.1 in
      let free = newest_free m found.0 x (below_eight s.directory m slot.0) found.1.0 found.1.2 in
      let painted = coloured_paints s.cells x Black in
      record {
        leads = record {
          roots = changed_roots s _ m refl (begin_making x) refl (λ t p. record {
            registers = (offers_own s m t p).registers;
            making = λ c b q. let same : x ≡ c = cc in inr (subst (λ k. s.cells.colour k ≡ Blue) same free);
          });
          links = λ y j c n q. ⊎_elim
              (λ a. let none : ◌≡◌ {A = Option ℕ} None (Some c) = ap (λ (f : ℕ → Option ℕ). f j) a.1 ∙ q in cc)
              (λ a. inl (
                ⊎_elim (λ same b. n (same ∙ b)) (λ here. absurd (a.0 here)) (painted.colours y),
                ap (λ (f : ℕ → ℕ → Option ℕ). f y j) (sym painted.links) ∙ ap (λ (f : ℕ → Option ℕ). f j) a.1 ∙ q,
              ))
              (at_cases x (λ i. None) (coloured s.cells x Black).link y _ refl);
        };
        size = painted.size;
        colours = λ c. ⊎_elim (λ e. inl e) (λ e. inr (inr (ap s.cells.colour e ∙ free))) (painted.colours c);
        stage = refl;
        swept = refl;
        looked = refl;
      })

  fill_tasked : (m i a : ℕ) → Tasked s (fill m i a s).after
  fill_tasked m i a = tasked_by s I (fill_checks s.directory s.links s.tasks m i a) _ (λ f e.
      let slot = need_passed (has_slot s.directory m) _ _ f e in
      let place = need_passed (is_register a) _ _ f slot.1 in
      let there = need_passed (ltb i s.links) _ _ f place.1 in
      let found = making_passed (s.tasks m) _ f there.1 in
      let is = ap (λ (p : ℕ × Option ℕ). p.1) (ok_same found.then) in
      sets_link s I _ (λ c r. inl (start (roots_of refl refl c r))) f.0 i f.1 (λ c q. start (register m a found.present (sym is ∙ q))) refl (refl, refl, refl))

  finish_tasked : (m x b : ℕ) → Tasked s (finish m x b s).after
  finish_tasked m x b = tasked_by s I (finish_checks s.directory s.tasks m x b) _ (λ f e.
      let slot = need_passed (has_slot s.directory m) _ _ f e in
      let place = need_passed (is_register b) _ _ f slot.1 in
      let found = making_passed (s.tasks m) _ f place.1 in
      let same = eqb-true found.cell x (need_passed (eqb found.cell x) _ _ f found.then).0 in
      let in_reach = subst (InReach s) same (start (making m found.settled found.present found.work)) in
      paints s I _ (changed_roots s _ m refl (λ t. with_work (with_register t b (Some x)) None) refl (λ t p. record {
        registers = λ j c q. ⊎_elim (λ e. let is : x ≡ c = let k = e.1 in cc in subst (InReach s) is in_reach) (λ e. start (register m j p e.1)) (at_cases b (Some x) t.registers j (Some c) q);
        making = λ c a q. cc;
      })) (unpainted _ s.cells) (refl, refl, refl))

  scrap_tasked : (m x : ℕ) → Tasked s (scrap m x s).after
  scrap_tasked m x = tasked_by s I (scrap_checks s.directory s.tasks m x) _ (λ f e.
      let slot = need_passed (has_slot s.directory m) _ _ f e in
      let found = making_passed (s.tasks m) _ f slot.1 in
      let same = eqb-true found.cell x (need_passed (eqb found.cell x) _ _ f found.then).0 in
      let in_reach = subst (InReach s) same (start (making m found.settled found.present found.work)) in
      paints s I _ (changed_roots s _ m refl (λ t. with_work (with_pool t (grown t.pool x)) None) refl (λ t p. record {
        registers = (offers_own s m t p).registers;
        making = λ c a q. cc;
      })) (painted_in (InReach s) (λ c q. subst (InReach s) (sym q) in_reach) (coloured_paints s.cells x Blue)) (refl, refl, refl))

  -- a task with a change to carry on
  change_offers : (m : ℕ) (t : Task) → s.tasks m ≡ Some t → (x i : ℕ) (y : Option ℕ) (step : Step) → Offers s (with_work t (Some (Changes x i y step)))
  change_offers m t p x i y step = record {
    registers = (offers_own s m t p).registers;
    making = λ c b q. cc;
  }

  change_tasked : (m a i b : ℕ) → Tasked s (change m a i b s).after
  change_tasked m a i b = tasked_by s I (change_checks s.directory s.links s.tasks m a i b) _ (λ f e.
      let slot = need_passed (has_slot s.directory m) _ _ f e in
      let first = need_passed (is_register a) _ _ f slot.1 in
      let place = need_passed (is_register b) _ _ f first.1 in
      let there = need_passed (ltb i s.links) _ _ f place.1 in
      let found = idle_passed (s.tasks m) _ f there.1 in
      let held = (changed_is _ _ f found.1.2).0 in
      let step = first_step (status_in (s.tasks m)) s.cells s.collector.swept (s.cells.link f.0 i) in
      paints s I _ (changed_roots s _ m refl (λ t. with_work t (Some (Changes f.0 i f.1 step))) refl (λ t p. change_offers m t p f.0 i f.1 step))
      (old_painted step (s.cells.link f.0 i) (λ c q. along (start (register m a found.1.0 held)) (i, q))) (refl, refl, refl))
    where
      old_painted : (step : Step) (old : Option ℕ) → ((c : ℕ) → old ≡ Some c → InReach s c) → Paints (InReach s) s.cells (greyed_old step s.cells old)
      old_painted Grey old f = greyed_paints (InReach s) s.cells old f
      old_painted (Warn o) old f = greyed_paints (InReach s) s.cells old f
      old_painted Store old f = unpainted _ s.cells

  carry_on_tasked : (m : ℕ) → Tasked s (carry_on m s).after
  carry_on_tasked m = tasked_by s I (carry_on_checks s.directory s.tasks m) _ (λ w e.
      let slot = need_passed (has_slot s.directory m) _ _ w e in
      let found = owed_passed (s.tasks m) w slot.1 in
      go w found.0 found.1.0 found.1.1)
    where
      steps : (x i : ℕ) (y : Option ℕ) (step : Step) → ((c : ℕ) → y ≡ Some c → InReach s c) → Tasked s (stepping s m x i y step).after
      steps x i y Grey f = paints s I (stepping s m x i y Grey).after
          (changed_roots s (stepping s m x i y Grey).after m refl (λ u. with_work u (Some (Changes x i y Store))) refl (λ u q. change_offers m u q x i y Store))
          (greyed_paints (InReach s) s.cells y f) (refl, refl, refl)
      steps x i y (Warn old) f = paints s I (stepping s m x i y (Warn old)).after
          (changed_roots s (stepping s m x i y (Warn old)).after m refl (λ u. with_work u (Some (Changes x i y Store))) refl (λ u q. change_offers m u q x i y Store))
          (unpainted _ s.cells) (refl, refl, refl)
      steps x i y Store f = sets_link s I (stepping s m x i y Store).after
          (changed_roots s (stepping s m x i y Store).after m refl (λ u. with_work u None) refl (λ u q. record {
            registers = (offers_own s m u q).registers;
            making = λ c b q. cc;
          }))
          x i y f refl (refl, refl, refl)

      go : (w : Work) (t : Task) → s.tasks m ≡ Some t → t.work ≡ Some w → Tasked s (carrying s m w).after
      go (Changes x i y step) t p q = steps x i y step (λ c e.
          let held = I.works.value_held m x i c step t p (q ∙ ap (λ v. Some (Changes x i v step)) e) in start (register m held.0 p held.1))
      go (Making x b) t p q = paints s I (carrying s m (Making x b)).after
          (changed_roots s (carrying s m (Making x b)).after m refl (λ u. with_work u (Some (Making x true))) refl (λ u r. record {
            registers = (offers_own s m u r).registers;
            making = λ c a k. let same : x ≡ c = cc in inl (subst (InReach s) same (start (making m b p q)));
          }))
          (painted_in (InReach s) (λ c e. subst (InReach s) (sym e) (start (making m b p q))) (coloured_paints s.cells x _)) (refl, refl, refl)

  -- every call but the collector's turn
  pub tasked : (c : Call) → c ≢ Collect → Tasked s (rule_of c s).after
  tasked (Enter p) n = enter_tasked s I p
  tasked (Launch m p mask) n = launch_tasked s I m p mask
  tasked (Leave m) n = leave_tasked s I m
  tasked (Point m j b) n = point_tasked s I m j b
  tasked (Move m a b) n = move_tasked s I m a b
  tasked (Clear m b) n = clear_tasked s I m b
  tasked (Load m a i b) n = load_tasked s I m a i b
  tasked (Reserve m) n = reserve_tasked s I m
  tasked (GiveBack m) n = give_back_tasked s I m
  tasked (Make m) n = make_tasked m
  tasked (CarryOn m) n = carry_on_tasked m
  tasked (Fill m i a) n = fill_tasked m i a
  tasked (Finish m x b) n = finish_tasked m x b
  tasked (Scrap m x) n = scrap_tasked m x
  tasked (Change m a i b) n = change_tasked m a i b
  tasked (Cooperate m) n = cooperate_tasked s I m
  tasked Collect n = absurd (n refl)
