-- The turns that begin and end tasks and move registers keep the invariant: enter, launch, leave, point, move, clear and load.
use Rattle.std.proofs.Common.{◌≡◌, ℕ, ◌<◌, Bool, true, false, cond, ltb, List, [], ◌∷◌, Some, None, Ok, Err, Option, Result, sym, refl, ap, ◌∙◌, subst, inl, ⊎_elim, arith}
use Rattle.std.proofs.lemmas.Bool.{ltb-true}
use Rattle.rules.specs.declared.Status.{Status}
use Rattle.rules.specs.declared.Status.TheVariants.{Async, Sync1, Sync2}
use Rattle.rules.specs.declared.Refusal.{Refusal}
use Rattle.rules.specs.declared.Refusal.TheVariants.{NoTask, SlotTaken}
use Rattle.rules.specs.State.{Task, State, Outcome, by, with_task, with_register, has_slot, is_register, is_idle}
use Rattle.rules.specs.Tasks.{new_task, vacant, with_held, is_empty, enter, leave, point, move, clear, load, enter_checks, leave_checks, point_checks, move_checks, clear_checks, load_checks}
use Rattle.rules.specs.Pools.{pool_in}
use Rattle.rules.specs.Greying.{same_status}
use Rattle.rules.specs.Handshake.{bit, launched, launch, launch_checks, launch_from}
use Rattle.rules.specs.Reach.{start, along}
use Rattle.rules.proofs.Checked.{need_passed, idle_passed, ok_same, below_eight, is_idle_lem, cell_is}
use Rattle.rules.proofs.Slots.{at_cases, at_other, slot_has}
use Rattle.rules.proofs.Words.{Used, directory, register, SecondHalf, Marked}
use Rattle.rules.proofs.Invariant.{Invariant}
use Rattle.rules.proofs.Idling.{Fits, idle_turn}

-- a call keeps the invariant where its effect does, once the checks have passed
pub kept_by : {A : Type 0} (s : State) (checks : Result A Refusal) (done : A → Outcome) → Invariant s → ((x : A) → Ok x ≡ checks → Invariant (done x).after) → Invariant (by s checks done).after
kept_by s (Ok x) done I f = f x refl
kept_by s (Err e) done I f = I

-- register b of an idle task holds a value that may be touched
held_turn : (s : State) (I : Invariant s) (m : ℕ) (t : Task) (b : ℕ) (v : Option ℕ) → m < 8 → b < 8 → s.tasks m ≡ Some t → t.work ≡ None
    → ((c : ℕ) → v ≡ Some c → Used s c) → (SecondHalf s → t.status ≡ Async → (c : ℕ) → v ≡ Some c → Marked s I.Cut c)
    → Invariant (with_task s m (with_held (s.tasks m) b v))
held_turn s I m t b v slot place present idle used marked = idle_turn s I m slot (with_held (s.tasks m) b v) (slot_has (λ u. u.work ≡ None) present idle) (slot_has (Fits s I) is_new fits_new) pool
  where
    is_new : with_held (s.tasks m) b v ≡ Some (with_register t b v)
    is_new = ap (λ o. with_held o b v) present

    fits_new : Fits s I (with_register t b v)
    fits_new = record {
      idle = idle;
      status = I.control.statuses m t present;
      few = λ j g. at_other b v t.registers j (λ e. omega arith) ∙ I.structure.registers m j t present g;
      pool = omega (arith, I.structure.pools m t present);
      used = λ j c q. ⊎_elim (λ e. used c e.1) (λ e. start (register m j present e.1)) (at_cases b v t.registers j (Some c) q);
      marked = λ half g j c q. ⊎_elim (λ e. marked half g c e.1) (λ e. (I.second_half half).registers m j c t present g e.1) (at_cases b v t.registers j (Some c) q);
    }

    pool : pool_in (with_held (s.tasks m) b v) ≡ pool_in (s.tasks m)
    pool = ap pool_in is_new ∙ sym (ap pool_in present)

pub point_kept : (s : State) → Invariant s → (m j b : ℕ) → Invariant (point m j b s).after
point_kept s I m j b = kept_by s (point_checks s.directory s.tasks m j b) _ I (λ v e.
    let slot = need_passed (has_slot s.directory m) _ _ v e in
    let place = need_passed (is_register b) _ _ v slot.1 in
    let there = need_passed (ltb j s.directory) _ _ v place.1 in
    let found = idle_passed (s.tasks m) _ v there.1 in
    let near : j < s.directory = ltb-true j s.directory there.0 in
    let is = ok_same found.1.2 in
    let near_cell : (c : ℕ) → v ≡ Some c → c < s.directory = λ c q. let same : j ≡ c = cc in subst (λ k. k < s.directory) same near in
    held_turn s I m found.0 b v (below_eight s.directory m slot.0) (ltb-true b 8 place.0) found.1.0 (is_idle_lem _ found.1.1)
    (λ c q. start (directory (near_cell c q))) (λ half g c q. (I.second_half half).directory c (near_cell c q)))

pub move_kept : (s : State) → Invariant s → (m a b : ℕ) → Invariant (move m a b s).after
move_kept s I m a b = kept_by s (move_checks s.directory s.tasks m a b) _ I (λ v e.
    let slot = need_passed (has_slot s.directory m) _ _ v e in
    let first = need_passed (is_register a) _ _ v slot.1 in
    let place = need_passed (is_register b) _ _ v first.1 in
    let found = idle_passed (s.tasks m) _ v place.1 in
    let is = ok_same found.1.2 in
    held_turn s I m found.0 b v (below_eight s.directory m slot.0) (ltb-true b 8 place.0) found.1.0 (is_idle_lem _ found.1.1)
    (λ c q. start (register m a found.1.0 (sym is ∙ q))) (λ half g c q. (I.second_half half).registers m a c found.0 found.1.0 g (sym is ∙ q)))

pub clear_kept : (s : State) → Invariant s → (m b : ℕ) → Invariant (clear m b s).after
clear_kept s I m b = kept_by s (clear_checks s.directory s.tasks m b) _ I (λ v e.
    let slot = need_passed (has_slot s.directory m) _ _ v e in
    let place = need_passed (is_register b) _ _ v slot.1 in
    let found = idle_passed (s.tasks m) _ v place.1 in
    let is = ok_same found.1.2 in
    held_turn s I m found.0 b v (below_eight s.directory m slot.0) (ltb-true b 8 place.0) found.1.0 (is_idle_lem _ found.1.1)
    (λ c q. cc) (λ half g c q. cc))

pub load_kept : (s : State) → Invariant s → (m a i b : ℕ) → Invariant (load m a i b s).after
load_kept s I m a i b = kept_by s (load_checks s.directory s.links s.tasks m a i b) _ I (λ x e.
    let slot = need_passed (has_slot s.directory m) _ _ x e in
    let first = need_passed (is_register a) _ _ x slot.1 in
    let place = need_passed (is_register b) _ _ x first.1 in
    let there = need_passed (ltb i s.links) _ _ x place.1 in
    let found = idle_passed (s.tasks m) _ x there.1 in
    let held = cell_is _ x found.1.2 in
    held_turn s I m found.0 b (s.cells.link x i) (below_eight s.directory m slot.0) (ltb-true b 8 place.0) found.1.0 (is_idle_lem _ found.1.1)
    (λ c q. along (start (register m a found.1.0 held)) (i, q)) (λ half g c q. (I.second_half half).closed x i c ((I.second_half half).registers m a x found.0 found.1.0 g held) q))

is_vacant : (o : Option Task) → Ok tt ≡ vacant o → o ≡ None
is_vacant None e = refl
is_vacant (Some t) e = let f : ◌≡◌ {A = Result (Unit {0}) Refusal} (Ok tt) (Err SlotTaken) = e in cc

-- a task in a slot that was vacant
new_turn : (s : State) (I : Invariant s) (p : ℕ) (u : Task) → p < 8 → s.tasks p ≡ None → u.pool ≡ [] → Fits s I u → Invariant (with_task s p (Some u))
new_turn s I p u slot none empty fits_new = idle_turn s I p slot (Some u) was (slot_has (Fits s I) refl fits_new) (empty ∙ sym (ap pool_in none))
  where
    was : (t : Task) → s.tasks p ≡ Some t → t.work ≡ None
    was t q = cc

pub enter_kept : (s : State) → Invariant s → (p : ℕ) → Invariant (enter p s).after
enter_kept s I p = kept_by s (enter_checks s.directory s.tasks p) _ I (λ x e.
    let slot = need_passed (has_slot s.directory p) _ _ x e in
    new_turn s I p (new_task s.collector.status) (below_eight s.directory p slot.0) (is_vacant _ slot.1) refl
    (record {
      idle = refl;
      status = inl refl;
      few = λ j g. refl;
      pool = omega arith;
      used = λ j c q. cc;
      marked = λ half g j c q. cc;
    }))

is_empty_lem : (xs : List ℕ) → is_empty xs ≡ true → xs ≡ []
is_empty_lem [] e = refl
is_empty_lem (x ∷ xs) e = cc

pub leave_kept : (s : State) → Invariant s → (m : ℕ) → Invariant (leave m s).after
leave_kept s I m = kept_by s (leave_checks s.directory s.tasks m) _ I (λ x e.
    let slot = need_passed (has_slot s.directory m) _ _ x e in
    let found = idle_passed (s.tasks m) _ x slot.1 in
    let empty = is_empty_lem _ (need_passed (is_empty found.0.pool) _ _ x found.1.2).0 in
    let present = found.1.0 in
    idle_turn s I m (below_eight s.directory m slot.0) None
    (slot_has (λ u. u.work ≡ None) present (is_idle_lem _ found.1.1))
    (λ u p. cc)
    (sym (ap pool_in present ∙ empty)))

pub same_status_lem : (a b : Status) → same_status a b ≡ true → a ≡ b
same_status_lem Async Async e = refl
same_status_lem Async Sync1 e = cc
same_status_lem Async Sync2 e = cc
same_status_lem Sync1 Async e = cc
same_status_lem Sync1 Sync1 e = refl
same_status_lem Sync1 Sync2 e = cc
same_status_lem Sync2 Async e = cc
same_status_lem Sync2 Sync1 e = cc
same_status_lem Sync2 Sync2 e = refl

-- the parent, idle and of the status that is asked for, and a vacant slot
record Launches (asked : Status) (parent new : Option Task) : Type 0 where
  task : Task
  present : parent ≡ Some task
  free : new ≡ None
  status : task.status ≡ asked

launch_found : (asked : Status) (parent new : Option Task) → Ok tt ≡ launch_from asked parent new → Launches asked parent new
launch_found asked None new e = let f : ◌≡◌ {A = Result (Unit {0}) Refusal} (Ok tt) (Err NoTask) = e in cc
launch_found asked (Some t) (Some u) e = let f : ◌≡◌ {A = Result (Unit {0}) Refusal} (Ok tt) (Err SlotTaken) = e in cc
launch_found asked (Some t) None e =
    let idle = need_passed (is_idle t.work) _ _ tt e in
    let same = need_passed (same_status t.status asked) _ _ tt idle.1 in
    record { task = t; present = refl; free = refl; status = same_status_lem t.status asked same.0 }

pub chosen_is : (b : Bool) (o : Option ℕ) (c : ℕ) → cond b o None ≡ Some c → o ≡ Some c
chosen_is true o c e = e
chosen_is false o c e = cc

chosen_none : (b : Bool) (o : Option ℕ) → o ≡ None → cond b o None ≡ None
chosen_none true o e = e
chosen_none false o e = refl

pub launch_kept : (s : State) → Invariant s → (m p mask : ℕ) → Invariant (launch m p mask s).after
launch_kept s I m p mask = kept_by s (launch_checks s.directory s.collector.status s.tasks m p) _ I (λ x e.
    let slot = need_passed (has_slot s.directory m) _ _ x e in
    let other = need_passed (has_slot s.directory p) _ _ x slot.1 in
    let found = launch_found s.collector.status (s.tasks m) (s.tasks p) other.1 in
    let t = found.task in
    let fits : Fits s I (launched s.collector.status mask (Some t)) = record {
      idle = refl;
      status = inl refl;
      few = λ j g. chosen_none (bit mask j) (t.registers j) (I.structure.registers m j t found.present g);
      pool = omega arith;
      used = λ j c q. start (register m j found.present (chosen_is (bit mask j) (t.registers j) c q));
      marked = λ half g j c q. (I.second_half half).registers m j c t found.present (found.status ∙ g) (chosen_is (bit mask j) (t.registers j) c q);
    } in
    new_turn s I p (launched s.collector.status mask (s.tasks m)) (below_eight s.directory p other.0) found.free refl
    (subst (λ o. Fits s I (launched s.collector.status mask o)) (sym found.present) fits))
