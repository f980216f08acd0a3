-- A task's reply to the collector keeps the invariant: at Sync2 its registers are shaded before it counts as a task that has replied.
use Rattle.std.proofs.Common.{◌≡◌, ℕ, ◌<◌, ◌≤◌, Bool, true, false, cond, ◌≢◌, Some, None, Option, sym, refl, ap, subst, inl, ⊎_elim}
use Rattle.std.proofs.lemmas.Bool.{cases_Bool, cases_lt, cond-true, cond-false}
use Rattle.cells.specs.Memory.{Cells}
use Rattle.rules.specs.declared.Status.{Status}
use Rattle.rules.specs.declared.Status.TheVariants.{Async, Sync1, Sync2}
use Rattle.rules.specs.declared.Work.TheVariants.{Making}
use Rattle.rules.specs.State.{Task, State, Outcome, with_cells, with_task, with_status, in_slot, has_slot}
use Rattle.rules.specs.Greying.{same_status, greyed_to}
use Rattle.rules.specs.Handshake.{registers_in, cooperate_checks, replying, cooperate}
use Rattle.rules.specs.Reach.{start}
use Rattle.rules.proofs.Checked.{need_passed, idle_passed, ok_same, is_idle_lem}
use Rattle.rules.proofs.TaskTurns.{kept_by, same_status_lem}
use Rattle.rules.proofs.Words.{Shaded, register}
use Rattle.rules.proofs.Invariant.{Invariant}
use Rattle.rules.proofs.Greyings.{greyed_turn}
use Rattle.rules.proofs.Halves.{async_or_not, second_sync2, second_in_mark}
use Rattle.rules.proofs.Shading.{table_painted, greyed_to_table, greyed_to_each, greyed_to_shades}
use Rattle.rules.proofs.Retasked.{retasked, retasked_turn}

module _ (s : State) (I : Invariant s) (m : ℕ) (t : Task) (present : s.tasks m ≡ Some t) (idle : t.work ≡ None) where
  no_making : (k : ℕ) (settled : Bool) → t.work ≡ Some (Making k settled) → ⊥
  no_making k settled e = cc

  -- the idle task with the status that is asked for
  asked : with_status t s.collector.status ≡ retasked t s.collector.status None
  asked = ap (retasked t s.collector.status) idle

  replied_at_sync2 : t.status ≡ Sync2 → Invariant (with_cells (with_task s m (Some (with_status t s.collector.status))) (greyed_to 8 s.cells t.registers))
  replied_at_sync2 is =
      subst (λ (u : Task). Invariant (with_task s₁ m (Some u))) (sym asked)
      (retasked_turn s₁ J m t present no_making s.collector.status None (inl refl) tt
      (λ h g j c e. inl (shaded j c e, (I.safe c (start (register m j present e))).2)))
    where
      s₁ : State
      s₁ = with_cells s (greyed_to 8 s.cells t.registers)

      late : t.status ≢ Async
      late e = cc

      J : Invariant s₁
      J = subst (λ (n : Cells). Invariant (with_cells s n)) (sym (table_painted s.cells s₁.cells (greyed_to_table 8 s.cells t.registers)))
          (greyed_turn s I s₁.cells.colour (λ c. (j : ℕ) × (t.registers j ≡ Some c)) (greyed_to_each 8 s.cells t.registers)
          (λ c r. start (register m r.0 present r.1)) (λ h c r. inl (second_in_mark s I m t present h late)))

      shaded : (j c : ℕ) → t.registers j ≡ Some c → Shaded s₁ c
      shaded j c e =
          let k = I.safe c (start (register m j present e)) in
          ⊎_elim
          (λ (l : j < 8). greyed_to_shades 8 s.cells t.registers j c l e k.0 k.1)
          (λ (g : 8 ≤ j). let none = I.structure.registers m j t present g in cc)
          (cases_lt j 8)

  -- at another status nothing is greyed; in the second half the task is at Async
  replied_at_once : t.status ≢ Sync2 → Invariant (with_task s m (Some (with_status t s.collector.status)))
  replied_at_once other =
      subst (λ (u : Task). Invariant (with_task s m (Some u))) (sym asked)
      (retasked_turn s I m t present no_making s.collector.status None (inl refl) tt
      (λ h g j c e. ⊎_elim
      (λ (a : t.status ≡ Async). (I.second_half h).registers m j c t present a e)
      (λ (n : t.status ≢ Async). absurd (other (second_sync2 s I m t present h n)))
      (async_or_not t.status)))

  replying_kept : Invariant (replying s m t.status)
  replying_kept = subst (λ (o : Option Task). Invariant (with_cells (with_task s m (in_slot (λ u. with_status u s.collector.status) o)) (cond (same_status t.status Sync2) (greyed_to 8 s.cells (registers_in o)) s.cells))) (sym present)
      (⊎_elim
      (λ (e : same_status t.status Sync2 ≡ true). subst (λ (n : Cells). Invariant (with_cells s₂ n)) (sym (cond-true (same_status t.status Sync2) _ _ e)) (replied_at_sync2 (same_status_lem t.status Sync2 e)))
      (λ (e : same_status t.status Sync2 ≡ false). subst (λ (n : Cells). Invariant (with_cells s₂ n)) (sym (cond-false (same_status t.status Sync2) _ _ e)) (replied_at_once (not_same t.status e)))
      (cases_Bool (same_status t.status Sync2)))
    where
      s₂ : State
      s₂ = with_task s m (Some (with_status t s.collector.status))

      not_same : (q : Status) → same_status q Sync2 ≡ false → q ≢ Sync2
      not_same Async e = λ d. cc
      not_same Sync1 e = λ d. cc
      not_same Sync2 e = cc

pub cooperate_kept : (s : State) → Invariant s → (m : ℕ) → Invariant (cooperate m s).after
cooperate_kept s I m = kept_by s (cooperate_checks s.directory s.tasks m) _ I (λ q e.
    let slot = need_passed (has_slot s.directory m) _ _ q e in
    let found = idle_passed (s.tasks m) _ q slot.1 in
    let t = found.0 in
    let is : t.status ≡ q = sym (ok_same found.1.2) in
    ⊎_elim
    (λ (same : same_status q s.collector.status ≡ true). subst (λ (o : Outcome). Invariant o.after) (sym (cond-true (same_status q s.collector.status) _ _ same)) I)
    (λ (other : same_status q s.collector.status ≡ false). subst (λ (o : Outcome). Invariant o.after) (sym (cond-false (same_status q s.collector.status) _ _ other))
    (subst (λ (r : Status). Invariant (replying s m r)) is (replying_kept s I m t found.1.0 (is_idle_lem _ found.1.1))))
    (cases_Bool (same_status q s.collector.status)))
