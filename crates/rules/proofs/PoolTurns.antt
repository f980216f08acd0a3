-- Reserve and give back keep the invariant.
use Rattle.std.proofs.Common.{◌≡◌, ℕ, ◌+◌, ◌≤◌, List, [], length, Some, None, sym, ap, ◌∙◌, subst, arith}
use Rattle.bags.specs.Holding.{copies}
use Rattle.rules.specs.State.{Task, State, with_pool, has_slot}
use Rattle.rules.specs.Pools.{drawn, with_drawn, with_pool_of, pool_in, puts, left, reserve, reserve_checks, give_back, give_back_checks}
use Rattle.rules.specs.Reach.{start}
use Rattle.rules.proofs.Checked.{need_passed, idle_passed, below_eight, is_idle_lem, reserve_checked}
use Rattle.rules.proofs.Drawn.{left_manner, drawn_count, drawn_copies, puts_manner, puts_copies}
use Rattle.rules.proofs.Accounts.{members_fit}
use Rattle.rules.proofs.Words.{directory, register}
use Rattle.rules.proofs.Invariant.{Invariant}
use Rattle.rules.proofs.Idling.{Fits, pool_turn}
use Rattle.rules.proofs.TaskTurns.{kept_by}
use Rattle.rules.proofs.Slots.{slot_has}

-- an idle task with another pool
fits_pool : (s : State) (I : Invariant s) (m : ℕ) (t : Task) (xs : List ℕ) → s.tasks m ≡ Some t → t.work ≡ None → length xs ≤ 4 → Fits s I (with_pool t xs)
fits_pool s I m t xs present idle few = record {
  idle = idle;
  status = I.control.statuses m t present;
  few = λ j g. I.structure.registers m j t present g;
  pool = few;
  used = λ j c q. start (register m j present q);
  marked = λ half g j c q. (I.second_half half).registers m j c t present g q;
}

pub reserve_kept : (s : State) → Invariant s → (m : ℕ) → Invariant (reserve m s).after
reserve_kept s I m = kept_by s (reserve_checks s.directory (length s.free.members) s.tasks m) _ I (λ k e.
    let slot = need_passed (has_slot s.directory m) _ _ k e in
    let idle = idle_passed (s.tasks m) _ k slot.1 in
    let found = reserve_checked s.directory (length s.free.members) s.tasks m k e in
    let t = found.task in
    let same : idle.0 ≡ t = let a = idle.1.0 in let b = found.present in cc in
    let rests : t.work ≡ None = subst (λ (u : Task). u.work ≡ None) same (is_idle_lem _ idle.1.1) in
    let enough : k ≤ length s.free.members = omega (arith, found.many) in
    let held : pool_in (with_drawn k s.free (s.tasks m)) ≡ drawn k s.free t.pool = ap (λ o. pool_in (with_drawn k s.free o)) found.present in
    let was : pool_in (s.tasks m) ≡ t.pool = ap pool_in found.present in
    let keeps = left_manner k s.free in
    pool_turn s I m (below_eight s.directory m slot.0) (with_drawn k s.free (s.tasks m))
    (slot_has (λ u. u.work ≡ None) found.present rests)
    (slot_has (Fits s I) (ap (with_drawn k s.free) found.present) (fits_pool s I m t (drawn k s.free t.pool) found.present rests (omega (arith, drawn_count k s.free t.pool, found.many, found.place))))
    (left k s.free) keeps.0 keeps.1
    (λ c. let all = drawn_copies k s.free I.structure.free_fair enough t.pool c in
    ap (λ xs. copies (left k s.free).members c + copies xs c) held ∙ all ∙ ap (λ xs. copies s.free.members c + copies xs c) (sym was)))

pub give_back_kept : (s : State) → Invariant s → (m : ℕ) → Invariant (give_back m s).after
give_back_kept s I m = kept_by s (give_back_checks s.directory s.tasks m) _ I (λ k e.
    let slot = need_passed (has_slot s.directory m) _ _ k e in
    let found = idle_passed (s.tasks m) _ k slot.1 in
    let t = found.0 in
    let present = found.1.0 in
    let rests = is_idle_lem _ found.1.1 in
    let below = below_eight s.directory m slot.0 in
    let few = members_fit s I.structure.account I.structure.memory.no_cell (λ c l. (I.safe c (start (directory l))).1) m below in
    let keeps = puts_manner s.free (pool_in (s.tasks m)) in
    let emptied : pool_in (with_pool_of [] (s.tasks m)) ≡ [] = ap (λ o. pool_in (with_pool_of [] o)) present in
    pool_turn s I m below (with_pool_of [] (s.tasks m))
    (slot_has (λ u. u.work ≡ None) present rests)
    (slot_has (Fits s I) (ap (with_pool_of []) present) (fits_pool s I m t [] present rests (omega arith)))
    (puts s.free (pool_in (s.tasks m))) keeps.0 keeps.1
    (λ c. let all = puts_copies s.free (pool_in (s.tasks m)) I.structure.free_fair (omega (arith, I.structure.free_room)) c in
    ap (λ xs. copies (puts s.free (pool_in (s.tasks m))).members c + copies xs c) emptied ∙ omega arith))
