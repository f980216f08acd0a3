-- Every turn keeps the invariant, and so the law over runs holds.
use Rattle.std.proofs.Common.{◌≡◌, ℕ, true, false, Some, None, Ok, Err, Option, Result, sym, refl, subst}
use Rattle.rules.specs.declared.Work.{Work}
use Rattle.rules.specs.declared.Work.TheVariants.{Change, Making}
use Rattle.rules.specs.declared.Refusal.{Refusal}
use Rattle.rules.specs.declared.Refusal.TheVariants.{NoTask, NothingToCarryOn}
use Rattle.rules.specs.declared.Call.{Call}
use Rattle.rules.specs.declared.Call.TheVariants.{Enter, Launch, Leave, Point, Move, Clear, Load, Reserve, GiveBack, Make, CarryOn, Fill, Finish, Scrap, Change as ChangeCall, Cooperate, Collect}
use Rattle.rules.specs.State.{Task, State, has_slot}
use Rattle.rules.specs.Changes.{owed_work, owed, carry_on_checks, carrying, carry_on}
use Rattle.rules.specs.Turns.{rule_of}
use Rattle.rules.specs.Law.{LawOfRuns}
use Rattle.rules.proofs.Checked.{need_passed, ok_same}
use Rattle.rules.proofs.Invariant.{Invariant}
use Rattle.rules.proofs.TaskTurns.{kept_by, enter_kept, launch_kept, leave_kept, point_kept, move_kept, clear_kept, load_kept}
use Rattle.rules.proofs.PoolTurns.{reserve_kept, give_back_kept}
use Rattle.rules.proofs.MakingTurns.{make_kept, fill_kept, finish_kept, scrap_kept, settled_kept}
use Rattle.rules.proofs.Changing.{change_kept}
use Rattle.rules.proofs.Stepping.{stepping_kept}
use Rattle.rules.proofs.Replies.{cooperate_kept}
use Rattle.rules.proofs.CollectTurns.{collect_kept}
use Rattle.rules.proofs.Runs.{law_of_runs}

-- a change goes on at its step, and a making is settled
carry_on_kept : (s : State) → Invariant s → (m : ℕ) → Invariant (carry_on m s).after
carry_on_kept s I m = kept_by s (carry_on_checks s.directory s.tasks m) _ I (λ w e. with_task_lem (s.tasks m) refl w (need_passed (has_slot s.directory m) _ _ w e).1)
  where
    with_work_lem : (t : Task) → s.tasks m ≡ Some t → (o : Option Work) → t.work ≡ o → (w : Work) → Ok w ≡ owed_work o → Invariant (carrying s m w).after
    with_work_lem t p None q w e = let f : ◌≡◌ {A = Result Work Refusal} (Ok w) (Err NothingToCarryOn) = e in cc
    with_work_lem t p (Some (Change x i y step)) q w e = subst (λ v. Invariant (carrying s m v).after) (sym (ok_same e)) (stepping_kept s I m t p x i y step q)
    with_work_lem t p (Some (Making x true)) q w e = let f : ◌≡◌ {A = Result Work Refusal} (Ok w) (Err NothingToCarryOn) = e in cc
    with_work_lem t p (Some (Making x false)) q w e = subst (λ v. Invariant (carrying s m v).after) (sym (ok_same e)) (settled_kept s I m x t p q)

    with_task_lem : (o : Option Task) → s.tasks m ≡ o → (w : Work) → Ok w ≡ owed o → Invariant (carrying s m w).after
    with_task_lem None p w e = let f : ◌≡◌ {A = Result Work Refusal} (Ok w) (Err NoTask) = e in cc
    with_task_lem (Some t) p w e = with_work_lem t p t.work refl w e

pub turn_kept : (s : State) → Invariant s → (c : Call) → Invariant (rule_of c s).after
turn_kept s I (Enter p) = enter_kept s I p
turn_kept s I (Launch m p mask) = launch_kept s I m p mask
turn_kept s I (Leave m) = leave_kept s I m
turn_kept s I (Point m j b) = point_kept s I m j b
turn_kept s I (Move m a b) = move_kept s I m a b
turn_kept s I (Clear m b) = clear_kept s I m b
turn_kept s I (Load m a i b) = load_kept s I m a i b
turn_kept s I (Reserve m) = reserve_kept s I m
turn_kept s I (GiveBack m) = give_back_kept s I m
turn_kept s I (Make m) = make_kept s I m
turn_kept s I (CarryOn m) = carry_on_kept s I m
turn_kept s I (Fill m i a) = fill_kept s I m i a
turn_kept s I (Finish m x b) = finish_kept s I m x b
turn_kept s I (Scrap m x) = scrap_kept s I m x
turn_kept s I (ChangeCall m a i b) = change_kept s I m a i b
turn_kept s I (Cooperate m) = cooperate_kept s I m
turn_kept s I Collect = collect_kept s I

-- over every list of calls from a memory just set up
pub law : LawOfRuns
law = law_of_runs turn_kept
