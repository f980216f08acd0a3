-- Make, fill, the carry on of a making, finish and scrap keep the invariant.
use Rattle.std.proofs.Common.{◌≡◌, ℕ, ◌<◌, true, false, eqb, ltb, List, [], ◌∷◌, length, Some, None, Ok, Err, Option, Result, sym, refl, ap, ◌∙◌, subst, arith}
use Rattle.std.proofs.lemmas.Bool.{cond-true, cond_both, eqb-true, ltb-true, lt-ltb}
use Rattle.cells.specs.declared.Colour.TheVariants.{Blue, Black}
use Rattle.cells.specs.Memory.{Cells, coloured, linked, relinked, settable}
use Rattle.rules.specs.declared.Work.TheVariants.{Making}
use Rattle.rules.specs.declared.Refusal.{Refusal}
use Rattle.rules.specs.declared.Refusal.TheVariants.{PoolEmpty}
use Rattle.rules.specs.State.{Task, State, with_cells, with_task, with_pool, with_register, with_work, grown, in_slot, has_slot, is_register}
use Rattle.rules.specs.Makings.{newest_of, older_of, unlinked, begin_making, make, make_checks, fill, fill_checks, finish, finish_checks, scrap, scrap_checks}
use Rattle.rules.specs.Changes.{status_in, settled_colour, carrying}
use Rattle.rules.proofs.States.{task_as_it_was}
use Rattle.rules.proofs.Checked.{need_passed, idle_passed, ok_same, below_eight, is_idle_lem, making_passed}
use Rattle.rules.proofs.SoundCells.{coloured_inside}
use Rattle.rules.proofs.Invariant.{Invariant, taken}
use Rattle.rules.proofs.NewCell.{Turn}
use Rattle.rules.proofs.NewCellTurn.{new_cell_turn}
use Rattle.rules.proofs.MakingCells.{made, finish_turn, fill_turn, scrap_turn, settle_turn, inside, make_turn}
use Rattle.rules.proofs.TaskTurns.{kept_by}

-- the turn, where slot and cells are told in other words
turned : {s : State} {I : Invariant s} {m x : ℕ} {t u : Task} {n : Cells} → Turn s I m x t u n → (o : Option Task) (c : Cells) → o ≡ Some u → c ≡ n
    → Invariant (with_cells (with_task s m o) c)
turned {s} {I} {m} {x} {t} {u} {n} T o c e f =
    subst (λ (y : Cells). Invariant (with_cells (with_task s m o) y)) (sym f) (subst (λ (y : Option Task). Invariant (with_cells (with_task s m y) n)) (sym e) (new_cell_turn T))

newest_is : (pool : List ℕ) (x : ℕ) → Ok x ≡ newest_of pool → pool ≡ x ∷ older_of pool
newest_is [] x e = let f : ◌≡◌ {A = Result ℕ Refusal} (Ok x) (Err PoolEmpty) = e in cc
newest_is (y ∷ xs) x e = ap (λ z. z ∷ xs) (sym (ok_same e))

pub make_kept : (s : State) → Invariant s → (m : ℕ) → Invariant (make m s).after
make_kept s I m = kept_by s (make_checks s.directory s.tasks m) _ I (λ x e.
    let slot = need_passed (has_slot s.directory m) _ _ x e in
    let found = idle_passed (s.tasks m) _ x slot.1 in
    let t = found.0 in
    let present = found.1.0 in
    let below = below_eight s.directory m slot.0 in
    let idle = is_idle_lem _ found.1.1 in
    let newest = newest_is t.pool x found.1.2 in
    turned (make_turn s I m x t below present idle newest) _ _ (ap (in_slot (begin_making x)) present)
    (ap (λ y. unlinked y x) (coloured_inside s.cells x Black (inside s I m x t below present idle newest))))

pub fill_kept : (s : State) → Invariant s → (m i a : ℕ) → Invariant (fill m i a s).after
fill_kept s I m i a = kept_by s (fill_checks s.directory s.links s.tasks m i a) _ I (λ f e.
    let slot = need_passed (has_slot s.directory m) _ _ f e in
    let place = need_passed (is_register a) _ _ f slot.1 in
    let there = need_passed (ltb i s.links) _ _ f place.1 in
    let found = making_passed (s.tasks m) _ f there.1 in
    let t = found.task in
    let is = ok_same found.then in
    subst (λ (g : ℕ × Option ℕ). Invariant (with_cells s (linked s.links s.cells g.0 i g.1))) (sym is)
    (cond_both (settable s.links s.cells found.cell i (t.registers a)) (relinked s.cells found.cell i (t.registers a)) s.cells (λ (n : Cells). Invariant (with_cells s n))
    (λ q. subst (λ (z : State). Invariant (with_cells z (relinked s.cells found.cell i (t.registers a)))) (task_as_it_was s m (Some t) found.present)
    (new_cell_turn (fill_turn s I m found.cell t found.settled found.present found.work i a q)))
    (λ _. I)))

pub finish_kept : (s : State) → Invariant s → (m x b : ℕ) → Invariant (finish m x b s).after
finish_kept s I m x b = kept_by s (finish_checks s.directory s.tasks m x b) _ I (λ y e.
    let slot = need_passed (has_slot s.directory m) _ _ y e in
    let place = need_passed (is_register b) _ _ y slot.1 in
    let found = making_passed (s.tasks m) _ y place.1 in
    let same = need_passed (eqb found.cell x) _ _ y found.then in
    let settled = need_passed found.settled _ _ y same.1 in
    let work = subst (λ c. found.task.work ≡ Some (Making c found.settled)) (eqb-true found.cell x same.0) found.work in
    turned (finish_turn s I m x found.task found.settled found.present work b (ltb-true b 8 place.0) settled.0) _ s.cells
    (ap (in_slot (λ t. with_work (with_register t b (Some x)) None)) found.present) refl)

pub scrap_kept : (s : State) → Invariant s → (m x : ℕ) → Invariant (scrap m x s).after
scrap_kept s I m x = kept_by s (scrap_checks s.directory s.tasks m x) _ I (λ y e.
    let slot = need_passed (has_slot s.directory m) _ _ y e in
    let found = making_passed (s.tasks m) _ y slot.1 in
    let t = found.task in
    let same = need_passed (eqb found.cell x) _ _ y found.then in
    let work = subst (λ c. t.work ≡ Some (Making c found.settled)) (eqb-true found.cell x same.0) found.work in
    let some = ap taken work in
    let has-place : length t.pool < 4 = omega (arith, I.structure.pools m t found.present) in
    let more : grown t.pool x ≡ x ∷ t.pool = cond-true (ltb (length t.pool) 4) _ _ (lt-ltb (length t.pool) 4 has-place) in
    turned (scrap_turn s I m x t found.settled found.present work) _ _
    (ap (in_slot (λ (v : Task). with_work (with_pool v (grown v.pool x)) None)) found.present ∙ ap (λ xs. Some (with_work (with_pool t xs) None)) more)
    (coloured_inside s.cells x Blue (I.works.made_apart x (made s I m x t found.settled found.present work)).1))

-- the carry on of a making
pub settled_kept : (s : State) → Invariant s → (m x : ℕ) (t : Task) → s.tasks m ≡ Some t → t.work ≡ Some (Making x false) → Invariant (carrying s m (Making x false)).after
settled_kept s I m x t present work =
    turned (settle_turn s I m x t false present work) _ _ (ap (in_slot (λ v. with_work v (Some (Making x true)))) present)
    (ap (λ o. coloured s.cells x (settled_colour (status_in o) s.collector.swept x)) present
    ∙ coloured_inside s.cells x _ (I.works.made_apart x (made s I m x t false present work)).1)
