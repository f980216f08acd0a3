-- A cell that is built in one line: once it is made, every part that follows is accepted.
use Rattle.std.proofs.Common.{◌≡◌, ℕ, max, true, false, Some, None, Ok, Err, Option, Result, sym, refl, ap, ◌∙◌, ap₂, arith}
use Rattle.std.proofs.lemmas.Bool.{eq-eqb, lt-ltb, ltb-true}
use Rattle.rules.specs.declared.Refusal.{Refusal}
use Rattle.rules.specs.declared.Refusal.TheVariants.{NoSuchSlot, NoSuchRegister}
use Rattle.rules.specs.declared.Work.TheVariants.{Making}
use Rattle.rules.specs.State.{Task, State, Outcome, accepted, by, has_slot, in_slot, is_register, with_cells, with_register, with_task, with_work}
use Rattle.rules.specs.Makings.{make_checks, begin_making, make, fill_checks, fill, finish_checks, finish, unlinked}
use Rattle.cells.specs.declared.Colour.TheVariants.{Black}
use Rattle.cells.specs.Memory.{coloured}
use Rattle.rules.specs.Changes.{carry_on_checks, carry_on, carrying}
use Rattle.rules.specs.Questions.{register_told}
use Rattle.rules.proofs.Checked.{need_passed}
use Rattle.rules.proofs.States.{at_here}
use Rattle.console.specs.Building.{build_checks, built}

-- the checks of a call that was accepted with the number that they found
pub found_by : (s : State) (checks : Result ℕ Refusal) (F : ℕ → State) (x : ℕ) (t : State) → ◌≡◌ {A = Outcome} (record { answer = Ok x; after = t }) (by s checks (λ y. accepted y (F y))) → checks ≡ Ok x
found_by s (Ok y) F x t h = sym (ap (λ o. o.answer) h)
found_by s (Err e) F x t h = let wrong : ◌≡◌ {A = Result ℕ Refusal} (Ok x) (Err e) = ap (λ o. o.answer) h in cc

-- a fill changes no task
fill_changes : (m i a : ℕ) (s : State) (checks : Result (ℕ × Option ℕ) Refusal) → fill_checks s.directory s.links s.tasks m i a ≡ checks → ((fill m i a s).after.tasks ≡ s.tasks) × ((fill m i a s).after.directory ≡ s.directory)
fill_changes m i a s (Ok f) e = rw e (refl, refl)
fill_changes m i a s (Err f) e = rw e (refl, refl)

module _ (s : State) (m b a x : ℕ) (t : Task) (slot : has_slot s.directory m ≡ true) (here : s.tasks m ≡ Some t) (checks : make_checks s.directory s.tasks m ≡ Ok x) where
  abbrev made : State
  made = (make m s).after

  abbrev went_on : State
  went_on = (carry_on m made).after

  abbrev begins : ℕ → Outcome
  begins y = accepted y (with_cells (with_task s m (in_slot (begin_making y) (s.tasks m))) (unlinked (coloured s.cells y Black) y))

  directory : made.directory ≡ s.directory
  directory = ap (λ r. (by s r begins).after.directory) checks

  begun : made.tasks m ≡ Some (begin_making x t)
  begun =
      ap (λ r. (by s r begins).after.tasks m) checks
      ∙ at_here m (in_slot (begin_making x) (s.tasks m)) s.tasks ∙ ap (in_slot (begin_making x)) here

  -- the making that the carry on settles
  abbrev done : Task
  done = with_work (begin_making x t) (Some (Making x true))

  owed : carry_on_checks made.directory made.tasks m ≡ Ok (Making x false)
  owed = rw (directory, slot, begun) refl

  went : went_on ≡ (carrying made m (Making x false)).after
  went = ap (λ r. (by made r (carrying made m)).after) owed

  settled : went_on.tasks m ≡ Some done
  settled = ap (λ r. r.tasks m) went ∙ at_here m _ made.tasks ∙ ap (in_slot (λ u. with_work u (Some (Making x true)))) begun

  same_directory : went_on.directory ≡ s.directory
  same_directory = ap (λ r. r.directory) went ∙ directory

  abbrev filled : State
  filled = (fill m 0 a went_on).after

  finishable : is_register b ≡ true → finish_checks filled.directory filled.tasks m x b ≡ Ok tt
  finishable register =
      let kept = fill_changes m 0 a went_on _ refl in
      let same : finish_checks filled.directory filled.tasks m x b ≡ finish_checks s.directory went_on.tasks m x b = ap₂ (λ d ts. finish_checks d ts m x b) (kept.1 ∙ same_directory) kept.0 in
      same ∙ rw (slot, register, settled, eq-eqb x x refl) refl

  pub finished : is_register b ≡ true → (finish m x b filled).answer ≡ Ok 0
  finished register = ap (λ r. (by filled r (λ _. accepted 0 (with_task filled m (in_slot (λ u. with_work (with_register u b (Some x)) None) (filled.tasks m))))).answer) (finishable register)

-- the registers that were asked for together
pub asked_registers : (d : ℕ) (tasks : ℕ → Option Task) (m a b k : ℕ) (v : Option ℕ) → k ≡ max a b → Ok v ≡ register_told d tasks m k → (has_slot d m ≡ true) × (is_register b ≡ true) × (is_register a ≡ true)
asked_registers d tasks m a b k v larger told =
    let slot = need_passed (has_slot d m) NoSuchSlot _ v told in
    let register = need_passed (is_register k) NoSuchRegister _ v slot.1 in
    let below = ltb-true k 8 register.0 in
    (slot.0, lt-ltb b 8 (omega (arith, larger)), lt-ltb a 8 (omega (arith, larger)))

pub build_found : (d : ℕ) (tasks : ℕ → Option Task) (m b a x : ℕ) → has_slot d m ≡ true → is_register b ≡ true → is_register a ≡ true → make_checks d tasks m ≡ Ok x → Ok x ≡ build_checks d tasks m b a
build_found d tasks m b a x slot to from checks = sym checks ∙ rw (slot, to, from) refl

-- a state that four calls went through, one after the other
module _ (s s1 s2 s3 s4 : State) (m b a x y : ℕ) (r1 r2 r3 r4 : Result ℕ Refusal)
    (made : ◌≡◌ {A = Outcome} (record { answer = r1; after = s1 }) (make m s)) (went : ◌≡◌ {A = Outcome} (record { answer = r2; after = s2 }) (carry_on m s1))
    (filled_in : ◌≡◌ {A = Outcome} (record { answer = r3; after = s3 }) (fill m 0 a s2)) (ended : ◌≡◌ {A = Outcome} (record { answer = r4; after = s4 }) (finish y x b s3)) (own : y ≡ m) where
  third : s3 ≡ (fill m 0 a (carry_on m (make m s).after).after).after
  third = ap (λ o. o.after) filled_in ∙ ap (λ u. (fill m 0 a u).after) (ap (λ o. o.after) went ∙ ap (λ u. (carry_on m u).after) (ap (λ o. o.after) made))

  pub built_of : s4 ≡ built m b a x s
  built_of = ap (λ o. o.after) ended ∙ ap₂ (λ k u. (finish k x b u).after) own third

  pub answered : r4 ≡ (finish m x b (fill m 0 a (carry_on m (make m s).after).after).after).answer
  answered = ap (λ o. o.answer) ended ∙ ap₂ (λ k u. (finish k x b u).answer) own third

pub err_is_no_ok : {e : Refusal} {k : ℕ} → ◌≡◌ {A = Result ℕ Refusal} (Err e) (Ok k) → ⊥
err_is_no_ok h = cc
