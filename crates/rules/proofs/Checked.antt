-- What is known of the task once the checks of a call have passed.
use Rattle.std.proofs.Common.{◌≡◌, ℕ, ◌<◌, Bool, true, false, ltb, length, Some, None, Ok, Err, Option, Result, refl, ◌∙◌, ⊎_elim, arith, sym, ap}
use Rattle.std.proofs.lemmas.Bool.Decides.{nat_tests}
use Rattle.std.proofs.lemmas.Bool.{cases_Bool, cond-true, cond-false, ltb-true}
use Rattle.rules.specs.declared.Work.{Work}
use Rattle.rules.specs.declared.Refusal.{Refusal}
use Rattle.rules.specs.declared.Refusal.TheVariants.{NoTask, NoSuchMaking, WorkUnfinished, RegisterEmpty}
use Rattle.rules.specs.State.{Task, need, has_slot, is_idle, of_idle_task}
use Rattle.rules.specs.Pools.{give_back_checks, reservable, reserve_checks}
use Rattle.rules.specs.declared.Work.TheVariants.{Change, Making}
use Rattle.rules.specs.Makings.{making_in, of_making}
use Rattle.rules.specs.Tasks.{cell_in}
use Rattle.rules.specs.Changes.{changed_cell}

-- a check that passed
pub need_passed : {A : Type 0} (b : Bool) (e : Refusal) (next : Result A Refusal) (x : A) → Ok x ≡ need b e next → (b ≡ true) × (Ok x ≡ next)
need_passed {A} b e next x f =
    ⊎_elim
    (λ (t : b ≡ true). (t, f ∙ cond-true b next (Err e) t))
    (λ (t : b ≡ false). let g : ◌≡◌ {A = Result A Refusal} (Ok x) (Err e) = f ∙ cond-false b next (Err e) t in cc)
    (cases_Bool b)

-- a task without unfinished work
pub idle_passed : {A : Type 0} (o : Option Task) (next : Task → Result A Refusal) (x : A) → Ok x ≡ of_idle_task o next → (t : Task) × ((o ≡ Some t) × (is_idle t.work ≡ true) × (Ok x ≡ next t))
idle_passed {A} None next x f = let g : ◌≡◌ {A = Result A Refusal} (Ok x) (Err NoTask) = f in cc
idle_passed (Some t) next x f = let p = need_passed (is_idle t.work) _ (next t) x f in (t, (refl, p.0, p.1))

pub ok_same : {A : Type 0} {x y : A} → ◌≡◌ {A = Result A Refusal} (Ok x) (Ok y) → x ≡ y
ok_same e = cc

pub record Reserves (d free : ℕ) (tasks : ℕ → Option Task) (m k : ℕ) : Type 0 where
  pub task : Task
  pub present : tasks m ≡ Some task
  pub place : length task.pool < 4
  pub some : 0 < free
  pub many : k ≡ reservable free task

pub reserve_checked : (d free : ℕ) (tasks : ℕ → Option Task) (m k : ℕ) → Ok k ≡ reserve_checks d free tasks m → Reserves d free tasks m k
reserve_checked d free tasks m k e =
    let slot = need_passed (has_slot d m) _ _ k e in
    let found = idle_passed (tasks m) _ k slot.1 in
    let t = found.0 in
    let place = need_passed (ltb (length t.pool) 4) _ _ k found.1.2 in
    let some = need_passed (ltb 0 free) _ _ k place.1 in
    record {
      task = t;
      present = found.1.0;
      place = ltb-true (length t.pool) 4 place.0;
      some = ltb-true 0 free some.0;
      many = ok_same some.1;
    }

pub record GivesBack (tasks : ℕ → Option Task) (m k : ℕ) : Type 0 where
  pub task : Task
  pub present : tasks m ≡ Some task
  pub many : k ≡ length task.pool

pub give_back_checked : (d : ℕ) (tasks : ℕ → Option Task) (m k : ℕ) → Ok k ≡ give_back_checks d tasks m → GivesBack tasks m k
give_back_checked d tasks m k e =
    let slot = need_passed (has_slot d m) _ _ k e in
    let found = idle_passed (tasks m) _ k slot.1 in
    record { task = found.0; present = found.1.0; many = ok_same found.1.2 }

pub below_eight : (d m : ℕ) → has_slot d m ≡ true → m < 8
below_eight d m e = grind (arith, nat_tests)

pub is_idle_lem : (w : Option Work) → is_idle w ≡ true → w ≡ None
is_idle_lem None e = refl
is_idle_lem (Some w) e = cc

-- a making of the task, once the checks that ask for one have passed
pub record Makes {A : Type 0} (o : Option Task) (next : Task → ℕ → Bool → Result A Refusal) (f : A) : Type 0 where
  pub task : Task
  pub cell : ℕ
  pub settled : Bool
  pub present : o ≡ Some task
  pub work : task.work ≡ Some (Making cell settled)
  pub then : Ok f ≡ next task cell settled

pub making_passed : {A : Type 0} (o : Option Task) (next : Task → ℕ → Bool → Result A Refusal) (f : A) → Ok f ≡ of_making o next → Makes o next f
making_passed {A} None next f e = let g : ◌≡◌ {A = Result A Refusal} (Ok f) (Err NoTask) = e in cc
making_passed {A} (Some t) next f e = go t.work refl e
  where
    go : (w : Option Work) → t.work ≡ w → Ok f ≡ making_in w (next t) → Makes (Some t) next f
    go None q e = let g : ◌≡◌ {A = Result A Refusal} (Ok f) (Err NoSuchMaking) = e in cc
    go (Some (Change x i y step)) q e = let g : ◌≡◌ {A = Result A Refusal} (Ok f) (Err WorkUnfinished) = e in cc
    go (Some (Making x b)) q e = record { task = t; cell = x; settled = b; present = refl; work = q; then = e }

-- a register that holds a cell
pub cell_is : (o : Option ℕ) (x : ℕ) → Ok x ≡ cell_in o → o ≡ Some x
cell_is None x e = let f : ◌≡◌ {A = Result ℕ Refusal} (Ok x) (Err RegisterEmpty) = e in cc
cell_is (Some y) x e = ap Some (sym (ok_same e))

pub changed_is : (o y : Option ℕ) (f : ℕ × Option ℕ) → Ok f ≡ changed_cell o y → (o ≡ Some f.0) × (y ≡ f.1)
changed_is None y f e = let g : ◌≡◌ {A = Result (ℕ × Option ℕ) Refusal} (Ok f) (Err RegisterEmpty) = e in cc
changed_is (Some x) y f e = let same = ok_same e in (ap (λ (p : ℕ × Option ℕ). Some p.0) (sym same), ap (λ (p : ℕ × Option ℕ). p.1) (sym same))
