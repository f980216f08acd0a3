-- What a check that was passed says.
use Rattle.std.proofs.Common.{◌≡◌, ℕ, Bool, true, List, [], ◌∷◌, length, Some, None, Ok, Err, Option, Result, sym, ap, ◌∙◌, ap₂, refl}
use Rattle.rules.specs.declared.Refusal.{Refusal}
use Rattle.rules.specs.declared.Refusal.TheVariants.{NoTask, PoolEmpty}
use Rattle.rules.specs.declared.Work.{Work}
use Rattle.rules.specs.declared.Work.TheVariants.{Change, Making}
use Rattle.rules.specs.State.{Task, has_slot, need, is_idle, of_idle_task}
use Rattle.rules.specs.Changes.{carry_on_checks, owed}
use Rattle.rules.specs.Handshake.{cooperate_checks}
use Rattle.rules.specs.Questions.{tells}
use Rattle.rules.specs.Pools.{give_back_checks, reserve_checks}
use Rattle.rules.specs.Makings.{make_checks, making_in, newest_of}
use Rattle.tasks.specs.Parts.{making_of}
use Rattle.tasks.specs.Pools.{newest}
use Rattle.rules.proofs.Checked.{need_passed, idle_passed, ok_same}
use Rattle.turns.specs.Moves.{reservable_of}

pub told : {A : Type 0} (b : Bool) (e : Refusal) (x y : A) → Ok y ≡ need b e (Ok x) → (b ≡ true) × (y ≡ x)
told b e x y h = let found = need_passed b e (Ok x) y h in (found.0, ok_same found.1)

pub idle : (o : Option Task) (t : Task) → Ok t ≡ of_idle_task o Ok → (o ≡ Some t) × (is_idle t.work ≡ true)
idle o t h =
    let found = idle_passed o Ok t h in
    let same = ok_same found.1.2 in
    (found.1.0 ∙ ap Some (sym same), ap (λ v. is_idle v.work) same ∙ found.1.1)

abbrev what : {A : Type 0} → A → Result A Refusal → A
what d (Ok x) = x
what d (Err e) = d

of_making_work : (u t : Task) (w : Option Work) (x : ℕ) (settled : Bool) → ◌≡◌ {A = Result (Task × ℕ × Bool) Refusal} (Ok (t, x, settled)) (making_in w (λ z done. Ok (u, z, done))) → (u ≡ t) × (w ≡ Some (Making x settled))
of_making_work u t None x settled h = search
of_making_work u t (Some (Change z i y step)) x settled h = search
of_making_work u t (Some (Making z done)) x settled h =
    let same = ap (what (t, x, settled)) h in
    (ap (λ p. p.0) (sym same), ap₂ (λ c d. Some (Making c d)) (ap (λ p. p.1) (sym same)) (ap (λ p. p.2) (sym same)))

pub making : (o : Option Task) (t : Task) (x : ℕ) (settled : Bool) → Ok (t, x, settled) ≡ making_of o → (o ≡ Some t) × (t.work ≡ Some (Making x settled))
making None t x settled h = search
making (Some u) t x settled h = let found = of_making_work u t u.work x settled h in (ap Some found.0, ap (λ v. v.work) (sym found.0) ∙ found.1)

pub owed_asked : (d : ℕ) (tasks : ℕ → Option Task) (m : ℕ) → has_slot d m ≡ true → owed (tasks m) ≡ carry_on_checks d tasks m
owed_asked d tasks m slot = rw slot refl

pub status_found : (d : ℕ) (tasks : ℕ → Option Task) (m : ℕ) (t : Task) → has_slot d m ≡ true → tasks m ≡ Some t → is_idle t.work ≡ true → Ok t.status ≡ cooperate_checks d tasks m
status_found d tasks m t slot here idle = rw (slot, here, idle) refl

pub pool_told : (d : ℕ) (tasks : ℕ → Option Task) (m : ℕ) (t : Task) → has_slot d m ≡ true → tasks m ≡ Some t → is_idle t.work ≡ true → Ok (length t.pool) ≡ give_back_checks d tasks m
pool_told d tasks m t slot here idle = rw (slot, here, idle) refl

none_newest : (pool : List ℕ) → newest pool ≡ None → newest_of pool ≡ Err PoolEmpty
none_newest [] none = refl
none_newest (x ∷ xs) none = search

pub nothing_to_make : (d : ℕ) (tasks : ℕ → Option Task) (m : ℕ) (t : Task) → has_slot d m ≡ true → tasks m ≡ Some t → is_idle t.work ≡ true → newest t.pool ≡ None → make_checks d tasks m ≡ Err PoolEmpty
nothing_to_make d tasks m t slot here idle none = rw (slot, here, idle) (none_newest t.pool none)

pub reserve_asked : (d free : ℕ) (tasks : ℕ → Option Task) (m : ℕ) → has_slot d m ≡ true → reservable_of free (tasks m) ≡ reserve_checks d free tasks m
reserve_asked d free tasks m slot = rw slot refl

pub present : (o : Option Task) (t : Task) → Ok t ≡ tells (λ u. u) o → o ≡ Some t
present None t h = search
present (Some u) t h = ap Some (sym (told true NoTask u t h).1)
