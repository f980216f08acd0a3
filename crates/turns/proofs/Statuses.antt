-- Statuses that differ are told apart.
use Rattle.std.proofs.Common.{◌≡◌, true, false, ⊎_elim}
use Rattle.std.proofs.lemmas.Bool.{cases_Bool}
use Rattle.rules.specs.declared.Status.{Status}
use Rattle.rules.specs.Greying.{same_status}
use Rattle.rules.proofs.TaskTurns.{same_status_lem}

pub other_status : (a b : Status) → (a ≡ b → ⊥) → same_status a b ≡ false
other_status a b n = ⊎_elim (λ (t : same_status a b ≡ true). absurd (n (same_status_lem a b t))) (λ (f : same_status a b ≡ false). f) (cases_Bool (same_status a b))
