-- The invariant gives the first and the third promise at its moment.
use Rattle.std.proofs.Common.{ℕ, ◌≢◌, ◌⊎◌, inl, inr, ⊎_elim}
use Rattle.cells.specs.declared.Colour.TheVariants.{Blue}
use Rattle.rules.specs.State.{State}
use Rattle.rules.specs.Reach.{start, along, directory, register, making, InReach}
use Rattle.rules.specs.Law.{NoneFreed, HeldOnce}
use Rattle.rules.proofs.Numbers.{none_of}
use Rattle.rules.proofs.Accounts.{held_once}
use Rattle.rules.proofs.Words.{Made, made_by, directory as used-directory, register as used-register, filled, Used}
use Rattle.rules.proofs.Invariant.{Invariant}

-- what is in reach can be touched next, or is being made
pub reach_used : (s : State) {c : ℕ} → InReach s c → Used s c ⊎ Made s c
reach_used s (start (directory l)) = inl (start (used-directory l))
reach_used s (start (register m j p q)) = inl (start (used-register m j p q))
reach_used s (start (making m settled p q)) = inr (made_by m settled p q)
reach_used s (along {x} {c} p e) = ⊎_elim (λ (u : Used s x). inl (along u e)) (λ (k : Made s x). inl (start (filled e.0 k e.1))) (reach_used s p)

pub reach_not_free : (s : State) → Invariant s → (c : ℕ) → InReach s c → s.cells.colour c ≢ Blue
reach_not_free s I c r = ⊎_elim (λ (u : Used s c). (I.safe c u).1) (λ (k : Made s c). (I.works.made_apart c k).2) (reach_used s r)

pub none_freed : (s : State) → Invariant s → NoneFreed s
none_freed s I = none_of _ s.cells.size (λ c l p. reach_not_free s I c p.0 p.1)

pub free_held_once : (s : State) → Invariant s → HeldOnce s
free_held_once s I = held_once s I.structure.account I.structure.memory.no_cell
