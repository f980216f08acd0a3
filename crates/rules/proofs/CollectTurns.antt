-- Every turn of the collector keeps the invariant.
use Rattle.std.proofs.Common.{◌≡◌, ◌+◌, not, ◌&&◌, eqb, ltb, refl, inl, inr, ℕ, Some, None, Option}
use Rattle.std.proofs.lemmas.Bool.{cond_both, and_parts, ltb-true, ltb-false}
use Rattle.rules.specs.declared.Status.TheVariants.{Async}
use Rattle.rules.specs.declared.Stage.{Stage}
use Rattle.rules.specs.declared.Stage.TheVariants.{Rest, Clear, Mark, Scan, Sweep}
use Rattle.rules.specs.declared.Swept.{Swept}
use Rattle.rules.specs.declared.Swept.TheVariants.{Before, At, Past}
use Rattle.rules.specs.State.{State, Outcome}
use Rattle.rules.specs.Greying.{same_status}
use Rattle.rules.specs.Collecting.{all_agree, marking, scanning, sweeping, by_stage, collect}
use Rattle.rules.proofs.TaskTurns.{same_status_lem}
use Rattle.rules.proofs.Invariant.{Invariant}
use Rattle.rules.proofs.Handshaking.{rest_kept, clearing_kept}
use Rattle.rules.proofs.TracingTurns.{tracing_kept, directory_kept, looking_kept}
use Rattle.rules.proofs.ScanningOn.{scan_begun_kept, scan_next_kept, scan_again_kept, sweep_begun_kept}
use Rattle.rules.proofs.Phases.{phase_kept}
use Rattle.rules.proofs.Looking.{looked_kept}
use Rattle.rules.proofs.SweepingOn.{next_cell, returned}

-- what a turn leaves keeps the invariant
abbrev KeptBy : Outcome → Type 0
KeptBy o = Invariant o.after

pub marking_kept : (s : State) → Invariant s → s.collector.stage ≡ Mark → KeptBy (marking s)
marking_kept s I e = cond_both (not (same_status s.collector.phase s.collector.status) && all_agree s) _ _ KeptBy
    (λ p. phase_kept s I e (and_parts (not (same_status s.collector.phase s.collector.status)) (all_agree s) p).1)
    (λ p. tracing_kept s I (inl e) _ (λ free-hand empty.
    cond_both (ltb s.collector.next s.directory) _ _ KeptBy
    (λ l. directory_kept s I free-hand empty e (ltb-true s.collector.next s.directory l))
    (λ l. cond_both (same_status s.collector.phase Async) _ _ KeptBy
    (λ q. scan_begun_kept s I free-hand empty e (same_status_lem s.collector.phase Async q) (ltb-false s.collector.next s.directory l))
    (λ q. I))))

pub scanning_kept : (s : State) → Invariant s → s.collector.stage ≡ Scan → (place : Option ℕ) → s.collector.scanned ≡ place → KeptBy (scanning s place)
scanning_kept s I e None p = I
scanning_kept s I e (Some k) p = tracing_kept s I (inr e) _ (λ free-hand empty.
    cond_both (ltb k s.cells.size) _ _ KeptBy
    (λ l. cond_both s.collector.looked _ _ KeptBy
    (λ q. scan_next_kept s I free-hand empty e k p (ltb-true k s.cells.size l) q)
    (λ q. looking_kept s I free-hand empty e k p (ltb-true k s.cells.size l)))
    (λ l. cond_both s.collector.dirty _ _ KeptBy
    (λ q. scan_again_kept s I free-hand empty e k p)
    (λ q. sweep_begun_kept s I free-hand empty e k p (ltb-false k s.cells.size l) q)))

pub sweeping_kept : (s : State) → Invariant s → s.collector.stage ≡ Sweep → (place : Swept) → s.collector.swept ≡ place → KeptBy (sweeping s place)
sweeping_kept s I e Before p = I
sweeping_kept s I e Past p = I
sweeping_kept s I e (At k) p = cond_both s.collector.looked _ _ KeptBy
    (λ q. cond_both (ltb (k + 1) s.cells.size) _ _ KeptBy
    (λ l. next_cell s I e k p q (ltb-true (k + 1) s.cells.size l))
    (λ l. returned s I e k p q (ltb-false (k + 1) s.cells.size l)))
    (λ q. looked_kept s I e k p q (s.cells.colour k) refl)

stage_kept : (s : State) → Invariant s → (g : Stage) → s.collector.stage ≡ g → KeptBy (by_stage s g)
stage_kept s I Rest e = rest_kept s I e
stage_kept s I Clear e = clearing_kept s I e
stage_kept s I Mark e = marking_kept s I e
stage_kept s I Scan e = scanning_kept s I e s.collector.scanned refl
stage_kept s I Sweep e = sweeping_kept s I e s.collector.swept refl

pub collect_kept : (s : State) → Invariant s → Invariant (collect s).after
collect_kept s I = cond_both (eqb s.directory 0) _ _ KeptBy (λ e. I) (λ e. stage_kept s I s.collector.stage refl)
