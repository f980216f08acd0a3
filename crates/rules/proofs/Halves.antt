-- What the two halves of marking tell of the statuses of tasks and of the sweep.
use Rattle.std.proofs.Common.{◌≡◌, ℕ, ◌≢◌, ◌⊎◌, Some, refl, ◌∙◌, inl, inr, ⊎_elim}
use Rattle.rules.specs.declared.Status.{Status}
use Rattle.rules.specs.declared.Status.TheVariants.{Async, Sync1, Sync2}
use Rattle.rules.specs.declared.Stage.TheVariants.{Mark}
use Rattle.rules.specs.declared.Swept.TheVariants.{Before}
use Rattle.rules.specs.State.{Task, State}
use Rattle.rules.proofs.Words.{FirstHalf, SecondHalf, mark, scan}
use Rattle.rules.proofs.Invariant.{Invariant}

pub async_or_not : (q : Status) → (q ≡ Async) ⊎ (q ≢ Async)
async_or_not Async = inl refl
async_or_not Sync1 = inr (λ e. cc)
async_or_not Sync2 = inr (λ e. cc)

only_sync2 : (q : Status) → q ≢ Async → q ≢ Sync1 → q ≡ Sync2
only_sync2 Async a b = absurd (a refl)
only_sync2 Sync1 a b = absurd (b refl)
only_sync2 Sync2 a b = refl

module _ (s : State) (I : Invariant s) where
  pub unswept : SecondHalf s → s.collector.swept ≡ Before
  unswept (mark e n) = I.control.places.mark e
  unswept (scan e) = (I.control.places.scan e).2

  pub status_asked : SecondHalf s → s.collector.status ≡ Async
  status_asked (mark e n) = ⊎_elim
      (λ (r : (s.collector.status ≡ Sync2) × (s.collector.phase ≡ Sync1)). absurd (n r.1))
      (λ (r : (s.collector.status ≡ Async) × (s.collector.phase ≢ Sync1)). r.0)
      (I.control.places.mark_statuses e)
  status_asked (scan e) = (I.control.places.scan e).0

  module _ (m : ℕ) (t : Task) (present : s.tasks m ≡ Some t) where
    -- no task is at Async in the first half
    pub first_not_async : FirstHalf s → t.status ≢ Async
    first_not_async h e = ⊎_elim
        (λ (r : (s.collector.status ≡ Sync2) × (s.collector.phase ≡ Sync1)). ⊎_elim
        (λ (k : t.status ≡ s.collector.status). let g = r.0 in cc)
        (λ (k : t.status ≡ s.collector.phase). let g = r.1 in cc)
        (I.control.statuses m t present))
        (λ (r : (s.collector.status ≡ Async) × (s.collector.phase ≢ Sync1)). r.1 h.1)
        (I.control.places.mark_statuses h.0)

    pub all_async : s.collector.status ≡ Async → s.collector.phase ≡ Async → t.status ≡ Async
    all_async a b = ⊎_elim (λ (k : t.status ≡ s.collector.status). k ∙ a) (λ (k : t.status ≡ s.collector.phase). k ∙ b) (I.control.statuses m t present)

    -- in the second half a task that is not at Async is at Sync2, and has not let the marking come to its scan
    pub second_sync2 : SecondHalf s → t.status ≢ Async → t.status ≡ Sync2
    second_sync2 h n = ⊎_elim
        (λ (k : t.status ≡ s.collector.status). absurd (n (k ∙ status_asked h)))
        (λ (k : t.status ≡ s.collector.phase). k ∙ only_sync2 s.collector.phase (λ a. n (k ∙ a)) (other_phase h))
        (I.control.statuses m t present)
      where
        other_phase : SecondHalf s → s.collector.phase ≢ Sync1
        other_phase (mark e p) = p
        other_phase (scan e) = λ (b : s.collector.phase ≡ Sync1). let a = (I.control.places.scan e).1 in cc

    pub second_in_mark : SecondHalf s → t.status ≢ Async → s.collector.stage ≡ Mark
    second_in_mark (mark e p) n = e
    second_in_mark (scan e) n = let a = I.control.places.scan e in absurd (n (all_async a.0 a.1))
