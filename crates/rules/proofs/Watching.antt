-- Cells out of reach, watched along a run until they are free: no turn brings one back into reach.
use Rattle.std.proofs.Common.{◌≡◌, ℕ, ◌<◌, ◌≢◌, ◌⊎◌, Some, Option, sym, ap, ◌∙◌, subst, ⊎_elim}
use Rattle.cells.specs.declared.Colour.TheVariants.{Blue, White}
use Rattle.rules.specs.declared.Stage.TheVariants.{Sweep}
use Rattle.rules.specs.State.{Task, State}
use Rattle.rules.specs.Reach.{start, along, Root, directory, register, making, InReach}
use Rattle.rules.proofs.Words.{behind, looked_at, Passed}
use Rattle.rules.proofs.Invariant.{Invariant}
use Rattle.rules.proofs.Moments.{reach_not_free}

-- roots look at the tasks and the directory alone
pub roots_of : {s s' : State} → s'.tasks ≡ s.tasks → s'.directory ≡ s.directory → (c : ℕ) → Root s' c → Root s c
roots_of tasks d c (directory l) = directory (subst (λ k. c < k) d l)
roots_of tasks d c (register m j p q) = register m j (sym (ap (λ (f : ℕ → Option Task). f m) tasks) ∙ p) q
roots_of tasks d c (making m b p q) = making m b (sym (ap (λ (f : ℕ → Option Task). f m) tasks) ∙ p) q

-- none of Z is free or in reach, and only cells of Z or free cells name one
pub record Watched (Z : ℕ → Type 0) (s : State) : Type 0 where
  pub not_blue : (c : ℕ) → Z c → s.cells.colour c ≢ Blue
  pub out : (c : ℕ) → Z c → ¬ (InReach s c)
  pub named_within : (x i c : ℕ) → Z c → s.cells.colour x ≢ Blue → s.cells.link x i ≡ Some c → Z x

-- those of Z that are still not free
abbrev pub Left : (ℕ → Type 0) → State → ℕ → Type 0
Left Z s c = Z c × (s.cells.colour c ≢ Blue)

-- roots and links after a turn lead to what was in reach, or to what was free
pub record Leads (s s' : State) : Type 0 where
  pub roots : (c : ℕ) → Root s' c → InReach s c ⊎ (s.cells.colour c ≡ Blue)
  pub links : (x i c : ℕ) → s'.cells.colour x ≢ Blue → s'.cells.link x i ≡ Some c → ((s.cells.colour x ≢ Blue) × (s.cells.link x i ≡ Some c)) ⊎ InReach s c

module _ {Z : ℕ → Type 0} {s s' : State} (W : Watched Z s) (leads : Leads s s') (I' : Invariant s') where
  still_named_within : (x i c : ℕ) → Left Z s' c → s'.cells.colour x ≢ Blue → s'.cells.link x i ≡ Some c → Left Z s' x
  still_named_within x i c z n e = ⊎_elim
      (λ (o : (s.cells.colour x ≢ Blue) × (s.cells.link x i ≡ Some c)). (W.named_within x i c z.0 o.0 o.1, n))
      (λ (r : InReach s c). absurd (W.out c z.0 r))
      (leads.links x i c n e)

  still_out : {c : ℕ} → InReach s' c → ¬ (Left Z s' c)
  still_out (start {c} r) z = ⊎_elim (λ (p : InReach s c). W.out c z.0 p) (λ b. W.not_blue c z.0 b) (leads.roots c r)
  still_out (along {x} {c} p e) z = still_out p (still_named_within x e.0 c z (reach_not_free s' I' x p) e.1)

  pub watched_on : Watched (Left Z s') s'
  watched_on = record { not_blue = λ c z. z.1; out = λ c z r. still_out r z; named_within = still_named_within }

-- before the first return: what the sweep is past is White
abbrev pub BeforeFirst : (ℕ → Type 0) → State → Type 0
BeforeFirst Z s = s.collector.stage ≡ Sweep → (c : ℕ) → Z c → Passed s c → s.cells.colour c ≡ White

-- between the first return and the second: all are White, and the sweep is past none
pub record BeforeSecond (Z : ℕ → Type 0) (s : State) : Type 0 where
  pub white : (c : ℕ) → Z c → s.cells.colour c ≡ White
  pub ahead : s.collector.stage ≡ Sweep → (c : ℕ) → Z c → ¬ (Passed s c)

-- what a task's turn may change
pub record Tasked (s s' : State) : Type 0 where
  pub leads : Leads s s'
  pub size : s'.cells.size ≡ s.cells.size
  pub colours : (c : ℕ) → (s'.cells.colour c ≡ s.cells.colour c) ⊎ (InReach s c ⊎ (s.cells.colour c ≡ Blue))
  pub stage : s'.collector.stage ≡ s.collector.stage
  pub swept : s'.collector.swept ≡ s.collector.swept
  pub looked : s'.collector.looked ≡ s.collector.looked

module _ {Z : ℕ → Type 0} {s s' : State} (W : Watched Z s) (T : Tasked s s') where
  as_coloured : (c : ℕ) → Z c → s'.cells.colour c ≡ s.cells.colour c
  as_coloured c z = ⊎_elim (λ e. e) (λ o. absurd (⊎_elim (λ (r : InReach s c). W.out c z r) (λ b. W.not_blue c z b) o)) (T.colours c)

  as_passed : (c : ℕ) → Passed s' c → Passed s c
  as_passed c (behind e l) = behind (sym T.swept ∙ e) l
  as_passed c (looked_at e l) = looked_at (sym T.swept ∙ e) (sym T.looked ∙ l)

  pub tasked_first : BeforeFirst Z s → BeforeFirst (Left Z s') s'
  tasked_first F g c z p = as_coloured c z.0 ∙ F (sym T.stage ∙ g) c z.0 (as_passed c p)

  pub tasked_second : BeforeSecond Z s → BeforeSecond (Left Z s') s'
  tasked_second S = record {
    white = λ c z. as_coloured c z.0 ∙ S.white c z.0;
    ahead = λ g c z p. S.ahead (sym T.stage ∙ g) c z.0 (as_passed c p);
  }
