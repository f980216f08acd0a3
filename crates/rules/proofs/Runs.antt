-- The law over runs, from the invariant at each of their moments.
use Rattle.std.proofs.Common.{◌≡◌, ℕ, ◌<◌, ◌≢◌, ◌⊎◌, List, [], ◌∷◌, sym, refl, subst, inl, inr, ⊎_elim, arith}
use Rattle.cells.specs.declared.Colour.TheVariants.{Blue}
use Rattle.rules.specs.declared.Call.{Call}
use Rattle.rules.specs.declared.Call.TheVariants.{Enter, Launch, Leave, Point, Move, Clear, Load, Reserve, GiveBack, Make, CarryOn, Fill, Finish, Scrap, Change, Cooperate, Collect}
use Rattle.rules.specs.State.{State}
use Rattle.rules.specs.Reach.{along, InReach}
use Rattle.rules.specs.Turns.{rule_of}
use Rattle.rules.specs.Law.{moments, AtEach, ToReturn, last, returned, goes, GarbageFreed, Sound, LawOfRuns}
use Rattle.rules.proofs.Numbers.{none_of}
use Rattle.rules.proofs.Invariant.{Invariant}
use Rattle.rules.proofs.Moments.{none_freed, free_held_once}
use Rattle.rules.proofs.Beginning.{just_begun}
use Rattle.rules.proofs.Watching.{Watched, Left, Leads, watched_on, BeforeFirst, BeforeSecond, tasked_first, tasked_second}
use Rattle.rules.proofs.TaskedMakings.{tasked}
use Rattle.rules.proofs.Collected.{Collected, collected_size, collected}
use Rattle.rules.proofs.Cycles.{collected_leads, collected_first, collected_second, returned_first, returned_second}

collect_or_not : (c : Call) → (c ≡ Collect) ⊎ (c ≢ Collect)
collect_or_not (Enter p) = inr (λ e. cc)
collect_or_not (Launch m p mask) = inr (λ e. cc)
collect_or_not (Leave m) = inr (λ e. cc)
collect_or_not (Point m j b) = inr (λ e. cc)
collect_or_not (Move m a b) = inr (λ e. cc)
collect_or_not (Clear m b) = inr (λ e. cc)
collect_or_not (Load m a i b) = inr (λ e. cc)
collect_or_not (Reserve m) = inr (λ e. cc)
collect_or_not (GiveBack m) = inr (λ e. cc)
collect_or_not (Make m) = inr (λ e. cc)
collect_or_not (CarryOn m) = inr (λ e. cc)
collect_or_not (Fill m i a) = inr (λ e. cc)
collect_or_not (Finish m x b) = inr (λ e. cc)
collect_or_not (Scrap m x) = inr (λ e. cc)
collect_or_not (Change m a i b) = inr (λ e. cc)
collect_or_not (Cooperate m) = inr (λ e. cc)
collect_or_not Collect = inl refl

-- what any turn leaves of the watched cells
record Turned (Z : ℕ → Type 0) (s s' : State) : Type 0 where
  leads : Leads s s'
  size : s'.cells.size ≡ s.cells.size
  first : BeforeFirst Z s → BeforeFirst (Left Z s') s'
  second : BeforeSecond Z s → BeforeSecond (Left Z s') s'

turned : {Z : ℕ → Type 0} (s : State) → Invariant s → Watched Z s → (c : Call) → Turned Z s (rule_of c s).after
turned s I W c = ⊎_elim
    (λ (e : c ≡ Collect).
    let C = subst (λ k. Collected s (rule_of k s)) (sym e) (collected s I) in
    record {
      leads = collected_leads s I (rule_of c s) C;
      size = collected_size C;
      first = λ F. collected_first s I W (rule_of c s) F C;
      second = λ S. collected_second s I W (rule_of c s) S C;
    })
    (λ (n : c ≢ Collect).
    let T = tasked s I c n in
    record { leads = T.leads; size = T.size; first = tasked_first W T; second = tasked_second W T })
    (collect_or_not c)

-- the watched cells while k returns are still to come
abbrev Due : ℕ → (ℕ → Type 0) → State → Type 0
Due k Z s = ((k ≡ 2) × BeforeFirst Z s) ⊎ ((k ≡ 1) × BeforeSecond Z s)

at_first : (P : State → Type 0) (s : State) (calls : List Call) → AtEach P (moments s calls) → P s
at_first P s [] each = each.0
at_first P s (c ∷ calls) each = each.0

module _ (turn_kept : (s : State) → Invariant s → (c : Call) → Invariant (rule_of c s).after) where
  -- no watched cell of the table lasts to the second return without being free at some moment
  none_lasts : {k : ℕ} {s : State} {calls : List Call} → ToReturn k s calls → {Z : ℕ → Type 0} → Invariant s → Watched Z s → Due k Z s
      → (c : ℕ) → c < s.cells.size → Z c → ¬ (AtEach (λ t. ¬ (t.cells.colour c ≡ Blue)) (moments s calls))
  none_lasts (last {s} two) I W due c l z each = ⊎_elim
      (λ d. let e = d.0 in absurd (omega arith))
      (λ d. returned_second s I W (rule_of Collect s) two d.1 (collected s I) c l z)
      due
  none_lasts (returned {k} {s} {cs} two more) I W due c l z each = ⊎_elim
      (λ d. let e = d.0 in
      let one_more : k ≡ 1 = omega arith in
      let I' = turn_kept s I Collect in
      let T = turned s I W Collect in
      none_lasts more I' (watched_on W T.leads I') (inr (one_more, returned_first s I W (rule_of Collect s) two d.1 (collected s I)))
      c (subst (λ n. c < n) (sym T.size) l) (z, at_first _ _ cs each.1) each.1)
      (λ d. returned_second s I W (rule_of Collect s) two d.1 (collected s I) c l z)
      due
  none_lasts (goes {k} {s} {c = call} {cs} n more) I W due c l z each =
      let I' = turn_kept s I call in
      let T = turned s I W call in
      none_lasts more I' (watched_on W T.leads I') (⊎_elim (λ d. inl (d.0, T.first d.1)) (λ d. inr (d.0, T.second d.1)) due)
      c (subst (λ n. c < n) (sym T.size) l) (z, at_first _ _ cs each.1) each.1

  pub garbage_freed : (s : State) → Invariant s → GarbageFreed s
  garbage_freed s I calls rests ends = none_of _ s.cells.size (λ c l p.
      none_lasts ends {Z = λ x. (¬ (InReach s x)) × (s.cells.colour x ≢ Blue)} I
      (record {
        not_blue = λ x z. z.1;
        out = λ x z. z.0;
        named_within = λ x i y z n e. (λ r. z.0 (along r (i, e)), n);
      })
      (inl (refl, λ g. cc))
      c l (p.0, at_first _ s (Collect ∷ calls) p.1) p.1)

  sound : (s : State) → Invariant s → Sound s
  sound s I = record { none_freed = none_freed s I; garbage_freed = garbage_freed s I; held_once = free_held_once s I }

  sound_at_each : (s : State) → Invariant s → (calls : List Call) → AtEach Sound (moments s calls)
  sound_at_each s I [] = (sound s I, tt)
  sound_at_each s I (c ∷ calls) = (sound s I, sound_at_each (rule_of c s).after (turn_kept s I c) calls)

  pub law_of_runs : LawOfRuns
  law_of_runs s began = sound_at_each s (just_begun s began)
