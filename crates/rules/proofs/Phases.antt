-- The turns of Mark that go on to the next phase keep the invariant; the first of them begins the second half of marking.
use Rattle.std.proofs.Common.{◌≡◌, ℕ, zero, suc, ◌<◌, ◌≤◌, Bool, true, false, ◌&&◌, ◌||◌, eqb, ◌≢◌, ◌⊎◌, Some, None, Option, sym, refl, ap, ◌∙◌, subst, inl, inr, ⊎_elim, arith}
use Rattle.std.proofs.lemmas.Bool.Decides.{nat_tests}
use Rattle.std.proofs.lemmas.Bool.{cases_eq, cases_lt, cases_Bool, and_parts, eq-eqb, or_left, or_right}
use Rattle.cells.specs.declared.Colour.TheVariants.{Grey, Black}
use Rattle.bags.specs.Holding.{copies}
use Rattle.rules.specs.declared.Status.{Status}
use Rattle.rules.specs.declared.Status.TheVariants.{Async, Sync1, Sync2}
use Rattle.rules.specs.declared.Stage.TheVariants.{Mark, Scan}
use Rattle.rules.specs.declared.Step.{Step}
use Rattle.rules.specs.declared.Work.{Work}
use Rattle.rules.specs.declared.Work.TheVariants.{Change, Making}
use Rattle.rules.specs.declared.Collector.{Collector}
use Rattle.rules.specs.State.{State, Task, with_collector}
use Rattle.rules.specs.Reach.{start, along}
use Rattle.rules.specs.Collecting.{after_sync, all_agree, next_phase}
use Rattle.rules.proofs.Ways.{lead_into}
use Rattle.rules.proofs.Words.{is_shaded, Shaded, Kept, Used, directory, register, Holding, ahead_of, cached, grey_in_mark, in_directory, ahead, at_scan, dirty, Follows, TracedRoot, pending, by_hand, Traced, Marked, FirstHalf, SecondHalf, mark}
use Rattle.rules.proofs.Places.{placed, in_mark}
use Rattle.rules.proofs.Invariant.{Control, MarksFirst, MarksSecond, Invariant}
use Rattle.rules.proofs.Touched.{in_hand_or_not, kept_used, traced_used, shaded_kept}
use Rattle.rules.proofs.Handshaking.{all_agree_lem, traces_same}
use Rattle.rules.proofs.Marking.{marking_turn, second_goes_on}
use Rattle.rules.proofs.Greyings.{black_or_not, shaded_colour}
use Rattle.rules.proofs.Slots.{slot_below}

-- whether an unfinished change of one of the first k slots is to write link i of x
abbrev changes : Option Work → ℕ → ℕ → Bool
changes None x i = false
changes (Some (Change y j v step)) x i = eqb y x && eqb j i
changes (Some (Making y settled)) x i = false

abbrev changes_in : Option Task → ℕ → ℕ → Bool
changes_in None x i = false
changes_in (Some t) x i = changes t.work x i

abbrev under_change : ℕ → (ℕ → Option Task) → ℕ → ℕ → Bool
under_change zero tasks x i = false
under_change (suc k) tasks x i = changes_in (tasks k) x i || under_change k tasks x i

pub record Changing (tasks : ℕ → Option Task) (x i : ℕ) : Type 0 where
  pub slot : ℕ
  pub task : Task
  pub value : Option ℕ
  pub step : Step
  pub present : tasks slot ≡ Some task
  pub work : task.work ≡ Some (Change x i value step)

changing_of : (tasks : ℕ → Option Task) (k : ℕ) (t : Task) (w : Option Work) (x i : ℕ) → tasks k ≡ Some t → t.work ≡ w → changes w x i ≡ true → Changing tasks x i
changing_of tasks k t None x i p q e = cc
changing_of tasks k t (Some (Making y settled)) x i p q e = cc
changing_of tasks k t (Some (Change y j v step)) x i p q e =
    let both = and_parts (eqb y x) (eqb j i) e in
    let same-cell : y ≡ x = grind (arith, nat_tests, both.0) in
    let same_link : j ≡ i = grind (arith, nat_tests, both.1) in
    record { slot = k; task = t; value = v; step = step; present = p; work = q ∙ ap (λ a. Some (Change a j v step)) same-cell ∙ ap (λ a. Some (Change x a v step)) same_link }

or_parts : (a b : Bool) → (a || b) ≡ true → (a ≡ true) ⊎ (b ≡ true)
or_parts true b e = inl refl
or_parts false b e = inr e

changing_found : (k : ℕ) (tasks : ℕ → Option Task) (x i : ℕ) → under_change k tasks x i ≡ true → Changing tasks x i
changing_found zero tasks x i e = cc
changing_found (suc k) tasks x i e = ⊎_elim
    (λ (h : changes_in (tasks k) x i ≡ true). here (tasks k) refl h)
    (λ (h : under_change k tasks x i ≡ true). changing_found k tasks x i h)
    (or_parts (changes_in (tasks k) x i) (under_change k tasks x i) e)
  where
    here : (o : Option Task) → tasks k ≡ o → changes_in o x i ≡ true → Changing tasks x i
    here None p h = cc
    here (Some t) p h = changing_of tasks k t t.work x i p refl h

changing_told : (k : ℕ) (tasks : ℕ → Option Task) (m x i : ℕ) (v : Option ℕ) (step : Step) (t : Task) → m < k → tasks m ≡ Some t → t.work ≡ Some (Change x i v step) → under_change k tasks x i ≡ true
changing_told zero tasks m x i v step t l p q = absurd (omega arith)
changing_told (suc k) tasks m x i v step t l p q = ⊎_elim
    (λ (e : m ≡ k). or_left (changes_in (tasks k) x i) _
    (ap (λ o. changes_in o x i) (ap tasks (sym e) ∙ p) ∙ ap (λ w. changes w x i) q ∙ ap (λ b. b && eqb i i) (eq-eqb x x refl) ∙ eq-eqb i i refl))
    (λ (n : m ≡ k → ⊥). or_right (changes_in (tasks k) x i) _ (changing_told k tasks m x i v step t (omega arith) p q))
    (cases_eq m k)

-- statuses and phases do not matter to what is still to be traced
abbrev rephased : Collector → Status → Status → Collector
rephased co asked phase = record { status = asked; phase = phase; swept = co.swept; scanned = co.scanned; dirty = co.dirty; stage = co.stage; next = co.next; looked = co.looked; hand = co.hand }

rephased_traced : (s : State) (asked phase : Status) (Cut : ℕ → ℕ → Bool) {c : ℕ} → Traced s Cut c → Traced (with_collector s (rephased s.collector asked phase)) Cut c
rephased_traced s asked phase Cut = lead_into roots (λ x c f p. along p (follows_on f))
  where
    s' : State
    s' = with_collector s (rephased s.collector asked phase)

    follows_on : {x c : ℕ} → Follows s Cut x c → Follows s' Cut x c
    follows_on f = record { link = f.link; names = f.names; uncut = f.uncut; not_black = f.not_black; not_at_scan = λ a. f.not_at_scan (a.0, a.1, traces_same refl a.2) }

    roots : (c : ℕ) → TracedRoot s Cut c → Traced s' Cut c
    roots c (pending (cached l)) = start (pending (cached l))
    roots c (pending (grey_in_mark q k g)) = start (pending (grey_in_mark q k g))
    roots c (pending (in_directory q l h n)) = start (pending (in_directory q l h n))
    roots c (pending (ahead q p l k g)) = start (pending (ahead q p l k g))
    roots c (pending (at_scan q p l k g)) = start (pending (at_scan q p l k g))
    roots c (pending (dirty q p k g)) = start (pending (dirty q p k g))
    roots c (by_hand x f (ahead_of q l)) =
        start (by_hand x (record { link = f.link; names = f.names; uncut = f.uncut; not_black = f.not_black; not_at_scan = λ a. f.not_at_scan (a.0, a.1, traces_same refl a.2) }) (ahead_of q l))

-- every task has seen the marking begin
module _ (s : State) (I : Invariant s) (e : s.collector.stage ≡ Mark) (agree : all_agree s ≡ true) where
  abbrev s' : State
  s' = next_phase s

  agreed : (m : ℕ) (t : Task) → s.tasks m ≡ Some t → t.status ≡ s.collector.status
  agreed = all_agree_lem s I agree

  control_on : (status : after_sync s.collector.status ≡ Async) → s.collector.status ≢ Sync1 → Control s'
  control_on status later =
      let K = I.control in
      record {
        places = placed e refl refl (K.places.mark e) (K.places.unscanned (λ q. cc)) (in_mark (inr (status, later)));
        nothing_traced = λ n o u. n e;
        statuses = λ m t p. inr (agreed m t p);
        scan_looked = λ q u k r. cc;
      }

  phase_turn : (status : after_sync s.collector.status ≡ Async) → s.collector.status ≢ Sync1 → (Cut : ℕ → ℕ → Bool) → (SecondHalf s' → MarksSecond s' Cut) → Invariant s'
  phase_turn status later Cut second = marking_turn s I s.cells.colour s.cache s'.collector (λ c. inl refl) (inl e) (inl e) refl refl (control_on status later)
      I.sweeps.cached I.sweeps.in_hand I.sweeps.directory (λ h. absurd (later h.1)) Cut second

  -- to Sync2: the second half begins, with the fields cut that are under change
  module _ (asked : s.collector.status ≡ Sync2) (half : FirstHalf s) where
    abbrev cut : ℕ → ℕ → Bool
    cut = under_change 8 s.tasks

    F : MarksFirst s
    F = I.first_half half

    not_async : {A : Type 0} (m : ℕ) (t : Task) → s.tasks m ≡ Some t → t.status ≡ Async → A
    not_async m t p q = let r = agreed m t p ∙ asked in cc

    used_shaded : (c : ℕ) → Used s c → Shaded s c → Marked s' cut c
    used_shaded c u h = inl (shaded_kept s I u h)

    cut_cell_used : (x i : ℕ) → cut x i ≡ true → Used s x
    cut_cell_used x i q =
        let a = changing_found 8 s.tasks x i q in
        let held = I.works.cell_held a.slot x i a.value a.step a.task a.present a.work in
        start (register a.slot held.0 a.present held.1)

    cut_link : (x i c : ℕ) → cut x i ≡ true → s.cells.link x i ≡ Some c → Marked s' cut c
    cut_link x i c q n =
        let a = changing_found 8 s.tasks x i q in
        used_shaded c (along (cut_cell_used x i q) (i, n)) (F.changed_link a.slot x i c a.value a.step a.task a.present a.work (agreed a.slot a.task a.present ∙ asked) n)

    not_scanning : {A : Type 0} → s.collector.stage ≡ Scan → A
    not_scanning q = cc

    abbrev follows : (x i c : ℕ) → s.cells.link x i ≡ Some c → cut x i ≡ false → s.cells.colour c ≢ Black → Follows s' cut x c
    follows x i c n q b = record { link = i; names = n; uncut = q; not_black = b; not_at_scan = λ a. not_scanning a.0 }

    -- a field that is still to be followed names a marked cell
    followed_marked : (x i c : ℕ) → Used s x → s.cells.link x i ≡ Some c → (Follows_on : (f : Follows s' cut x c) → f.link ≡ i → Traced s' cut c) → Marked s' cut c
    followed_marked x i c u n on = ⊎_elim
        (λ (q : cut x i ≡ true). cut_link x i c q n)
        (λ (q : cut x i ≡ false). ⊎_elim
        (λ (b : s.cells.colour c ≡ Black). used_shaded c (along u (i, n)) (ap is_shaded b))
        (λ (b : s.cells.colour c ≢ Black). inr (on (follows x i c n q b) refl))
        (black_or_not (s.cells.colour c)))
        (cases_Bool (cut x i))

    traced_names : (x i c : ℕ) → Used s x → Traced s' cut x → s.cells.link x i ≡ Some c → Marked s' cut c
    traced_names x i c u t n = followed_marked x i c u n (λ f q. along t f)

    traced_back_used : {c : ℕ} → Traced s' cut c → Used s c
    traced_back_used t = traced_used s I cut (rephased_traced s' s.collector.status s.collector.phase cut t)

    hand_on : {x i : ℕ} → Holding s.collector x i → Holding s'.collector x i
    hand_on (ahead_of q l) = ahead_of q l

    kept_names : (x i c : ℕ) → Kept s x → s.cells.link x i ≡ Some c → Marked s' cut c
    kept_names x i c k n = ⊎_elim
        (λ (g : s.cells.colour x ≡ Grey). traced_names x i c (kept_used s I k) (start (pending (grey_in_mark e k g))) n)
        (λ (b : s.cells.colour x ≡ Black). ⊎_elim
        (λ (l : 0 < copies s.cache.members x). traced_names x i c (kept_used s I k) (start (pending (cached l))) n)
        (λ (l : copies s.cache.members x ≤ 0). ⊎_elim
        (λ (h : Holding s.collector x i). followed_marked x i c (kept_used s I k) n
        (λ f q. start (by_hand x f (subst (Holding s'.collector x) (sym q) (hand_on h)))))
        (λ (h : ¬ (Holding s.collector x i)). used_shaded c (along (kept_used s I k) (i, n)) (F.black_to_shaded x i c k b (λ m. omega arith) h n))
        (in_hand_or_not s.collector x i))
        (cases_lt 0 (copies s.cache.members x)))
        (shaded_colour (s.cells.colour x) k.0)

    closed : (x i c : ℕ) → Marked s' cut x → s.cells.link x i ≡ Some c → Marked s' cut c
    closed x i c (inl k) n = kept_names x i c k n
    closed x i c (inr t) n = traced_names x i c (traced_back_used t) t n

    directory_marked : (c : ℕ) → c < s.directory → Marked s' cut c
    directory_marked c l = ⊎_elim
        (λ (m : c < s.collector.next). used_shaded c (start (directory l)) (I.sweeps.directory e c m l))
        (λ (m : s.collector.next ≤ c). ⊎_elim
        (λ (b : s.cells.colour c ≡ Black). used_shaded c (start (directory l)) (ap is_shaded b))
        (λ (b : s.cells.colour c ≢ Black). inr (start (pending (in_directory e m l b))))
        (black_or_not (s.cells.colour c)))
        (cases_lt c s.collector.next)

    second_begun : MarksSecond s' cut
    second_begun = record {
      closed = closed;
      registers = λ m j c t p q n. not_async m t p q;
      filled = λ m x i c a t p q w n. not_async m t p q;
      directory = directory_marked;
      cut_names = cut_link;
      cut_cell = λ x i q. let a = I.safe x (cut_cell_used x i q) in (a.1, a.2);
      sync_cut = λ m x i y step t p q g. changing_told 8 s.tasks m x i y step t (slot_below I.structure.slots m t p) p q;
      store_cut = λ m x i y t p q. changing_told 8 s.tasks m x i y _ t (slot_below I.structure.slots m t p) p q;
      warn_cut = λ m x i old y t p q. inl (changing_told 8 s.tasks m x i y _ t (slot_below I.structure.slots m t p) p q);
    }

    pub second_half_kept : Invariant s'
    second_half_kept = phase_turn (ap after_sync asked) (λ q. cc) cut (λ h. second_begun)

  -- to Async: the second half goes on
  module _ (asked : s.collector.status ≡ Async) (half : SecondHalf s) where
    pub last_phase_kept : Invariant s'
    last_phase_kept = phase_turn (ap after_sync asked) (λ q. cc) I.Cut
        (λ h. second_goes_on s I s.cells.colour s.cache s'.collector (λ c. inl refl) half (λ c. inl refl) I.sweeps.cached I.sweeps.in_hand
        (λ c t. inr (rephased_traced s (after_sync s.collector.status) s.collector.status I.Cut t)))

  pub phase_kept : Invariant (next_phase s)
  phase_kept = ⊎_elim
      (λ (a : (s.collector.status ≡ Sync2) × (s.collector.phase ≡ Sync1)). second_half_kept a.0 (e, a.1))
      (λ (a : (s.collector.status ≡ Async) × (s.collector.phase ≢ Sync1)). last_phase_kept a.0 (mark e a.1))
      (I.control.places.mark_statuses e)
