-- A task whose status or unfinished change becomes another keeps the invariant, if the new ones fit the state; it makes no cell
-- before or after.
use Rattle.std.proofs.Common.{◌≡◌, ℕ, ◌+◌, ◌<◌, ◌≤◌, Bool, true, false, ◌≢◌, ◌⊎◌, length, Some, None, Option, sym, refl, ap, ◌∙◌, subst, inl, inr, ⊎_elim, arith}
use Rattle.cells.specs.Memory.{at}
use Rattle.bags.specs.Holding.{copies}
use Rattle.rules.specs.declared.Status.{Status}
use Rattle.rules.specs.declared.Status.TheVariants.{Async, Sync2}
use Rattle.rules.specs.declared.Step.{Step}
use Rattle.rules.specs.declared.Step.TheVariants.{Grey as GreyStep, Warn, Store}
use Rattle.rules.specs.declared.Work.{Work}
use Rattle.rules.specs.declared.Work.TheVariants.{Change, Making}
use Rattle.rules.specs.State.{Task, State, with_task}
use Rattle.rules.specs.Reach.{start, along}
use Rattle.rules.specs.Pools.{pool_in}
use Rattle.rules.proofs.Ways.{lead_into}
use Rattle.rules.proofs.Slots.{at_cases, at_other, pooled_swap, slot_below}
use Rattle.rules.proofs.Words.{MadeBy, made_by, Made, Shaded, Kept, Used, UsedRoot, directory, register, kept, filled, FirstHalf, SecondHalf, Marked}
use Rattle.rules.proofs.Remade.{kept_on, marked_on}
use Rattle.rules.proofs.Invariant.{Structure, Control, Works, NewCells, Sweeps, MarksFirst, MarksSecond, Invariant, Unsettled, taken}

-- a change of link i of cell x to y that is at that step, by a task of status q with those registers
pub record ChangeFits (s : State) (I : Invariant s) (registers : ℕ → Option ℕ) (q : Status) (x i : ℕ) (y : Option ℕ) (step : Step) : Type 0 where
  pub cell_held : (j : ℕ) × (registers j ≡ Some x)
  pub value_held : (c : ℕ) → y ≡ Some c → (j : ℕ) × (registers j ≡ Some c)
  pub link_there : i < s.links
  pub grey_step : step ≡ GreyStep → q ≢ Async
  pub warn_step : (old : ℕ) → step ≡ Warn old → q ≡ Async
  pub new_value : step ≡ Store → q ≢ Async → (c : ℕ) → y ≡ Some c → Shaded s c
  pub changed_link : FirstHalf s → q ≡ Sync2 → (c : ℕ) → s.cells.link x i ≡ Some c → Shaded s c
  pub sync_cut : SecondHalf s → q ≡ Sync2 → I.Cut x i ≡ true
  pub store_cut : SecondHalf s → step ≡ Store → I.Cut x i ≡ true
  pub warn_cut : SecondHalf s → (old : ℕ) → step ≡ Warn old → (I.Cut x i ≡ true) ⊎ ((s.cells.link x i ≡ Some old) × Shaded s old)

abbrev pub WorkFits : (s : State) → Invariant s → (ℕ → Option ℕ) → Status → Option Work → Type 0
WorkFits s I registers q None = Unit {0}
WorkFits s I registers q (Some (Change x i y step)) = ChangeFits s I registers q x i y step
WorkFits s I registers q (Some (Making x settled)) = ⊥

-- the task, with another status and other work
abbrev pub retasked : Task → Status → Option Work → Task
retasked t q w = record { status = q; registers = t.registers; pool = t.pool; work = w }

module _ (s : State) (I : Invariant s) (m : ℕ) (t : Task) (present : s.tasks m ≡ Some t) (no_making : (x : ℕ) (a : Bool) → t.work ≡ Some (Making x a) → ⊥)
    (q : Status) (w : Option Work) (status : (q ≡ s.collector.status) ⊎ (q ≡ s.collector.phase)) (fits : WorkFits s I t.registers q w)
    (marked : SecondHalf s → q ≡ Async → (j c : ℕ) → t.registers j ≡ Some c → Marked s I.Cut c) where
  abbrev u : Task
  u = retasked t q w

  abbrev tasks' : ℕ → Option Task
  tasks' = at m (Some u) s.tasks

  abbrev s' : State
  s' = with_task s m (Some u)

  -- a task is the new one, or another that was there
  found : (k : ℕ) (v : Task) → tasks' k ≡ Some v → (u ≡ v) ⊎ (s.tasks k ≡ Some v)
  found k v p = ⊎_elim
      (λ (e : (k ≡ m) × (Some u ≡ Some v)). let h = e.1 in inl cc)
      (λ (e : (k ≡ m → ⊥) × (s.tasks k ≡ Some v)). inr e.1)
      (at_cases m (Some u) s.tasks k (Some v) p)

  within : m < 8
  within = slot_below I.structure.slots m t present

  -- what a change of the new task must meet
  change_fits : (v : Task) (x i : ℕ) (y : Option ℕ) (step : Step) → u ≡ v → v.work ≡ Some (Change x i y step) → ChangeFits s I v.registers v.status x i y step
  change_fits v x i y step same e = subst (λ (o : Option Work). WorkFits s I v.registers v.status o) e (subst (λ (n : Task). WorkFits s I n.registers n.status n.work) same fits)

  making_fits : (v : Task) (x : ℕ) (a : Bool) → u ≡ v → v.work ≡ Some (Making x a) → ⊥
  making_fits v x a same e = subst (λ (o : Option Work). WorkFits s I v.registers v.status o) e (subst (λ (n : Task). WorkFits s I n.registers n.status n.work) same fits)

  makes_on : (k x : ℕ) (a : Bool) (v : Task) → tasks' k ≡ Some v → v.work ≡ Some (Making x a) → s.tasks k ≡ Some v
  makes_on k x a v p e = ⊎_elim (λ (same : u ≡ v). absurd (making_fits v x a same e)) (λ (was : s.tasks k ≡ Some v). was) (found k v p)

  makes_back : (k x : ℕ) (a : Bool) (v : Task) → s.tasks k ≡ Some v → v.work ≡ Some (Making x a) → tasks' k ≡ Some v
  makes_back k x a v p e = at_other m (Some u) s.tasks k (λ (h : k ≡ m).
      let r = ap s.tasks (sym h) ∙ p in let same : t ≡ v = cc in no_making x a (ap (λ (n : Task). n.work) same ∙ e)) ∙ p

  made_on : (x : ℕ) → Made s x → MadeBy tasks' x
  made_on x (made_by k b {t = v} p e) = made_by k b (makes_back k x b v p e) e

  made_back : (x : ℕ) → MadeBy tasks' x → Made s x
  made_back x (made_by k b {t = v} p e) = made_by k b (makes_on k x b v p e) e

  keep_on : {x : ℕ} → Kept s x → Kept s' x
  keep_on = kept_on s.cells s.cache s.collector s.directory (Made s) (Made s') made_back

  keep_back : {x : ℕ} → Kept s' x → Kept s x
  keep_back = kept_on s.cells s.cache s.collector s.directory (Made s') (Made s) made_on

  mark_on : {c : ℕ} → Marked s I.Cut c → Marked s' I.Cut c
  mark_on = marked_on s.cells s.cache s.collector s.directory (Made s) (Made s') made_back I.Cut

  mark_back : {c : ℕ} → Marked s' I.Cut c → Marked s I.Cut c
  mark_back = marked_on s.cells s.cache s.collector s.directory (Made s') (Made s) made_on I.Cut

  used_back : {c : ℕ} → Used s' c → Used s c
  used_back = lead_into roots (λ x c e p. along p e)
    where
      roots : (c : ℕ) → UsedRoot s' c → Used s c
      roots c (directory l) = start (directory l)
      roots c (register k j {t = v} p e) = ⊎_elim
          (λ (same : u ≡ v). start (register m j present (ap (λ (n : Task). n.registers j) same ∙ e)))
          (λ (was : s.tasks k ≡ Some v). start (register k j was e))
          (found k v p)
      roots c (kept k) = start (kept (keep_back k))
      roots c (filled i k e) = start (filled i (made_back _ k) e)

  unsettled_on : (x : ℕ) → Unsettled s x → Unsettled s' x
  unsettled_on x (k, (v, (p, e))) = (k, (v, (makes_back k x false v p e, e)))

  still_structure : Structure s'
  still_structure =
      let S = I.structure in
      record {
        some = S.some;
        within = S.within;
        memory = S.memory;
        links = S.links;
        free_fair = S.free_fair;
        cache_fair = S.cache_fair;
        free_room = S.free_room;
        cache_room = S.cache_room;
        slots = λ k g. at_other m (Some u) s.tasks k (λ e. omega (arith, within)) ∙ S.slots k g;
        registers = λ k j v p g. ⊎_elim
            (λ (same : u ≡ v). sym (ap (λ (n : Task). n.registers j) same) ∙ S.registers m j t present g)
            (λ (was : s.tasks k ≡ Some v). S.registers k j v was g)
            (found k v p);
        pools = λ k v p. ⊎_elim
            (λ (same : u ≡ v). subst (λ (n : Task). length n.pool + taken n.work ≤ 4) same (few w fits))
            (λ (was : s.tasks k ≡ Some v). S.pools k v was)
            (found k v p);
        account = λ c. let swap = pooled_swap 8 m within (Some u) s.tasks c in let was = S.account c in let held = ap (λ o. copies (pool_in o) c) present in omega arith;
      }
    where
      few : (o : Option Work) → WorkFits s I t.registers q o → length t.pool + taken o ≤ 4
      few None f = omega (arith, I.structure.pools m t present)
      few (Some (Change x i y step)) f = omega (arith, I.structure.pools m t present)
      few (Some (Making x a)) f = absurd f

  still_control : Control s'
  still_control =
      let K = I.control in
      record {
        places = K.places;
        nothing_traced = K.nothing_traced;
        statuses = λ k v p. ⊎_elim
            (λ (same : u ≡ v). subst (λ (n : Task). (n.status ≡ s.collector.status) ⊎ (n.status ≡ s.collector.phase)) same status)
            (λ (was : s.tasks k ≡ Some v). K.statuses k v was)
            (found k v p);
        scan_looked = λ e b k p. let a = K.scan_looked e b k p in (a.0, a.1, keep_on a.2);
      }

  still_works : Works s'
  still_works =
      let W = I.works in
      record {
        cell_held = λ k x i y step v p e. ⊎_elim (λ same. (change_fits v x i y step same e).cell_held) (λ was. W.cell_held k x i y step v was e) (found k v p);
        value_held = λ k x i c step v p e. ⊎_elim (λ same. (change_fits v x i (Some c) step same e).value_held c refl) (λ was. W.value_held k x i c step v was e) (found k v p);
        link_there = λ k x i y step v p e. ⊎_elim (λ same. (change_fits v x i y step same e).link_there) (λ was. W.link_there k x i y step v was e) (found k v p);
        grey_step = λ k x i y v p e. ⊎_elim (λ same. (change_fits v x i y GreyStep same e).grey_step refl) (λ was. W.grey_step k x i y v was e) (found k v p);
        warn_step = λ k x i old y v p e. ⊎_elim (λ same. (change_fits v x i y (Warn old) same e).warn_step old refl) (λ was. W.warn_step k x i old y v was e) (found k v p);
        made_apart = λ x k. W.made_apart x (made_back x k);
        made_once = λ k l x a b v n p e r d. W.made_once k l x a b v n (makes_on k x a v p e) e (makes_on l x b n r d) d;
      }

  still_new : NewCells s'
  still_new =
      let N = I.new_cells in
      record {
        unsettled = λ k x v p e n. N.unsettled k x v (makes_on k x false v p e) e n;
        settled = λ k x v p e n. N.settled k x v (makes_on k x true v p e) e n;
        in_mark = λ k x a v p e g h. N.in_mark k x a v (makes_on k x a v p e) e g h;
        in_scan = λ k x a v p e g h. N.in_scan k x a v (makes_on k x a v p e) e g h;
      }

  still_sweeps : Sweeps s'
  still_sweeps =
      let W = I.sweeps in
      record {
        cached = λ c l. keep_on (W.cached c l);
        in_hand = λ h e. let a = W.in_hand h e in (keep_on a.0, a.1);
        rest_black = λ e x b. unsettled_on x (W.rest_black e x b);
        clear_black = λ e x b. unsettled_on x (W.clear_black e x b);
        behind = λ e x h b. unsettled_on x (W.behind e x h b);
        ahead_used = λ e x k b. W.ahead_used e x (used_back k) b;
        ahead_made = λ e x k b. W.ahead_made e x (made_back x k) b;
        new_value = λ k x i c v p e n. ⊎_elim (λ same. (change_fits v x i (Some c) Store same e).new_value refl n c refl) (λ was. W.new_value k x i c v was e n) (found k v p);
        directory = W.directory;
      }

  still_first : FirstHalf s' → MarksFirst s'
  still_first h =
      let F = I.first_half h in
      record {
        black_to_shaded = λ x i c k b n a e. F.black_to_shaded x i c (keep_back k) b n a e;
        changed_link = λ k x i c y step v p e g l. ⊎_elim (λ same. (change_fits v x i y step same e).changed_link h g c l) (λ was. F.changed_link k x i c y step v was e g l) (found k v p);
      }

  still_second : SecondHalf s' → MarksSecond s' I.Cut
  still_second h =
      let M = I.second_half h in
      record {
        closed = λ x i c k e. mark_on (M.closed x i c (mark_back k) e);
        registers = λ k j c v p g e. ⊎_elim
            (λ (same : u ≡ v). mark_on (marked h (ap (λ (n : Task). n.status) same ∙ g) j c (ap (λ (n : Task). n.registers j) same ∙ e)))
            (λ (was : s.tasks k ≡ Some v). mark_on (M.registers k j c v was g e))
            (found k v p);
        filled = λ k x i c a v p g e l. mark_on (M.filled k x i c a v (makes_on k x a v p e) g e l);
        directory = λ c l. mark_on (M.directory c l);
        cut_names = λ x i c k e. mark_on (M.cut_names x i c k e);
        cut_cell = λ x i k. let a = M.cut_cell x i k in (a.0, λ y. a.1 (made_back x y));
        sync_cut = λ k x i y step v p e g. ⊎_elim (λ same. (change_fits v x i y step same e).sync_cut h g) (λ was. M.sync_cut k x i y step v was e g) (found k v p);
        store_cut = λ k x i y v p e. ⊎_elim (λ same. (change_fits v x i y Store same e).store_cut h refl) (λ was. M.store_cut k x i y v was e) (found k v p);
        warn_cut = λ k x i old y v p e. ⊎_elim (λ same. (change_fits v x i y (Warn old) same e).warn_cut h old refl) (λ was. M.warn_cut k x i old y v was e) (found k v p);
      }

  pub retasked_turn : Invariant (with_task s m (Some (retasked t q w)))
  retasked_turn = record {
    structure = still_structure;
    control = still_control;
    works = still_works;
    safe = λ c k. let a = I.safe c (used_back k) in (a.0, a.1, λ y. a.2 (made_back c y));
    new_cells = still_new;
    sweeps = still_sweeps;
    first_half = still_first;
    Cut = I.Cut;
    second_half = still_second;
  }
