-- A turn that leaves another task without unfinished work in a slot, or none, keeps the invariant, if free list and pool hold
-- together what they held.
use Rattle.std.proofs.Common.{◌≡◌, ℕ, ◌+◌, ◌<◌, ◌≤◌, ◌⊎◌, length, Some, None, Option, sym, refl, ap, ◌∙◌, subst, ⊎_elim, arith}
use Rattle.cells.specs.Memory.{at}
use Rattle.bags.specs.Holding.{Hold, Fair, copies}
use Rattle.rules.specs.declared.Status.TheVariants.{Async}
use Rattle.rules.specs.declared.Work.{Work}
use Rattle.rules.specs.State.{Task, State, with_free, with_task}
use Rattle.rules.specs.Reach.{start, along}
use Rattle.rules.specs.Pools.{pool_in}
use Rattle.rules.proofs.Ways.{lead_into}
use Rattle.rules.proofs.Slots.{at_cases, at_other, pooled_swap}
use Rattle.rules.proofs.Words.{MadeBy, made_by, Made, Kept, Used, UsedRoot, directory, register, kept, filled, FirstHalf, SecondHalf, Marked}
use Rattle.rules.proofs.Remade.{kept_on, marked_on}
use Rattle.rules.proofs.Invariant.{Structure, Control, Works, NewCells, Sweeps, MarksFirst, MarksSecond, Invariant, Unsettled, taken}

-- what the new task must be
pub record Fits (s : State) (I : Invariant s) (u : Task) : Type 0 where
  pub idle : u.work ≡ None
  pub status : (u.status ≡ s.collector.status) ⊎ (u.status ≡ s.collector.phase)
  pub few : (j : ℕ) → 8 ≤ j → u.registers j ≡ None
  pub pool : length u.pool ≤ 4
  pub used : (j c : ℕ) → u.registers j ≡ Some c → Used s c
  pub marked : SecondHalf s → u.status ≡ Async → (j c : ℕ) → u.registers j ≡ Some c → Marked s I.Cut c

module _ (s : State) (I : Invariant s) (m : ℕ) (within : m < 8) (o : Option Task)
    (was-idle : (t : Task) → s.tasks m ≡ Some t → t.work ≡ None)
    (fits : (u : Task) → o ≡ Some u → Fits s I u)
    (h : Hold) (manner : h.manner ≡ s.free.manner) (room : h.room ≡ s.free.room)
    (together : (c : ℕ) → copies h.members c + copies (pool_in o) c ≡ copies s.free.members c + copies (pool_in (s.tasks m)) c) where
  no_work : {A : Type 0} {w : Work} (t : Task) → t.work ≡ None → t.work ≡ Some w → A
  no_work t p q = cc

  -- a task with work is another task, and was there
  abbrev working : Type 0
  working = (k : ℕ) (t : Task) (w : Work) → at m o s.tasks k ≡ Some t → t.work ≡ Some w → s.tasks k ≡ Some t

  works_on : working
  works_on k t w p q = ⊎_elim
      (λ (e : (k ≡ m) × (o ≡ Some t)). no_work t (fits t e.1).idle q)
      (λ (e : (k ≡ m → ⊥) × (s.tasks k ≡ Some t)). e.1)
      (at_cases m o s.tasks k (Some t) p)

  works_back : (k : ℕ) (t : Task) (w : Work) → s.tasks k ≡ Some t → t.work ≡ Some w → at m o s.tasks k ≡ Some t
  works_back k t w p q =
      let other : k ≡ m → ⊥ = λ e. no_work t (was-idle t (ap s.tasks (sym e) ∙ p)) q in
      at_other m o s.tasks k other ∙ p

  made_on : (x : ℕ) → Made s x → MadeBy (at m o s.tasks) x
  made_on x (made_by k b {t} p q) = made_by k b (works_back k t _ p q) q

  made_back : (x : ℕ) → MadeBy (at m o s.tasks) x → Made s x
  made_back x (made_by k b {t} p q) = made_by k b (works_on k t _ p q) q

  abbrev s' : State
  s' = with_free (with_task s m o) h

  keep_on : {x : ℕ} → Kept s x → Kept s' x
  keep_on = kept_on s.cells s.cache s.collector s.directory (Made s) (Made s') made_back

  keep_back : {x : ℕ} → Kept s' x → Kept s x
  keep_back = kept_on s.cells s.cache s.collector s.directory (Made s') (Made s) made_on

  mark_on : {c : ℕ} → Marked s I.Cut c → Marked s' I.Cut c
  mark_on = marked_on s.cells s.cache s.collector s.directory (Made s) (Made s') made_back I.Cut

  mark_back : {c : ℕ} → Marked s' I.Cut c → Marked s I.Cut c
  mark_back = marked_on s.cells s.cache s.collector s.directory (Made s') (Made s) made_on I.Cut

  used_back : {c : ℕ} → Used s' c → Used s c
  used_back = lead_into roots (λ x c e p. along p e)
    where
      roots : (c : ℕ) → UsedRoot s' c → Used s c
      roots c (directory l) = start (directory l)
      roots c (register k j {t} p q) = ⊎_elim
          (λ (e : (k ≡ m) × (o ≡ Some t)). (fits t e.1).used j c q)
          (λ (e : (k ≡ m → ⊥) × (s.tasks k ≡ Some t)). start (register k j e.1 q))
          (at_cases m o s.tasks k (Some t) p)
      roots c (kept k) = start (kept (keep_back k))
      roots c (filled i k e) = start (filled i (made_back _ k) e)

  unsettled_on : (x : ℕ) → Unsettled s x → Unsettled s' x
  unsettled_on x (k, (t, (p, q))) = (k, (t, (works_back k t _ p q, q)))

  still_structure : Structure s'
  still_structure =
      let S = I.structure in
      record {
        some = S.some;
        within = S.within;
        memory = S.memory;
        links = S.links;
        free_fair = subst Fair (sym manner) S.free_fair;
        cache_fair = S.cache_fair;
        free_room = omega (arith, room, S.free_room);
        cache_room = S.cache_room;
        slots = λ k g. at_other m o s.tasks k (λ e. omega arith) ∙ S.slots k g;
        registers = λ k j t p g. ⊎_elim (λ e. (fits t e.1).few j g) (λ e. S.registers k j t e.1 g) (at_cases m o s.tasks k (Some t) p);
        pools = λ k t p. ⊎_elim
            (λ (e : (k ≡ m) × (o ≡ Some t)). let none = ap taken (fits t e.1).idle in omega (arith, (fits t e.1).pool))
            (λ e. S.pools k t e.1)
            (at_cases m o s.tasks k (Some t) p);
        account = λ c. let swap = pooled_swap 8 m within o s.tasks c in let held = together c in let was = S.account c in omega arith;
      }

  still_control : Control s'
  still_control =
      let K = I.control in
      record {
        places = K.places;
        nothing_traced = K.nothing_traced;
        statuses = λ k t p. ⊎_elim (λ e. (fits t e.1).status) (λ e. K.statuses k t e.1) (at_cases m o s.tasks k (Some t) p);
        scan_looked = λ e u k q. let a = K.scan_looked e u k q in (a.0, a.1, keep_on a.2);
      }

  still_works : Works s'
  still_works =
      let W = I.works in
      record {
        cell_held = λ k x i y step t p q. W.cell_held k x i y step t (works_on k t _ p q) q;
        value_held = λ k x i c step t p q. W.value_held k x i c step t (works_on k t _ p q) q;
        link_there = λ k x i y step t p q. W.link_there k x i y step t (works_on k t _ p q) q;
        grey_step = λ k x i y t p q. W.grey_step k x i y t (works_on k t _ p q) q;
        warn_step = λ k x i old y t p q. W.warn_step k x i old y t (works_on k t _ p q) q;
        made_apart = λ x k. W.made_apart x (made_back x k);
        made_once = λ k l x a b t u p q r w. W.made_once k l x a b t u (works_on k t _ p q) q (works_on l u _ r w) w;
      }

  still_new : NewCells s'
  still_new =
      let N = I.new_cells in
      record {
        unsettled = λ k x t p q n. N.unsettled k x t (works_on k t _ p q) q n;
        settled = λ k x t p q n. N.settled k x t (works_on k t _ p q) q n;
        in_mark = λ k x a t p q e g. N.in_mark k x a t (works_on k t _ p q) q e g;
        in_scan = λ k x a t p q e g. N.in_scan k x a t (works_on k t _ p q) q e g;
      }

  still_sweeps : Sweeps s'
  still_sweeps =
      let W = I.sweeps in
      record {
        cached = λ c l. keep_on (W.cached c l);
        in_hand = λ h e. let a = W.in_hand h e in (keep_on a.0, a.1);
        rest_black = λ e x q. unsettled_on x (W.rest_black e x q);
        clear_black = λ e x q. unsettled_on x (W.clear_black e x q);
        behind = λ e x w q. unsettled_on x (W.behind e x w q);
        ahead_used = λ e x u q. W.ahead_used e x (used_back u) q;
        ahead_made = λ e x k q. W.ahead_made e x (made_back x k) q;
        new_value = λ k x i c t p q n. W.new_value k x i c t (works_on k t _ p q) q n;
        directory = W.directory;
      }

  still_first : FirstHalf s' → MarksFirst s'
  still_first h =
      let F = I.first_half h in
      record {
        black_to_shaded = λ x i c k b n a e. F.black_to_shaded x i c (keep_back k) b n a e;
        changed_link = λ k x i c y step t p q g e. F.changed_link k x i c y step t (works_on k t _ p q) q g e;
      }

  still_second : SecondHalf s' → MarksSecond s' I.Cut
  still_second h =
      let M = I.second_half h in
      record {
        closed = λ x i c k e. mark_on (M.closed x i c (mark_back k) e);
        registers = λ k j c t p g q. ⊎_elim (λ e. mark_on ((fits t e.1).marked h g j c q)) (λ e. mark_on (M.registers k j c t e.1 g q)) (at_cases m o s.tasks k (Some t) p);
        filled = λ k x i c a t p g q e. mark_on (M.filled k x i c a t (works_on k t _ p q) g q e);
        directory = λ c l. mark_on (M.directory c l);
        cut_names = λ x i c k e. mark_on (M.cut_names x i c k e);
        cut_cell = λ x i k. let a = M.cut_cell x i k in (a.0, λ y. a.1 (made_back x y));
        sync_cut = λ k x i y step t p q g. M.sync_cut k x i y step t (works_on k t _ p q) q g;
        store_cut = λ k x i y t p q. M.store_cut k x i y t (works_on k t _ p q) q;
        warn_cut = λ k x i old y t p q. M.warn_cut k x i old y t (works_on k t _ p q) q;
      }

  pub pool_turn : Invariant (with_free (with_task s m o) h)
  pool_turn = record {
    structure = still_structure;
    control = still_control;
    works = still_works;
    safe = λ c u. let a = I.safe c (used_back u) in (a.0, a.1, λ k. a.2 (made_back c k));
    new_cells = still_new;
    sweeps = still_sweeps;
    first_half = still_first;
    Cut = I.Cut;
    second_half = still_second;
  }

-- the same where the pool stays as it was
pub idle_turn : (s : State) (I : Invariant s) (m : ℕ) → m < 8 → (o : Option Task) → ((t : Task) → s.tasks m ≡ Some t → t.work ≡ None)
    → ((u : Task) → o ≡ Some u → Fits s I u) → pool_in o ≡ pool_in (s.tasks m) → Invariant (with_task s m o)
idle_turn s I m within o was-idle fits same-pool = pool_turn s I m within o was-idle fits s.free refl refl (λ c. ap (λ xs. copies s.free.members c + copies xs c) same-pool)
