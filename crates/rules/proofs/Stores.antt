-- A link that is written by a change which comes to its store keeps the invariant: the field is cut, or black cells name shaded ones.
use Rattle.std.proofs.Common.{◌≡◌, ℕ, ◌<◌, ◌≤◌, true, false, eqb, ltb, ◌≢◌, ◌⊎◌, Some, None, Option, sym, refl, ap, ◌∙◌, subst, inl, inr, ⊎_elim, arith}
use Rattle.std.proofs.lemmas.Bool.{cases_eq, cases_Bool, cond-true, and_from, eq-eqb, lt-ltb}
use Rattle.cells.specs.Memory.{Cells, Within, fitting, settable, at, relinked}
use Rattle.rules.specs.declared.Status.TheVariants.{Async}
use Rattle.rules.specs.declared.Step.TheVariants.{Store}
use Rattle.rules.specs.declared.Work.TheVariants.{Change}
use Rattle.rules.specs.State.{Task, State, with_cells}
use Rattle.rules.specs.Reach.{start, along, Names}
use Rattle.rules.proofs.Ways.{lead_into}
use Rattle.rules.proofs.Slots.{at_cases, at_other}
use Rattle.rules.proofs.Words.{Shaded, Used, UsedRoot, directory, register, kept, filled, FirstHalf, SecondHalf, Pending, cached, grey_in_mark, in_directory, ahead, at_scan, dirty, Follows, TracedRoot, pending, by_hand, Traced, Marked}
use Rattle.rules.proofs.Halves.{async_or_not, first_not_async}
use Rattle.rules.proofs.Invariant.{Structure, MarksFirst, MarksSecond, Invariant}

-- a link after the write is the one written, or was there
pub relinked_cases : (m : Cells) (x i : ℕ) (y : Option ℕ) (a j : ℕ) (v : Option ℕ) → (relinked m x i y).link a j ≡ v
    → ((a ≡ x) × (j ≡ i) × (y ≡ v)) ⊎ (m.link a j ≡ v)
relinked_cases m x i y a j v e = ⊎_elim
    (λ (h : a ≡ x).
    let row : at i y (m.link x) j ≡ v = sym (ap (λ (l : ℕ → Option ℕ). l j) (cond-true (eqb a x) (at i y (m.link x)) (m.link a) (eq-eqb a x h))) ∙ e in
    ⊎_elim
    (λ (r : (j ≡ i) × (y ≡ v)). inl (h, r.0, r.1))
    (λ (r : (j ≡ i → ⊥) × (m.link x j ≡ v)). inr (ap (λ k. m.link k j) h ∙ r.1))
    (at_cases i y (m.link x) j v row))
    (λ (n : a ≡ x → ⊥). inr (sym (ap (λ (l : ℕ → Option ℕ). l j) (at_other x (at i y (m.link x)) m.link a n)) ∙ e))
    (cases_eq a x)

pub relinked_other : (m : Cells) (x i : ℕ) (y : Option ℕ) (a j : ℕ) → ((a ≡ x) × (j ≡ i) → ⊥) → (relinked m x i y).link a j ≡ m.link a j
relinked_other m x i y a j n = ⊎_elim
    (λ (h : (a ≡ x) × (j ≡ i) × (y ≡ (relinked m x i y).link a j)). absurd (n (h.0, h.1)))
    (λ (h : m.link a j ≡ (relinked m x i y).link a j). sym h)
    (relinked_cases m x i y a j ((relinked m x i y).link a j) refl)

module _ (s : State) (I : Invariant s) (m : ℕ) (t : Task) (present : s.tasks m ≡ Some t) (x i : ℕ) (y : Option ℕ) (work : t.work ≡ Some (Change x i y Store)) where
  abbrev s' : State
  s' = with_cells s (relinked s.cells x i y)

  abbrev link' : ℕ → ℕ → Option ℕ
  link' = (relinked s.cells x i y).link

  used_cell : Used s x
  used_cell = let h = I.works.cell_held m x i y Store t present work in start (register m h.0 present h.1)

  value_held : (c : ℕ) → y ≡ Some c → (j : ℕ) × (t.registers j ≡ Some c)
  value_held c e = I.works.value_held m x i c Store t present (work ∙ ap (λ v. Some (Change x i v Store)) e)

  used_value : (c : ℕ) → y ≡ Some c → Used s c
  used_value c e = let h = value_held c e in start (register m h.0 present h.1)

  shaded_value : t.status ≢ Async → (c : ℕ) → y ≡ Some c → Shaded s c
  shaded_value n c e = I.sweeps.new_value m x i c t present (work ∙ ap (λ v. Some (Change x i v Store)) e) n

  -- the write is one that the memory takes
  pub takes : settable s.links s.cells x i y ≡ true
  takes = and_from (ltb x s.cells.size) _ (lt-ltb x s.cells.size (I.safe x used_cell).0)
      (and_from (ltb i s.links) _ (lt-ltb i s.links (I.works.link_there m x i y Store t present work)) (fits y (λ c e. (I.safe c (used_value c e)).0)))
    where
      fits : (v : Option ℕ) → ((c : ℕ) → v ≡ Some c → c < s.cells.size) → fitting s.cells.size v ≡ true
      fits None f = refl
      fits (Some c) f = lt-ltb c s.cells.size (f c refl)

  used_back : {c : ℕ} → Used s' c → Used s c
  used_back = lead_into roots edges
    where
      roots : (c : ℕ) → UsedRoot s' c → Used s c
      roots c (directory l) = start (directory l)
      roots c (register k j p q) = start (register k j p q)
      roots c (kept k) = start (kept k)
      roots c (filled {x = a} j k e) = ⊎_elim
          (λ (h : (a ≡ x) × (j ≡ i) × (y ≡ Some c)). used_value c h.2)
          (λ (h : s.cells.link a j ≡ Some c). start (filled j k h))
          (relinked_cases s.cells x i y a j (Some c) e)

      edges : (a c : ℕ) → Names s'.cells a c → Used s a → Used s c
      edges a c (j, e) p = ⊎_elim
          (λ (h : (a ≡ x) × (j ≡ i) × (y ≡ Some c)). used_value c h.2)
          (λ (h : s.cells.link a j ≡ Some c). along p (j, h))
          (relinked_cases s.cells x i y a j (Some c) e)

  pending_on : {c : ℕ} → Pending s c → Pending s' c
  pending_on (cached l) = cached l
  pending_on (grey_in_mark e k g) = grey_in_mark e k g
  pending_on (in_directory e l h n) = in_directory e l h n
  pending_on (ahead e p l k g) = ahead e p l k g
  pending_on (at_scan e p l k g) = at_scan e p l k g
  pending_on (dirty e p k g) = dirty e p k g

  pending_back : {c : ℕ} → Pending s' c → Pending s c
  pending_back (cached l) = cached l
  pending_back (grey_in_mark e k g) = grey_in_mark e k g
  pending_back (in_directory e l h n) = in_directory e l h n
  pending_back (ahead e p l k g) = ahead e p l k g
  pending_back (at_scan e p l k g) = at_scan e p l k g
  pending_back (dirty e p k g) = dirty e p k g

  -- in the second half the field is cut, so the marking follows what it followed
  module _ (half : SecondHalf s) where
    cut : I.Cut x i ≡ true
    cut = (I.second_half half).store_cut m x i y t present work

    untouched : (a j : ℕ) → I.Cut a j ≡ false → link' a j ≡ s.cells.link a j
    untouched a j e = relinked_other s.cells x i y a j (λ h.
        let here : I.Cut a j ≡ I.Cut x i = ap (λ k. I.Cut k j) h.0 ∙ ap (I.Cut x) h.1 in
        let z : ◌≡◌ {A = ℕ} 0 1 = let c = cut in cc in omega arith)

    follows_on : {a c : ℕ} → Follows s I.Cut a c → Follows s' I.Cut a c
    follows_on {a} w = record { link = w.link; names = untouched a w.link w.uncut ∙ w.names; uncut = w.uncut; not_black = w.not_black; not_at_scan = w.not_at_scan }

    follows_back : {a c : ℕ} → Follows s' I.Cut a c → Follows s I.Cut a c
    follows_back {a} w = record { link = w.link; names = sym (untouched a w.link w.uncut) ∙ w.names; uncut = w.uncut; not_black = w.not_black; not_at_scan = w.not_at_scan }

    mark_on : {c : ℕ} → Marked s I.Cut c → Marked s' I.Cut c
    unfolding follows_on
    mark_on (inl k) = inl k
    mark_on (inr p) = inr (lead_into roots (λ a c w p. along p (follows_on w)) p)
      where
        roots : (c : ℕ) → TracedRoot s I.Cut c → Traced s' I.Cut c
        roots c (pending p) = start (pending (pending_on p))
        roots c (by_hand a w h) = start (by_hand a (follows_on w) h)

    mark_back : {c : ℕ} → Marked s' I.Cut c → Marked s I.Cut c
    unfolding follows_back
    mark_back (inl k) = inl k
    mark_back (inr p) = inr (lead_into roots (λ a c w p. along p (follows_back w)) p)
      where
        roots : (c : ℕ) → TracedRoot s' I.Cut c → Traced s I.Cut c
        roots c (pending p) = start (pending (pending_back p))
        roots c (by_hand a w h) = start (by_hand a (follows_back w) h)

    -- the new value is marked: in a register of a task at Async, or shaded
    marked_value : (c : ℕ) → y ≡ Some c → Marked s I.Cut c
    marked_value c e = ⊎_elim
        (λ (g : t.status ≡ Async). let h = value_held c e in (I.second_half half).registers m h.0 c t present g h.1)
        (λ (n : t.status ≢ Async). inl (shaded_value n c e, (I.safe c (used_value c e)).2))
        (async_or_not t.status)

    -- a link after the write names a marked cell if the one before did
    named : (a j c : ℕ) → link' a j ≡ Some c → (s.cells.link a j ≡ Some c → Marked s I.Cut c) → Marked s' I.Cut c
    named a j c e was = ⊎_elim
        (λ (h : (a ≡ x) × (j ≡ i) × (y ≡ Some c)). mark_on (marked_value c h.2))
        (λ (h : s.cells.link a j ≡ Some c). mark_on (was h))
        (relinked_cases s.cells x i y a j (Some c) e)

    still_second : MarksSecond s' I.Cut
    still_second =
        let M = I.second_half half in
        record {
          closed = λ a j c k e. named a j c e (M.closed a j c (mark_back k));
          registers = λ k j c u p g q. mark_on (M.registers k j c u p g q);
          filled = λ k a j c b u p g q e. named a j c e (M.filled k a j c b u p g q);
          directory = λ c l. mark_on (M.directory c l);
          cut_names = λ a j c k e. named a j c e (M.cut_names a j c k);
          cut_cell = M.cut_cell;
          sync_cut = M.sync_cut;
          store_cut = M.store_cut;
          warn_cut = λ k a j old v u p q. ⊎_elim
              (λ (e : I.Cut a j ≡ true). inl e)
              (λ (e : I.Cut a j ≡ false). ⊎_elim (λ h. inl h) (λ h. inr (untouched a j e ∙ h.0, h.1)) (M.warn_cut k a j old v u p q))
              (cases_Bool (I.Cut a j));
        }

  still_first : FirstHalf s' → MarksFirst s'
  still_first h =
      let F = I.first_half h in
      record {
        black_to_shaded = λ a j c k b n g e. ⊎_elim
            (λ (r : (a ≡ x) × (j ≡ i) × (y ≡ Some c)). shaded_value (first_not_async s I m t present h) c r.2)
            (λ (r : s.cells.link a j ≡ Some c). F.black_to_shaded a j c k b n g r)
            (relinked_cases s.cells x i y a j (Some c) e);
        changed_link = λ k a j c v step u p q g e. ⊎_elim
            (λ (r : (a ≡ x) × (j ≡ i) × (y ≡ Some c)). shaded_value (first_not_async s I m t present h) c r.2)
            (λ (r : s.cells.link a j ≡ Some c). F.changed_link k a j c v step u p q g r)
            (relinked_cases s.cells x i y a j (Some c) e);
      }

  still_structure : Structure s'
  still_structure =
      let S = I.structure in
      record {
        some = S.some;
        within = S.within;
        memory = record {
          small = S.memory.small;
          within = λ c j. within_each c j (link' c j) refl;
          no_cell = S.memory.no_cell;
          no_link = λ c j l. relinked_other s.cells x i y c j (λ h. inside c j h l) ∙ S.memory.no_link c j l;
        };
        links = S.links;
        free_fair = S.free_fair;
        cache_fair = S.cache_fair;
        free_room = S.free_room;
        cache_room = S.cache_room;
        slots = S.slots;
        registers = S.registers;
        pools = S.pools;
        account = S.account;
      }
    where
      within_each : (c j : ℕ) (v : Option ℕ) → link' c j ≡ v → Within s.cells.size v
      within_each c j None e = tt
      within_each c j (Some k) e = ⊎_elim
          (λ (h : (c ≡ x) × (j ≡ i) × (y ≡ Some k)). (I.safe k (used_value k h.2)).0)
          (λ (h : s.cells.link c j ≡ Some k). subst (Within s.cells.size) h (I.structure.memory.within c j))
          (relinked_cases s.cells x i y c j (Some k) e)

      inside : (c j : ℕ) → (c ≡ x) × (j ≡ i) → (s.cells.size ≤ c) ⊎ (s.links ≤ j) → ⊥
      inside c j h (inl l) = let a = (I.safe x used_cell).0 in let b = h.0 in omega arith
      inside c j h (inr l) = let a = I.works.link_there m x i y Store t present work in let b = h.1 in omega arith

  pub stored_turn : Invariant (with_cells s (relinked s.cells x i y))
  stored_turn = record {
    structure = still_structure;
    control = record {
      places = I.control.places;
      nothing_traced = I.control.nothing_traced;
      statuses = I.control.statuses;
      scan_looked = I.control.scan_looked;
    };
    works = record {
      cell_held = I.works.cell_held;
      value_held = I.works.value_held;
      link_there = I.works.link_there;
      grey_step = I.works.grey_step;
      warn_step = I.works.warn_step;
      made_apart = I.works.made_apart;
      made_once = I.works.made_once;
    };
    safe = λ c u. I.safe c (used_back u);
    new_cells = record {
      unsettled = I.new_cells.unsettled;
      settled = I.new_cells.settled;
      in_mark = I.new_cells.in_mark;
      in_scan = I.new_cells.in_scan;
    };
    sweeps = record {
      cached = I.sweeps.cached;
      in_hand = I.sweeps.in_hand;
      rest_black = I.sweeps.rest_black;
      clear_black = I.sweeps.clear_black;
      behind = I.sweeps.behind;
      ahead_used = λ e c u q. I.sweeps.ahead_used e c (used_back u) q;
      ahead_made = I.sweeps.ahead_made;
      new_value = I.sweeps.new_value;
      directory = I.sweeps.directory;
    };
    first_half = still_first;
    Cut = I.Cut;
    second_half = still_second;
  }
