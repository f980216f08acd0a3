-- A turn of a task on the one cell that it makes keeps the invariant.
use Rattle.std.proofs.Common.{◌≡◌, ℕ, ◌+◌, ◌<◌, ◌≤◌, Bool, true, false, ◌≢◌, ◌⊎◌, length, Some, None, Option, sym, refl, ap, ◌∙◌, subst, inl, inr, ⊎_elim, arith}
use Rattle.std.proofs.lemmas.Bool.{cases_eq}
use Rattle.cells.specs.declared.Colour.{Colour}
use Rattle.cells.specs.declared.Colour.TheVariants.{Blue, White, Black}
use Rattle.cells.specs.Memory.{Cells, at}
use Rattle.bags.specs.Holding.{copies}
use Rattle.rules.specs.declared.Status.TheVariants.{Async}
use Rattle.rules.specs.declared.Stage.TheVariants.{Mark, Scan}
use Rattle.rules.specs.declared.Step.{Step}
use Rattle.rules.specs.declared.Work.TheVariants.{Change, Making}
use Rattle.rules.specs.State.{Task, State, with_cells, with_task}
use Rattle.rules.specs.Reach.{start, along}
use Rattle.rules.specs.Pools.{pool_in}
use Rattle.rules.proofs.Slots.{at_cases, at_other, pooled_swap}
use Rattle.rules.proofs.Words.{is_shaded, made_by, Made, Shaded, Kept, Passed, Used, directory, register, FirstHalf, SecondHalf, Marked}
use Rattle.rules.proofs.Touched.{kept_used, marked_used}
use Rattle.rules.proofs.NewCell.{Behind, at_rest, at_clear, in_sweep, behind_unsettled, Turn, Out, filled_slot, slot, used_apart, place, changing_on, making_on, made_back, unsettled_on, keep_on, keep_back, out_not_made, kept_async, used_back, mark_on, mark_back}
use Rattle.rules.proofs.Places.{Places}
use Rattle.rules.proofs.Invariant.{Structure, Control, Works, Safe, NewCells, Sweeps, MarksFirst, MarksSecond, Invariant, Unsettled, taken}
use Rattle.rules.proofs.Halves.{first_not_async}

module _ {s : State} {I : Invariant s} {m x : ℕ} {t u : Task} {n : Cells} (T : Turn s I m x t u n) where
  abbrev s' : State
  s' = with_cells (with_task s m (Some u)) n

  safe : Safe s'
  safe c y = ⊎_elim
      (λ (a : Used s c).
      let apart = used_apart T c a in
      let was = I.safe c a in
      (omega (arith, was.0, T.table.size), λ e. was.1 (sym (T.table.colours c apart) ∙ e), λ k. was.2 (made_back T c apart k)))
      (λ (a : (c ≡ x) × Out T).
      (omega (arith, (place T).1, T.table.size, a.0), λ e. a.1.1 (ap n.colour (sym a.0) ∙ e), λ k. out_not_made T a.1 (subst (Made s') a.0 k)))
      (used_back T y)

  structure : Structure s'
  structure =
      let S = I.structure in
      record {
        some = S.some;
        within = omega (arith, S.within, T.table.size);
        memory = T.table.sound;
        links = S.links;
        free_fair = S.free_fair;
        cache_fair = S.cache_fair;
        free_room = omega (arith, S.free_room, T.table.size);
        cache_room = S.cache_room;
        slots = λ k g. at_other m (Some u) s.tasks k (λ e. omega (arith, slot T)) ∙ S.slots k g;
        registers = λ k j v p g. ⊎_elim
            (λ (e : (k ≡ m) × (Some u ≡ Some v)). let same : u ≡ v = let f = e.1 in cc in subst (λ (w : Task). w.registers j ≡ None) same (T.few j g))
            (λ e. S.registers k j v e.1 g)
            (at_cases m (Some u) s.tasks k (Some v) p);
        pools = λ k v p. ⊎_elim
            (λ (e : (k ≡ m) × (Some u ≡ Some v)). let same : u ≡ v = let f = e.1 in cc in subst (λ (w : Task). length w.pool + taken w.work ≤ 4) same T.pool)
            (λ e. S.pools k v e.1)
            (at_cases m (Some u) s.tasks k (Some v) p);
        account = λ c.
            let swap = pooled_swap 8 m (slot T) (Some u) s.tasks c in
            let pool : copies (pool_in (s.tasks m)) c ≡ copies t.pool c = ap (λ o. copies (pool_in o) c) T.present in
            let held = T.account c in
            let was = S.account c in
            omega arith;
      }

  control : Control s'
  control =
      let K = I.control in
      record {
        places = subst (Places s.collector.stage s.collector.status s.collector.phase s.collector.swept s.collector.scanned) (sym T.table.size) K.places;
        nothing_traced = K.nothing_traced;
        statuses = λ k v p. ⊎_elim
            (λ (e : (k ≡ m) × (Some u ≡ Some v)).
            let same : u ≡ v = let f = e.1 in cc in
            subst (λ q. (q ≡ s.collector.status) ⊎ (q ≡ s.collector.phase)) (sym T.status ∙ ap (λ (w : Task). w.status) same) (K.statuses m t T.present))
            (λ e. K.statuses k v e.1)
            (at_cases m (Some u) s.tasks k (Some v) p);
        scan_looked = λ e b k q. let a = K.scan_looked e b k q in (omega (arith, a.0, T.table.size), a.1, keep_on T a.2);
      }

  works : Works s'
  works =
      let W = I.works in
      record {
        cell_held = λ k y i z step v p q. W.cell_held k y i z step v (changing_on T k v y i z step p q) q;
        value_held = λ k y i c step v p q. W.value_held k y i c step v (changing_on T k v y i (Some c) step p q) q;
        link_there = λ k y i z step v p q. W.link_there k y i z step v (changing_on T k v y i z step p q) q;
        grey_step = λ k y i z v p q. W.grey_step k y i z v (changing_on T k v y i z _ p q) q;
        warn_step = λ k y i old z v p q. W.warn_step k y i old z v (changing_on T k v y i z _ p q) q;
        made_apart = made_apart;
        made_once = λ k l c a b v w p q r e. ⊎_elim
            (λ (f : (k ≡ m) × (u ≡ v) × (c ≡ x) × (u.work ≡ Some (Making x a))).
            ⊎_elim (λ g. f.0 ∙ sym g.0) (λ g. absurd (g.2 f.2)) (making_on T l w c b r e))
            (λ (f : (k ≢ m) × (s.tasks k ≡ Some v) × (c ≢ x)).
            ⊎_elim (λ g. absurd (f.2 g.2)) (λ g. W.made_once k l c a b v w f.1 q g.1 e) (making_on T l w c b r e))
            (making_on T k v c a p q);
      }
    where
      made_apart : (c : ℕ) → Made s' c → (s.directory ≤ c) × (c < n.size) × (n.colour c ≢ Blue)
      made_apart c (made_by k a {t = v} p q) = ⊎_elim
          (λ (e : (k ≡ m) × (u ≡ v) × (c ≡ x) × (u.work ≡ Some (Making x a))).
          (omega (arith, (place T).0, e.2), omega (arith, (place T).1, T.table.size, e.2), λ b. (T.new_colour a e.3).not_blue (ap n.colour (sym e.2) ∙ b)))
          (λ (e : (k ≢ m) × (s.tasks k ≡ Some v) × (c ≢ x)).
          let was = I.works.made_apart c (made_by k a e.1 q) in
          (was.0, omega (arith, was.1, T.table.size), λ b. was.2 (sym (T.table.colours c e.2) ∙ b)))
          (making_on T k v c a p q)

  -- what holds of the colour of a cell being made: as for x, or as before
  new_colours : (P : Task → Colour → Type 0) (k c : ℕ) (a : Bool) (v : Task) → at m (Some u) s.tasks k ≡ Some v → v.work ≡ Some (Making c a)
      → (u.work ≡ Some (Making x a) → P u (n.colour x)) → (s.tasks k ≡ Some v → P v (s.cells.colour c)) → P v (n.colour c)
  new_colours P k c a v p q at_x before = ⊎_elim
      (λ (e : (k ≡ m) × (u ≡ v) × (c ≡ x) × (u.work ≡ Some (Making x a))).
      subst (λ y. P v (n.colour y)) (sym e.2) (subst (λ (w : Task). P w (n.colour x)) e.1 (at_x e.3)))
      (λ (e : (k ≢ m) × (s.tasks k ≡ Some v) × (c ≢ x)). subst (P v) (sym (T.table.colours c e.2)) (before e.1))
      (making_on T k v c a p q)

  new_cells : NewCells s'
  new_cells =
      let N = I.new_cells in
      record {
        unsettled = λ k c v p q. new_colours (λ (w : Task) y. w.status ≢ Async → y ≡ Black) k c false v p q
            (λ e g. (T.new_colour false e).black_first (λ h. g (T.status ∙ h)) refl) (λ r. N.unsettled k c v r q);
        settled = λ k c v p q. new_colours (λ (w : Task) y. w.status ≢ Async → y ≡ White) k c true v p q
            (λ e g. (T.new_colour true e).white_then (λ h. g (T.status ∙ h)) refl) (λ r. N.settled k c v r q);
        in_mark = λ k c a v p q. new_colours (λ (w : Task) y. w.status ≡ Async → s.collector.stage ≡ Mark → y ≡ Black) k c a v p q
            (λ e g. (T.new_colour a e).in_mark (sym T.status ∙ g)) (λ r. N.in_mark k c a v r q);
        in_scan = λ k c a v p q. new_colours (λ (w : Task) y. w.status ≡ Async → s.collector.stage ≡ Scan → y ≡ Black) k c a v p q
            (λ e g. (T.new_colour a e).in_scan (sym T.status ∙ g)) (λ r. N.in_scan k c a v r q);
      }

  -- the cell of an unfinished change can be touched
  changing_used : (k y i : ℕ) (z : Option ℕ) (step : Step) (v : Task) → s.tasks k ≡ Some v → v.work ≡ Some (Change y i z step) → Used s y
  changing_used k y i z step v p q = let a = I.works.cell_held k y i z step v p q in start (register k a.0 p a.1)

  shaded_on : (c : ℕ) → Used s c → Shaded s c → Shaded s' c
  shaded_on c a h = let same = T.table.colours c (used_apart T c a) in cc (h, same)

  -- behind the sweep a Black cell is still being made and not settled
  behind_black : (c : ℕ) → Behind s c → n.colour c ≡ Black → Unsettled s' c
  behind_black c b q = ⊎_elim
      (λ (e : c ≡ x). subst (Unsettled s') (sym e) (m, (u, (filled_slot T, T.black (subst (Behind s) e b) (ap n.colour (sym e) ∙ q)))))
      (λ (a : c ≡ x → ⊥). unsettled_on T c a (behind_unsettled s I c b (sym (T.table.colours c a) ∙ q)))
      (cases_eq c x)

  sweeps : Sweeps s'
  sweeps =
      let W = I.sweeps in
      record {
        cached = λ c l. keep_on T (W.cached c l);
        in_hand = λ h e. let a = W.in_hand h e in (keep_on T a.0, a.1);
        rest_black = λ e c. behind_black c (at_rest e);
        clear_black = λ e c. behind_black c (at_clear e);
        behind = λ e c l. behind_black c (in_sweep e l);
        ahead_used = λ e c y q. ⊎_elim
            (λ (a : Used s c). W.ahead_used e c a (sym (T.table.colours c (used_apart T c a)) ∙ q))
            (λ (a : (c ≡ x) × Out T). subst (Passed s) (sym a.0) (T.white e (ap n.colour (sym a.0) ∙ q)))
            (used_back T y);
        ahead_made = λ e c y q. ⊎_elim
            (λ (f : c ≡ x). subst (Passed s) (sym f) (T.white e (ap n.colour (sym f) ∙ q)))
            (λ (a : c ≡ x → ⊥). W.ahead_made e c (made_back T c a y) (sym (T.table.colours c a) ∙ q))
            (cases_eq c x);
        new_value = λ k y i c v p q g.
            let r = changing_on T k v y i (Some c) _ p q in
            let a = I.works.value_held k y i c _ v r q in
            shaded_on c (start (register k a.0 r a.1)) (W.new_value k y i c v r q g);
        directory = λ e c l h. shaded_on c (start (directory h)) (W.directory e c l h);
      }

  first_half : FirstHalf s → MarksFirst s'
  first_half h =
      let F = I.first_half h in
      record {
        black_to_shaded = λ y i c k b l a e. ⊎_elim
            (λ (f : y ≡ x). absurd (first_not_async s I m t T.present h (kept_async T (subst (Kept s') f k))))
            (λ (f : y ≡ x → ⊥).
            let was = keep_back T y f k in
            let named = sym (T.table.links y i f) ∙ e in
            shaded_on c (along (kept_used s I was) (i, named)) (F.black_to_shaded y i c was (sym (T.table.colours y f) ∙ b) l a named))
            (cases_eq y x);
        changed_link = λ k y i c z step v p q g e.
            let r = changing_on T k v y i z step p q in
            let held = changing_used k y i z step v r q in
            let named = sym (T.table.links y i (used_apart T y held)) ∙ e in
            shaded_on c (along held (i, named)) (F.changed_link k y i c z step v r q g named);
      }

  second_half : SecondHalf s → MarksSecond s' I.Cut
  second_half h =
      let M = I.second_half h in
      record {
        closed = λ y i c k e. ⊎_elim
            (λ (a : Marked s I.Cut y). mark_on T (M.closed y i c a (sym (T.table.links y i (used_apart T y (marked_used s I I.Cut a))) ∙ e)))
            (λ (a : (y ≡ x) × Kept s' x). mark_on T (T.table.names_marked h (kept_async T a.1) i c (ap (λ z. n.link z i) (sym a.0) ∙ e)))
            (mark_back T h k);
        registers = λ k j c v p g q. ⊎_elim
            (λ (e : (k ≡ m) × (Some u ≡ Some v)).
            let same : u ≡ v = let f = e.1 in cc in
            let async = sym T.status ∙ ap (λ (w : Task). w.status) same ∙ g in
            ⊎_elim
            (λ f. mark_on T (M.registers m j c t T.present async f))
            (λ (f : (c ≡ x) × (u.work ≡ None) × (n.colour x ≢ Blue)).
            subst (Marked s' I.Cut) (sym f.0) (inl (ap is_shaded (T.finished_black f.1 f.2 async h), out_not_made T (f.1, f.2))))
            (T.registers j c (ap (λ (w : Task). w.registers j) same ∙ q)))
            (λ e. mark_on T (M.registers k j c v e.1 g q))
            (at_cases m (Some u) s.tasks k (Some v) p);
        filled = λ k y i c a v p g q e. ⊎_elim
            (λ (f : (k ≡ m) × (u ≡ v) × (y ≡ x) × (u.work ≡ Some (Making x a))).
            mark_on T (T.table.names_marked h (sym T.status ∙ ap (λ (w : Task). w.status) f.1 ∙ g) i c (ap (λ z. n.link z i) (sym f.2) ∙ e)))
            (λ (f : (k ≢ m) × (s.tasks k ≡ Some v) × (y ≢ x)). mark_on T (M.filled k y i c a v f.1 g q (sym (T.table.links y i f.2) ∙ e)))
            (making_on T k v y a p q);
        directory = λ c l. mark_on T (M.directory c l);
        cut_names = λ y i c k e. mark_on T (M.cut_names y i c k (sym (T.table.links y i (cut_apart h y i k)) ∙ e));
        cut_cell = λ y i k. let a = M.cut_cell y i k in let f = cut_apart h y i k in (λ b. a.0 (sym (T.table.colours y f) ∙ b), λ z. a.1 (made_back T y f z));
        sync_cut = λ k y i z step v p q g. M.sync_cut k y i z step v (changing_on T k v y i z step p q) q g;
        store_cut = λ k y i z v p q. M.store_cut k y i z v (changing_on T k v y i z _ p q) q;
        warn_cut = λ k y i old z v p q.
            let r = changing_on T k v y i z _ p q in
            let held = changing_used k y i z _ v r q in
            ⊎_elim
            (λ e. inl e)
            (λ (e : (s.cells.link y i ≡ Some old) × Shaded s old). inr (T.table.links y i (used_apart T y held) ∙ e.0, shaded_on old (along held (i, e.0)) e.1))
            (M.warn_cut k y i old z v r q);
      }
    where
      cut_apart : SecondHalf s → (y i : ℕ) → I.Cut y i ≡ true → y ≢ x
      cut_apart h y i k e =
          let a = (I.second_half h).cut_cell y i k in
          ⊎_elim
          (λ (b : (a : Bool) × (t.work ≡ Some (Making x a))). a.1 (subst (Made s) (sym e) (made_by m b.0 T.present b.1)))
          (λ b. a.0 (ap s.cells.colour e ∙ b.1))
          T.before

  pub new_cell_turn : Invariant (with_cells (with_task s m (Some u)) n)
  new_cell_turn = record {
    structure = structure;
    control = control;
    works = works;
    safe = safe;
    new_cells = new_cells;
    sweeps = sweeps;
    first_half = first_half;
    Cut = I.Cut;
    second_half = second_half;
  }
