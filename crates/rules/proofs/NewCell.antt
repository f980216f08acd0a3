-- A turn of a task on the one cell that it makes, from the pool to a register or back: what it must be in order to keep the
-- invariant, and how what is made, kept, used and marked before and after it go together.
use Rattle.std.proofs.Common.{◌≡◌, ℕ, ◌+◌, ◌<◌, ◌≤◌, Bool, true, false, ◌≢◌, ◌⊎◌, length, Some, None, Option, sym, refl, ap, ◌∙◌, subst, inl, inr, ⊎_elim}
use Rattle.std.proofs.lemmas.Bool.{cases_eq, cases_lt}
use Rattle.cells.specs.declared.Colour.{Colour}
use Rattle.cells.specs.declared.Colour.TheVariants.{Blue, White, Grey, Black}
use Rattle.cells.specs.Memory.{Cells, at, Sound as SoundMemory}
use Rattle.bags.specs.Holding.{copies}
use Rattle.rules.specs.declared.Status.{Status}
use Rattle.rules.specs.declared.Status.TheVariants.{Async}
use Rattle.rules.specs.declared.Stage.TheVariants.{Rest, Clear, Mark, Scan, Sweep}
use Rattle.rules.specs.declared.Step.{Step}
use Rattle.rules.specs.declared.Work.{Work}
use Rattle.rules.specs.declared.Work.TheVariants.{Change, Making}
use Rattle.rules.specs.State.{Task, State, with_cells, with_task}
use Rattle.rules.specs.Reach.{start, along, Names}
use Rattle.rules.proofs.Accounts.{blueness}
use Rattle.rules.proofs.Ways.{reached_have}
use Rattle.rules.proofs.States.{at_here}
use Rattle.rules.proofs.Slots.{at_cases, at_other, slot_below}
use Rattle.rules.proofs.Words.{made_by, Made, Kept, Passed, Used, UsedRoot, directory, register, kept, filled, SecondHalf, Pending, cached, grey_in_mark, in_directory, ahead, at_scan, dirty, Marked}
use Rattle.rules.proofs.Touched.{kept_used, hand_kept, pending_used}
use Rattle.rules.proofs.Apart.{traced_across}
use Rattle.rules.proofs.Invariant.{Invariant, Unsettled, taken}
use Rattle.rules.proofs.Halves.{async_or_not}

-- the sweep is past x: in Rest and Clear it is past every cell
pub data Behind (s : State) (x : ℕ) : Type 0 where
  at_rest : s.collector.stage ≡ Rest → Behind s x
  at_clear : s.collector.stage ≡ Clear → Behind s x
  in_sweep : s.collector.stage ≡ Sweep → Passed s x → Behind s x

-- the colour of a cell that a task of this status makes
pub record NewColour (s : State) (q : Status) (settled : Bool) (colour : Colour) : Type 0 where
  pub not_blue : colour ≢ Blue
  pub black_first : q ≢ Async → settled ≡ false → colour ≡ Black
  pub white_then : q ≢ Async → settled ≡ true → colour ≡ White
  pub in_mark : q ≡ Async → s.collector.stage ≡ Mark → colour ≡ Black
  pub in_scan : q ≡ Async → s.collector.stage ≡ Scan → colour ≡ Black

-- cells n that differ from those before at x only, where they name what a task t may name
pub record Table (s : State) (I : Invariant s) (x : ℕ) (t : Task) (n : Cells) : Type 0 where
  pub sound : SoundMemory s.links n
  pub size : n.size ≡ s.cells.size
  pub colours : (c : ℕ) → c ≢ x → n.colour c ≡ s.cells.colour c
  pub links : (c i : ℕ) → c ≢ x → n.link c i ≡ s.cells.link c i
  pub names : (i c : ℕ) → n.link x i ≡ Some c → Used s c
  pub names_marked : SecondHalf s → t.status ≡ Async → (i c : ℕ) → n.link x i ≡ Some c → Marked s I.Cut c

-- slot m held t and now holds u, and the cells are now those of n
pub record Turn (s : State) (I : Invariant s) (m x : ℕ) (t u : Task) (n : Cells) : Type 0 where
  pub present : s.tasks m ≡ Some t
  -- x is being made by that task, or is the one that it begins to make
  pub before : ((a : Bool) × (t.work ≡ Some (Making x a))) ⊎ ((t.work ≡ None) × (s.cells.colour x ≡ Blue))
  pub table : Table s I x t n
  pub status : u.status ≡ t.status
  pub pool : length u.pool + taken u.work ≤ 4
  pub account : (c : ℕ) → copies u.pool c + blueness (s.cells.colour c) ≡ copies t.pool c + blueness (n.colour c)
  pub few : (j : ℕ) → 8 ≤ j → u.registers j ≡ None
  -- a register holds what it held, or the cell that is finished
  pub registers : (j c : ℕ) → u.registers j ≡ Some c → (t.registers j ≡ Some c) ⊎ ((c ≡ x) × (u.work ≡ None) × (n.colour x ≢ Blue))
  pub makes : (w : Work) → u.work ≡ Some w → (a : Bool) × (w ≡ Making x a)
  pub new_colour : (a : Bool) → u.work ≡ Some (Making x a) → NewColour s t.status a (n.colour x)
  pub finished_white : u.work ≡ None → n.colour x ≢ Blue → t.status ≢ Async → n.colour x ≡ White
  pub finished_black : u.work ≡ None → n.colour x ≢ Blue → t.status ≡ Async → SecondHalf s → n.colour x ≡ Black
  pub black : Behind s x → n.colour x ≡ Black → u.work ≡ Some (Making x false)
  pub white : s.collector.stage ≡ Sweep → n.colour x ≡ White → Passed s x

-- there a Black cell is being made and not settled
pub behind_unsettled : (s : State) → Invariant s → (x : ℕ) → Behind s x → s.cells.colour x ≡ Black → Unsettled s x
behind_unsettled s I x (at_rest e) = I.sweeps.rest_black e x
behind_unsettled s I x (at_clear e) = I.sweeps.clear_black e x
behind_unsettled s I x (in_sweep e l) = I.sweeps.behind e x l

work_or_none : (o : Option Work) → (o ≡ None) ⊎ ((w : Work) × (o ≡ Some w))
work_or_none None = inl refl
work_or_none (Some w) = inr (w, refl)

module _ {s : State} {I : Invariant s} {m x : ℕ} {t u : Task} {n : Cells} (T : Turn s I m x t u n) where
  abbrev pub s' : State
  s' = with_cells (with_task s m (Some u)) n

  pub filled_slot : at m (Some u) s.tasks m ≡ Some u
  filled_slot = at_here m (Some u) s.tasks

  pub slot : m < 8
  slot = slot_below I.structure.slots m t T.present

  unused : ¬ (Used s x)
  unused y = ⊎_elim
      (λ (b : (a : Bool) × (t.work ≡ Some (Making x a))). (I.safe x y).2 (made_by m b.0 T.present b.1))
      (λ b. (I.safe x y).1 b.1)
      T.before

  pub used_apart : (c : ℕ) → Used s c → c ≢ x
  used_apart c y e = unused (subst (Used s) e y)

  -- outside the directory and within the table
  pub place : (s.directory ≤ x) × (x < s.cells.size)
  place = ⊎_elim
      (λ (b : (a : Bool) × (t.work ≡ Some (Making x a))). let a = I.works.made_apart x (made_by m b.0 T.present b.1) in (a.0, a.1))
      (λ (b : (t.work ≡ None) × (s.cells.colour x ≡ Blue)). let is = b.1 in (
        ⊎_elim (λ (l : x < s.directory). absurd (unused (start (directory l)))) (λ (g : s.directory ≤ x). g) (cases_lt x s.directory),
        ⊎_elim (λ (l : x < s.cells.size). l) (λ (g : s.cells.size ≤ x). let w = I.structure.memory.no_cell x g in cc) (cases_lt x s.cells.size),
      ))
      T.before

  -- no other task makes x
  alone : (k : ℕ) (v : Task) (a : Bool) → k ≢ m → s.tasks k ≡ Some v → v.work ≡ Some (Making x a) → ⊥
  alone k v a other p q = ⊎_elim
      (λ (b : (a : Bool) × (t.work ≡ Some (Making x a))). other (sym (I.works.made_once m k x b.0 a t v T.present b.1 p q)))
      (λ b. (I.works.made_apart x (made_by k a p q)).2 b.1)
      T.before

  pub changing_on : (k : ℕ) (v : Task) (y i : ℕ) (z : Option ℕ) (step : Step) → at m (Some u) s.tasks k ≡ Some v → v.work ≡ Some (Change y i z step) → s.tasks k ≡ Some v
  changing_on k v y i z step p q = ⊎_elim
      (λ (e : (k ≡ m) × (Some u ≡ Some v)).
      let same : u ≡ v = let f = e.1 in cc in
      let a = T.makes (Change y i z step) (ap (λ (w : Task). w.work) same ∙ q) in
      let f = a.1 in
      cc)
      (λ (e : (k ≡ m → ⊥) × (s.tasks k ≡ Some v)). e.1)
      (at_cases m (Some u) s.tasks k (Some v) p)

  -- a task that makes is the one in slot m, and makes x, or was there and makes another cell
  pub making_on : (k : ℕ) (v : Task) (c : ℕ) (a : Bool) → at m (Some u) s.tasks k ≡ Some v → v.work ≡ Some (Making c a)
      → ((k ≡ m) × (u ≡ v) × (c ≡ x) × (u.work ≡ Some (Making x a))) ⊎ ((k ≢ m) × (s.tasks k ≡ Some v) × (c ≢ x))
  making_on k v c a p q = ⊎_elim
      (λ (e : (k ≡ m) × (Some u ≡ Some v)).
      let same : u ≡ v = let f = e.1 in cc in
      let work : u.work ≡ Some (Making c a) = ap (λ (w : Task). w.work) same ∙ q in
      let b = T.makes (Making c a) work in
      let f = b.1 in
      let is : c ≡ x = cc in
      inl (e.0, same, is, subst (λ y. u.work ≡ Some (Making y a)) is work))
      (λ (e : (k ≡ m → ⊥) × (s.tasks k ≡ Some v)).
      inr (e.0, e.1, λ is. alone k v a e.0 e.1 (subst (λ y. v.work ≡ Some (Making y a)) is q)))
      (at_cases m (Some u) s.tasks k (Some v) p)

  making_back : (k : ℕ) (v : Task) (c : ℕ) (a : Bool) → c ≢ x → s.tasks k ≡ Some v → v.work ≡ Some (Making c a) → at m (Some u) s.tasks k ≡ Some v
  making_back k v c a apart p q = at_other m (Some u) s.tasks k other ∙ p
    where
      other : k ≡ m → ⊥
      other e =
          let there = T.present in
          let same : t ≡ v = let f = ap s.tasks e in cc in
          let work : t.work ≡ Some (Making c a) = ap (λ (w : Task). w.work) same ∙ q in
          ⊎_elim
          (λ (b : (a : Bool) × (t.work ≡ Some (Making x a))). let f = b.1 in apart cc)
          (λ b. let f = b.0 in cc)
          T.before

  made_on : (c : ℕ) → c ≢ x → Made s c → Made s' c
  made_on c apart (made_by k a {t = v} p q) = made_by k a (making_back k v c a apart p q) q

  pub made_back : (c : ℕ) → c ≢ x → Made s' c → Made s c
  made_back c apart (made_by k a {t = v} p q) = ⊎_elim (λ e. absurd (apart e.2)) (λ e. made_by k a e.1 q) (making_on k v c a p q)

  pub unsettled_on : (c : ℕ) → c ≢ x → Unsettled s c → Unsettled s' c
  unsettled_on c apart (k, (v, (p, q))) = (k, (v, (making_back k v c false apart p q, q)))

  pub keep_on : {c : ℕ} → Kept s c → Kept s' c
  keep_on {c} k = let apart = used_apart c (start (kept k)) in (cc (k.0, T.table.colours c apart), λ y. k.1 (made_back c apart y))

  pub keep_back : (c : ℕ) → c ≢ x → Kept s' c → Kept s c
  keep_back c apart k = (cc (k.0, T.table.colours c apart), λ y. k.1 (made_on c apart y))

  -- x once it is finished
  abbrev pub Out : Type 0
  Out = (u.work ≡ None) × (n.colour x ≢ Blue)

  kept_out : Kept s' x → Out
  kept_out k = ⊎_elim
      (λ (e : u.work ≡ None). (e, λ b. let h = k.0 in cc))
      (λ (e : (w : Work) × (u.work ≡ Some w)).
      let a = T.makes e.0 e.1 in
      absurd (k.1 (made_by m a.0 filled_slot (e.1 ∙ ap Some a.1))))
      (work_or_none u.work)

  pub out_not_made : Out → ¬ (Made s' x)
  out_not_made o (made_by k a {t = v} p q) = ⊎_elim
      (λ e. let none = o.0 in let some = e.3 in cc)
      (λ e. e.2 refl)
      (making_on k v x a p q)

  -- a finished cell that is kept belongs to a task at Async
  pub kept_async : Kept s' x → t.status ≡ Async
  kept_async k = ⊎_elim
      (λ (e : t.status ≡ Async). e)
      (λ (e : t.status ≢ Async).
      let o = kept_out k in let is = T.finished_white o.0 o.1 e in let h = k.0 in cc)
      (async_or_not t.status)

  kept_black : SecondHalf s → Kept s' x → n.colour x ≡ Black
  kept_black half k = let o = kept_out k in T.finished_black o.0 o.1 (kept_async k) half

  pub used_back : {c : ℕ} → Used s' c → Used s c ⊎ ((c ≡ x) × Out)
  used_back = reached_have (λ c. Used s c ⊎ ((c ≡ x) × Out)) roots edges
    where
      roots : (c : ℕ) → UsedRoot s' c → Used s c ⊎ ((c ≡ x) × Out)
      roots c (directory l) = inl (start (directory l))
      roots c (register k j {t = v} p q) = ⊎_elim
          (λ (e : (k ≡ m) × (Some u ≡ Some v)).
          let same : u ≡ v = let f = e.1 in cc in
          ⊎_elim (λ f. inl (start (register m j T.present f))) (λ f. inr (f.0, (f.1, f.2))) (T.registers j c (ap (λ (w : Task). w.registers j) same ∙ q)))
          (λ (e : (k ≡ m → ⊥) × (s.tasks k ≡ Some v)). inl (start (register k j e.1 q)))
          (at_cases m (Some u) s.tasks k (Some v) p)
      roots c (kept k) = ⊎_elim
          (λ (e : c ≡ x). inr (e, kept_out (subst (Kept s') e k)))
          (λ (a : c ≡ x → ⊥). inl (start (kept (keep_back c a k))))
          (cases_eq c x)
      roots c (filled {x = y} i k e) = ⊎_elim
          (λ (f : y ≡ x). inl (T.table.names i c (ap (λ z. n.link z i) (sym f) ∙ e)))
          (λ (a : y ≡ x → ⊥). inl (start (filled i (made_back y a k) (sym (T.table.links y i a) ∙ e))))
          (cases_eq y x)

      edges : (y c : ℕ) → Names n y c → Used s y ⊎ ((y ≡ x) × Out) → Used s c ⊎ ((c ≡ x) × Out)
      edges y c e (inl a) = inl (along a (e.0, sym (T.table.links y e.0 (used_apart y a)) ∙ e.1))
      edges y c e (inr a) = inl (T.table.names e.0 c (ap (λ z. n.link z e.0) (sym a.0) ∙ e.1))

  pub mark_on : {c : ℕ} → Marked s I.Cut c → Marked s' I.Cut c
  mark_on (inl k) = inl (keep_on k)
  mark_on (inr r) = inr (traced_across s.cells n s.cache s.collector s.directory (Made s) (Made s') (Used s)
      (λ c a. sym (T.table.colours c (used_apart c a))) (λ c i a. sym (T.table.links c i (used_apart c a))) (λ c a. made_back c (used_apart c a))
      (λ c p. pending_used s I p) (λ y i h. kept_used s I (hand_kept s I h)) (λ y i c a e. along a (i, e)) I.Cut r).1

  module _ (half : SecondHalf s) where
    kept_near : (c : ℕ) → Kept s' c → n.colour c ≡ Grey → Used s c
    kept_near c k g = ⊎_elim
        (λ (e : c ≡ x). let b = kept_black half (subst (Kept s') e k) in let f = ap n.colour e in cc)
        (λ (a : c ≡ x → ⊥). kept_used s I (keep_back c a k))
        (cases_eq c x)

    pending_near : (c : ℕ) → Pending s' c → Used s c
    pending_near c (cached l) = kept_used s I (I.sweeps.cached c l)
    pending_near c (grey_in_mark e k g) = kept_near c k g
    pending_near c (in_directory e l h b) = start (directory h)
    pending_near c (ahead e p l k g) = kept_near c k g
    pending_near c (at_scan e p l k g) = kept_near c k g
    pending_near c (dirty e p k g) = kept_near c k g

    pub mark_back : {c : ℕ} → Marked s' I.Cut c → Marked s I.Cut c ⊎ ((c ≡ x) × Kept s' x)
    mark_back {c} (inl k) = ⊎_elim
        (λ (e : c ≡ x). inr (e, subst (Kept s') e k))
        (λ (a : c ≡ x → ⊥). inl (inl (keep_back c a k)))
        (cases_eq c x)
    mark_back (inr r) = inl (inr (traced_across n s.cells s.cache s.collector s.directory (Made s') (Made s) (Used s)
        (λ c a. T.table.colours c (used_apart c a)) (λ c i a. T.table.links c i (used_apart c a)) (λ c a. made_on c (used_apart c a))
        pending_near (λ y i h. kept_used s I (hand_kept s I h)) (λ y i c a e. along a (i, sym (T.table.links y i (used_apart y a)) ∙ e)) I.Cut r).1)
