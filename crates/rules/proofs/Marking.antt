-- A turn of the collector that shades cells which can be touched, and begins and ends in Mark or Scan, keeps the invariant, if what
-- it says of its own cells and of the marking is shown.
use Rattle.std.proofs.Common.{◌≡◌, ℕ, ◌<◌, Bool, true, false, ◌≢◌, ◌⊎◌, Some, sym, ap, ◌∙◌, subst, inl, inr, ⊎_elim, arith}
use Rattle.cells.specs.declared.Colour.{Colour}
use Rattle.cells.specs.declared.Colour.TheVariants.{Blue, Black}
use Rattle.bags.specs.Holding.{Hold, Fair, copies}
use Rattle.rules.specs.declared.Status.TheVariants.{Async}
use Rattle.rules.specs.declared.Stage.{Stage}
use Rattle.rules.specs.declared.Stage.TheVariants.{Rest, Clear, Mark, Scan, Sweep}
use Rattle.rules.specs.declared.Hand.{Hand}
use Rattle.rules.specs.declared.Work.TheVariants.{Making}
use Rattle.rules.specs.declared.Collector.{Collector}
use Rattle.rules.specs.State.{Task, State}
use Rattle.rules.specs.Reach.{start, along}
use Rattle.rules.proofs.Accounts.{blueness, not_blue}
use Rattle.rules.proofs.Ways.{lead_into, reached_have}
use Rattle.rules.proofs.Words.{Made, made_by, is_shaded, Shaded, Kept, Used, UsedRoot, directory, register, kept, filled, ahead_of, Pending, cached, grey_in_mark, in_directory, ahead, at_scan, dirty, TracedRoot, pending, by_hand, Traced, Marked, FirstHalf, SecondHalf}
use Rattle.rules.proofs.Invariant.{Structure, Control, Works, MarksFirst, MarksSecond, Invariant}

-- the state with other colours, another cache and another collector
abbrev pub turned : State → (ℕ → Colour) → Hold → Collector → State
turned s colour cache co = record { cells = record { size = s.cells.size; colour = colour; link = s.cells.link }; links = s.links; free = s.free; cache = cache; directory = s.directory; tasks = s.tasks; collector = co }

-- at work with the marking
abbrev pub WorksIn : Stage → Type 0
WorksIn g = (g ≡ Mark) ⊎ (g ≡ Scan)

pub shaded_not_blue : (x : Colour) → is_shaded x ≡ true → x ≢ Blue
shaded_not_blue x h e = cc

shaded_colourless : (x : Colour) → is_shaded x ≡ true → blueness x ≡ 0
shaded_colourless x h = not_blue x (shaded_not_blue x h)

no_rest : {A : Type 0} {g : Stage} → WorksIn g → g ≡ Rest → A
no_rest (inl e) f = cc
no_rest (inr e) f = cc

no_clear : {A : Type 0} {g : Stage} → WorksIn g → g ≡ Clear → A
no_clear (inl e) f = cc
no_clear (inr e) f = cc

no_sweep : {A : Type 0} {g : Stage} → WorksIn g → g ≡ Sweep → A
no_sweep (inl e) f = cc
no_sweep (inr e) f = cc

module _ (s : State) (I : Invariant s) (colour' : ℕ → Colour) (cache' : Hold) (co' : Collector) where
  abbrev s' : State
  s' = turned s colour' cache' co'

  -- a cell whose colour changes can be touched, and is shaded afterwards
  abbrev pub Shades : Type 0
  Shades = (c : ℕ) → (colour' c ≡ s.cells.colour c) ⊎ (Used s c × (is_shaded (colour' c) ≡ true))

  module _ (shades : Shades) where
    pub shaded_on : (c : ℕ) → Shaded s c → Shaded s' c
    shaded_on c h = ⊎_elim (λ (e : colour' c ≡ s.cells.colour c). ap is_shaded e ∙ h) (λ a. a.1) (shades c)

    pub kept_on : {c : ℕ} → Kept s c → Kept s' c
    kept_on {c} k = (shaded_on c k.0, k.1)

    -- a cell that is kept afterwards was kept, or can be touched
    pub kept_back : {c : ℕ} → Kept s' c → Kept s c ⊎ Used s c
    kept_back {c} k = ⊎_elim (λ (e : colour' c ≡ s.cells.colour c). inl (ap is_shaded (sym e) ∙ k.0, k.1)) (λ a. inr a.0) (shades c)

    pub used_back : {c : ℕ} → Used s' c → Used s c
    used_back = lead_into roots (λ x c e p. along p e)
      where
        roots : (c : ℕ) → UsedRoot s' c → Used s c
        roots c (directory l) = start (directory l)
        roots c (register k j p q) = start (register k j p q)
        roots c (kept k) = ⊎_elim (λ (b : Kept s c). start (kept b)) (λ (u : Used s c). u) (kept_back k)
        roots c (filled i k e) = start (filled i k e)

    not_blue_on : (c : ℕ) → s.cells.colour c ≢ Blue → colour' c ≢ Blue
    not_blue_on c n = ⊎_elim (λ (e : colour' c ≡ s.cells.colour c). λ b. n (sym e ∙ b)) (λ a. shaded_not_blue (colour' c) a.1) (shades c)

    -- a cell being made cannot be touched, so its colour stays
    made_same : (c : ℕ) → Made s c → colour' c ≡ s.cells.colour c
    made_same c k = ⊎_elim (λ (e : colour' c ≡ s.cells.colour c). e) (λ a. absurd ((I.safe c a.0).2 k)) (shades c)

    same_account : (c : ℕ) → blueness (colour' c) ≡ blueness (s.cells.colour c)
    same_account c = ⊎_elim
        (λ (e : colour' c ≡ s.cells.colour c). ap blueness e)
        (λ (a : Used s c × (is_shaded (colour' c) ≡ true)). shaded_colourless (colour' c) a.1 ∙ sym (not_blue (s.cells.colour c) (I.safe c a.0).1))
        (shades c)

    still_structure : cache'.manner ≡ s.cache.manner → cache'.room ≡ s.cache.room → Structure s'
    still_structure manner room =
        let S = I.structure in
        record {
          some = S.some;
          within = S.within;
          memory = record {
            small = S.memory.small;
            within = S.memory.within;
            no_cell = λ c h. ⊎_elim (λ (e : colour' c ≡ s.cells.colour c). e ∙ S.memory.no_cell c h) (λ a. absurd (let l = (I.safe c a.0).0 in omega arith)) (shades c);
            no_link = S.memory.no_link;
          };
          links = S.links;
          free_fair = S.free_fair;
          cache_fair = subst Fair (sym manner) S.cache_fair;
          free_room = S.free_room;
          cache_room = omega (arith, room, S.cache_room);
          slots = S.slots;
          registers = S.registers;
          pools = S.pools;
          account = λ c. S.account c ∙ sym (same_account c);
        }

    still_works : Works s'
    still_works =
        let W = I.works in
        record {
          cell_held = W.cell_held;
          value_held = W.value_held;
          link_there = W.link_there;
          grey_step = W.grey_step;
          warn_step = W.warn_step;
          made_apart = λ x k. let a = W.made_apart x k in (a.0, a.1, not_blue_on x a.2);
          made_once = W.made_once;
        }

    module _ (was : WorksIn s.collector.stage) where
      new_black : (k x : ℕ) (a : Bool) (t : Task) → s.tasks k ≡ Some t → t.work ≡ Some (Making x a) → t.status ≡ Async → colour' x ≡ Black
      new_black k x a t p q e = made_same x (made_by k a p q) ∙ ⊎_elim (λ g. I.new_cells.in_mark k x a t p q e g) (λ g. I.new_cells.in_scan k x a t p q e g) was

      pub marking_turn : WorksIn co'.stage → cache'.manner ≡ s.cache.manner → cache'.room ≡ s.cache.room → Control s'
          → ((c : ℕ) → 0 < copies cache'.members c → Kept s' c) → ((h : Hand) → co'.hand ≡ Some h → Kept s' h.cell × (h.link < s.links))
          → (co'.stage ≡ Mark → (c : ℕ) → c < co'.next → c < s.directory → Shaded s' c)
          → (FirstHalf s' → MarksFirst s') → (Cut : ℕ → ℕ → Bool) → (SecondHalf s' → MarksSecond s' Cut) → Invariant s'
      marking_turn goes manner room control cached_kept hand_kept shaded_directory first Cut second = record {
        structure = still_structure manner room;
        control = control;
        works = still_works;
        safe = λ c u. let a = I.safe c (used_back u) in (a.0, not_blue_on c a.1, a.2);
        new_cells = record {
          unsettled = λ k x t p q n. made_same x (made_by k false p q) ∙ I.new_cells.unsettled k x t p q n;
          settled = λ k x t p q n. made_same x (made_by k true p q) ∙ I.new_cells.settled k x t p q n;
          in_mark = λ k x a t p q e g. new_black k x a t p q e;
          in_scan = λ k x a t p q e g. new_black k x a t p q e;
        };
        sweeps = record {
          cached = cached_kept;
          in_hand = hand_kept;
          rest_black = λ e x q. no_rest goes e;
          clear_black = λ e x q. no_clear goes e;
          behind = λ e x w q. no_sweep goes e;
          ahead_used = λ e x u q. no_sweep goes e;
          ahead_made = λ e x k q. no_sweep goes e;
          new_value = λ k x i c t p q n. shaded_on c (I.sweeps.new_value k x i c t p q n);
          directory = shaded_directory;
        };
        first_half = first;
        Cut = Cut;
        second_half = second;
      }

    -- the second half goes on, if what it had still to find is found or still to be found
    pub second_goes_on : SecondHalf s → (marks : (c : ℕ) → (colour' c ≡ s.cells.colour c) ⊎ Marked s I.Cut c)
        → ((c : ℕ) → 0 < copies cache'.members c → Kept s' c) → ((h : Hand) → co'.hand ≡ Some h → Kept s' h.cell × (h.link < s.links))
        → ((c : ℕ) → Traced s I.Cut c → Marked s' I.Cut c) → MarksSecond s' I.Cut
    second_goes_on half marks cached_kept hand_kept traced_on = record {
      closed = λ x i c k e. mark_on (M.closed x i c (mark_back k) e);
      registers = λ k j c t p g q. mark_on (M.registers k j c t p g q);
      filled = λ k x i c a t p g q e. mark_on (M.filled k x i c a t p g q e);
      directory = λ c l. mark_on (M.directory c l);
      cut_names = λ x i c k e. mark_on (M.cut_names x i c k e);
      cut_cell = λ x i k. let a = M.cut_cell x i k in (not_blue_on x a.0, a.1);
      sync_cut = M.sync_cut;
      store_cut = M.store_cut;
      warn_cut = λ k x i old y t p q. ⊎_elim inl (λ a. inr (a.0, shaded_on old a.1)) (M.warn_cut k x i old y t p q);
    }
      where
        M : MarksSecond s I.Cut
        M = I.second_half half

        mark_on : {c : ℕ} → Marked s I.Cut c → Marked s' I.Cut c
        mark_on (inl k) = inl (kept_on k)
        mark_on {c} (inr t) = traced_on c t

        kept_marked : {c : ℕ} → Kept s' c → Marked s I.Cut c
        kept_marked {c} k = ⊎_elim (λ (e : colour' c ≡ s.cells.colour c). inl (ap is_shaded (sym e) ∙ k.0, k.1)) (λ h. h) (marks c)

        pending_marked : {c : ℕ} → Pending s' c → Marked s I.Cut c
        pending_marked {c} (cached l) = kept_marked (cached_kept c l)
        pending_marked (grey_in_mark e k g) = kept_marked k
        pending_marked {c} (in_directory e l h n) = M.directory c h
        pending_marked (ahead e p l k g) = kept_marked k
        pending_marked (at_scan e p l k g) = kept_marked k
        pending_marked (dirty e p k g) = kept_marked k

        root_marked : (c : ℕ) → TracedRoot s' I.Cut c → Marked s I.Cut c
        root_marked c (pending p) = pending_marked p
        root_marked c (by_hand x f (ahead_of e l)) = M.closed x f.link c (kept_marked (hand_kept _ e).0) f.names

        mark_back : {c : ℕ} → Marked s' I.Cut c → Marked s I.Cut c
        mark_back (inl k) = kept_marked k
        mark_back (inr t) = reached_have (Marked s I.Cut) root_marked (λ x c f k. M.closed x f.link c k f.names) t
