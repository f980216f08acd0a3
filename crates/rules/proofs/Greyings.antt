-- To grey White cells that can be touched keeps the invariant: what is greyed is a new start of the marking, or was marked already.
use Rattle.std.proofs.Common.{◌≡◌, ℕ, Bool, true, false, ◌≢◌, ◌⊎◌, Some, sym, refl, ap, ◌∙◌, inl, inr, ⊎_elim, arith}
use Rattle.std.proofs.lemmas.Bool.{cases_Bool}
use Rattle.cells.specs.declared.Colour.{Colour}
use Rattle.cells.specs.declared.Colour.TheVariants.{Blue, White, Grey, Black}
use Rattle.cells.specs.Memory.{Cells}
use Rattle.rules.specs.declared.Stage.TheVariants.{Mark}
use Rattle.rules.specs.State.{State, with_cells}
use Rattle.rules.specs.Reach.{start, along}
use Rattle.rules.proofs.Ways.{lead_into, reached_have}
use Rattle.rules.proofs.Accounts.{blueness}
use Rattle.rules.proofs.Words.{made_by, Made, Shaded, is_shaded, Kept, Used, UsedRoot, directory, register, kept, filled, FirstHalf, SecondHalf, Pending, cached, grey_in_mark, in_directory, ahead, at_scan, dirty, Follows, TracedRoot, pending, by_hand, Traced, Marked}
use Rattle.rules.proofs.Invariant.{Structure, Control, Works, NewCells, Sweeps, MarksFirst, MarksSecond, Invariant}
use Rattle.rules.proofs.Touched.{hand_kept}

-- a table with other colours
abbrev pub painted : Cells → (ℕ → Colour) → Cells
painted m f = record { size = m.size; colour = f; link = m.link }

pub black_or_not : (x : Colour) → (x ≡ Black) ⊎ (x ≢ Black)
black_or_not Blue = inr (λ e. cc)
black_or_not White = inr (λ e. cc)
black_or_not Grey = inr (λ e. cc)
black_or_not Black = inl refl

pub shaded_colour : (x : Colour) → is_shaded x ≡ true → (x ≡ Grey) ⊎ (x ≡ Black)
shaded_colour Grey e = inl refl
shaded_colour Black e = inr refl
shaded_colour Blue e = cc
shaded_colour White e = cc

-- as it was, or Grey where it was White
pub data Greys (Why : Type 0) (old new : Colour) : Type 0 where
  as_before : new ≡ old → Greys Why old new
  greys : old ≡ White → new ≡ Grey → Why → Greys Why old new

module _ {Why : Type 0} {old new : Colour} where
  pub greys_blueness : Greys Why old new → blueness new ≡ blueness old
  greys_blueness (as_before e) = ap blueness e
  greys_blueness (greys w g y) = ap blueness g ∙ sym (ap blueness w)

  pub greys_shaded : Greys Why old new → is_shaded old ≡ true → is_shaded new ≡ true
  greys_shaded (as_before e) h = ap is_shaded e ∙ h
  greys_shaded (greys w g y) h = ap is_shaded g

  -- Blue, White and Black do not come newly, and none of Blue, Grey and Black goes
  pub greys_blue : Greys Why old new → new ≡ Blue → old ≡ Blue
  greys_blue (as_before e) b = sym e ∙ b
  greys_blue (greys w g y) b = cc

  pub greys_white : Greys Why old new → new ≡ White → old ≡ White
  greys_white (as_before e) b = sym e ∙ b
  greys_white (greys w g y) b = w

  pub greys_black : Greys Why old new → new ≡ Black → old ≡ Black
  greys_black (as_before e) b = sym e ∙ b
  greys_black (greys w g y) b = cc

  pub black_stays : Greys Why old new → old ≡ Black → new ≡ Black
  black_stays (as_before e) b = e ∙ b
  black_stays (greys w g y) b = cc

  pub grey_stays : Greys Why old new → old ≡ Grey → new ≡ Grey
  grey_stays (as_before e) b = e ∙ b
  grey_stays (greys w g y) b = g

  -- what is shaded was shaded, or is newly Grey
  pub shaded_newly : Greys Why old new → is_shaded new ≡ true → (is_shaded old ≡ true) ⊎ (Why × (new ≡ Grey))
  shaded_newly (as_before e) h = inl (ap is_shaded (sym e) ∙ h)
  shaded_newly (greys w g y) h = inr (y, g)

  pub same_without : Greys Why old new → (Why → ⊥) → new ≡ old
  same_without (as_before e) n = e
  same_without (greys w g y) n = absurd (n y)

-- colours f, in which cells that there is a reason for are greyed
module _ (s : State) (I : Invariant s) (f : ℕ → Colour) (Why : ℕ → Type 0)
    (each : (c : ℕ) → Greys (Why c) (s.cells.colour c) (f c))
    (used : (c : ℕ) → Why c → Used s c)
    (marked : SecondHalf s → (c : ℕ) → Why c → (s.collector.stage ≡ Mark) ⊎ Marked s I.Cut c) where
  abbrev s' : State
  s' = with_cells s (painted s.cells f)

  shade_on : (c : ℕ) → Shaded s c → Shaded s' c
  shade_on c = greys_shaded (each c)

  keep_on : {c : ℕ} → Kept s c → Kept s' c
  keep_on {c} k = (shade_on c k.0, k.1)

  keep_back : (c : ℕ) → Kept s' c → Kept s c ⊎ (Why c × (f c ≡ Grey))
  keep_back c k = ⊎_elim (λ h. inl (h, k.1)) (λ y. inr y) (shaded_newly (each c) k.0)

  kept_was_used : (c : ℕ) → Kept s' c → Used s c
  kept_was_used c k = ⊎_elim (λ (h : Kept s c). start (kept h)) (λ (y : Why c × (f c ≡ Grey)). used c y.0) (keep_back c k)

  used_back : {c : ℕ} → Used s' c → Used s c
  used_back = lead_into roots (λ x c e p. along p e)
    where
      roots : (c : ℕ) → UsedRoot s' c → Used s c
      roots c (directory l) = start (directory l)
      roots c (register k j p q) = start (register k j p q)
      roots c (kept k) = kept_was_used c k
      roots c (filled i k e) = start (filled i k e)

  made_same : (c : ℕ) → Made s c → f c ≡ s.cells.colour c
  made_same c k = same_without (each c) (λ y. (I.safe c (used c y)).2 k)

  pending_on : {c : ℕ} → Pending s c → Pending s' c
  pending_on (cached l) = cached l
  pending_on {c} (grey_in_mark e k g) = grey_in_mark e (keep_on k) (grey_stays (each c) g)
  pending_on {c} (in_directory e l h n) = in_directory e l h (λ b. n (greys_black (each c) b))
  pending_on {c} (ahead e p l k g) = ahead e p l (keep_on k) (grey_stays (each c) g)
  pending_on {c} (at_scan e p l k g) = at_scan e p l (keep_on k) (grey_stays (each c) g)
  pending_on {c} (dirty e p k g) = dirty e p (keep_on k) (grey_stays (each c) g)

  module _ (Cut : ℕ → ℕ → Bool) where
    follows_on : {x c : ℕ} → Follows s Cut x c → Follows s' Cut x c
    follows_on {x} {c} w = record { link = w.link; names = w.names; uncut = w.uncut; not_black = λ b. w.not_black (greys_black (each c) b); not_at_scan = w.not_at_scan }

    root_on : (c : ℕ) → TracedRoot s Cut c → Traced s' Cut c
    unfolding follows_on
    root_on c (pending p) = start (pending (pending_on p))
    root_on c (by_hand x w h) = start (by_hand x (follows_on w) h)

    mark_on : {c : ℕ} → Marked s Cut c → Marked s' Cut c
    mark_on (inl k) = inl (keep_on k)
    mark_on (inr t) = inr (lead_into root_on (λ x c w p. along p (follows_on w)) t)

  -- in the second half, what is marked now was marked, or is traced by a marking that still has every kept Grey cell before it
  module _ (half : SecondHalf s) where
    abbrev Found : ℕ → Type 0
    Found c = Marked s I.Cut c ⊎ ((s.collector.stage ≡ Mark) × Traced s' I.Cut c × Used s c)

    kept_found : (c : ℕ) → Kept s' c → Found c
    kept_found c k = ⊎_elim
        (λ (h : Kept s c). inl (inl h))
        (λ (y : Why c × (f c ≡ Grey)). ⊎_elim
        (λ (g : s.collector.stage ≡ Mark). inr (g, start (pending (grey_in_mark g k y.1)), used c y.0))
        (λ (h : Marked s I.Cut c). inl h)
        (marked half c y.0))
        (keep_back c k)

    pending_found : (c : ℕ) → Pending s' c → Found c
    pending_found c (cached l) = inl (inr (start (pending (cached l))))
    pending_found c (grey_in_mark e k g) = inr (e, start (pending (grey_in_mark e k g)), kept_was_used c k)
    pending_found c (in_directory e l h n) = inr (e, start (pending (in_directory e l h n)), start (directory h))
    pending_found c (ahead e p l k g) = kept_found c k
    pending_found c (at_scan e p l k g) = kept_found c k
    pending_found c (dirty e p k g) = kept_found c k

    traced_found : {c : ℕ} → Traced s' I.Cut c → Found c
    traced_found = reached_have Found roots edges
      where
        roots : (c : ℕ) → TracedRoot s' I.Cut c → Found c
        roots c (pending p) = pending_found c p
        roots c (by_hand x w h) = inl ((I.second_half half).closed x w.link c (inl (hand_kept s I h)) w.names)

        edges : (x c : ℕ) → Follows s' I.Cut x c → Found x → Found c
        edges x c w (inl k) = inl ((I.second_half half).closed x w.link c k w.names)
        edges x c w (inr (e, t, u)) = inr (e, along t w, along u (w.link, w.names))

    found : (c : ℕ) → Marked s' I.Cut c → Found c
    found c (inl k) = kept_found c k
    found c (inr t) = traced_found t

    still_closed : (x i c : ℕ) → Marked s' I.Cut x → s.cells.link x i ≡ Some c → Marked s' I.Cut c
    still_closed x i c k e = by (found x k)
      where
        -- an uncut field of a traced cell leads to a kept cell, or the tracing goes along it
        by_way : (s.collector.stage ≡ Mark) × Traced s' I.Cut x × Used s x → Marked s' I.Cut c
        by_way (g, t, u) = ⊎_elim
            (λ (cut : I.Cut x i ≡ true). mark_on I.Cut ((I.second_half half).cut_names x i c cut e))
            (λ (uncut : I.Cut x i ≡ false). ⊎_elim
            (λ (b : f c ≡ Black). inl (ap is_shaded b, (I.safe c (along u (i, e))).2))
            (λ (n : f c ≢ Black). inr (along t (record { link = i; names = e; uncut = uncut; not_black = n; not_at_scan = λ a. let h = a.0 in cc })))
            (black_or_not (f c)))
            (cases_Bool (I.Cut x i))

        by : Found x → Marked s' I.Cut c
        by (inl h) = mark_on I.Cut ((I.second_half half).closed x i c h e)
        by (inr h) = by_way h

    still_second : MarksSecond s' I.Cut
    still_second =
        let M = I.second_half half in
        record {
          closed = still_closed;
          registers = λ k j c t p g q. mark_on I.Cut (M.registers k j c t p g q);
          filled = λ k x i c a t p g q e. mark_on I.Cut (M.filled k x i c a t p g q e);
          directory = λ c l. mark_on I.Cut (M.directory c l);
          cut_names = λ x i c k e. mark_on I.Cut (M.cut_names x i c k e);
          cut_cell = λ x i k. let a = M.cut_cell x i k in (λ b. a.0 (greys_blue (each x) b), a.1);
          sync_cut = M.sync_cut;
          store_cut = M.store_cut;
          warn_cut = λ k x i old y t p q. ⊎_elim (λ a. inl a) (λ a. inr (a.0, shade_on old a.1)) (M.warn_cut k x i old y t p q);
        }

  still_first : FirstHalf s' → MarksFirst s'
  still_first h =
      let F = I.first_half h in
      record {
        black_to_shaded = λ x i c k b n a e. shade_on c (F.black_to_shaded x i c (was_kept x k b) (greys_black (each x) b) n a e);
        changed_link = λ k x i c y step t p q g e. shade_on c (F.changed_link k x i c y step t p q g e);
      }
    where
      was_kept : (x : ℕ) → Kept s' x → f x ≡ Black → Kept s x
      was_kept x k b = ⊎_elim (λ (h : Kept s x). h) (λ (y : Why x × (f x ≡ Grey)). let g = y.1 in cc) (keep_back x k)

  still_structure : Structure s'
  still_structure =
      let S = I.structure in
      record {
        some = S.some;
        within = S.within;
        memory = record {
          small = S.memory.small;
          within = S.memory.within;
          no_cell = λ c l. same_without (each c) (λ y. let a = (I.safe c (used c y)).0 in omega arith) ∙ S.memory.no_cell c l;
          no_link = S.memory.no_link;
        };
        links = S.links;
        free_fair = S.free_fair;
        cache_fair = S.cache_fair;
        free_room = S.free_room;
        cache_room = S.cache_room;
        slots = S.slots;
        registers = S.registers;
        pools = S.pools;
        account = λ c. S.account c ∙ sym (greys_blueness (each c));
      }

  still_control : Control s'
  still_control =
      let K = I.control in
      record {
        places = K.places;
        nothing_traced = K.nothing_traced;
        statuses = K.statuses;
        scan_looked = λ e u k q. let a = K.scan_looked e u k q in (a.0, a.1, keep_on a.2);
      }

  still_works : Works s'
  still_works =
      let W = I.works in
      record {
        cell_held = W.cell_held;
        value_held = W.value_held;
        link_there = W.link_there;
        grey_step = W.grey_step;
        warn_step = W.warn_step;
        made_apart = λ x k. let a = W.made_apart x k in (a.0, a.1, λ b. a.2 (greys_blue (each x) b));
        made_once = W.made_once;
      }

  still_new : NewCells s'
  still_new =
      let N = I.new_cells in
      record {
        unsettled = λ k x t p q n. made_same x (made_by k false p q) ∙ N.unsettled k x t p q n;
        settled = λ k x t p q n. made_same x (made_by k true p q) ∙ N.settled k x t p q n;
        in_mark = λ k x a t p q e g. made_same x (made_by k a p q) ∙ N.in_mark k x a t p q e g;
        in_scan = λ k x a t p q e g. made_same x (made_by k a p q) ∙ N.in_scan k x a t p q e g;
      }

  still_sweeps : Sweeps s'
  still_sweeps =
      let W = I.sweeps in
      record {
        cached = λ c l. keep_on (W.cached c l);
        in_hand = λ h e. let a = W.in_hand h e in (keep_on a.0, a.1);
        rest_black = λ e x q. W.rest_black e x (greys_black (each x) q);
        clear_black = λ e x q. W.clear_black e x (greys_black (each x) q);
        behind = λ e x w q. W.behind e x w (greys_black (each x) q);
        ahead_used = λ e x u q. W.ahead_used e x (used_back u) (greys_white (each x) q);
        ahead_made = λ e x k q. W.ahead_made e x k (greys_white (each x) q);
        new_value = λ k x i c t p q n. shade_on c (W.new_value k x i c t p q n);
        directory = λ e c l h. shade_on c (W.directory e c l h);
      }

  pub greyed_turn : Invariant (with_cells s (painted s.cells f))
  greyed_turn = record {
    structure = still_structure;
    control = still_control;
    works = still_works;
    safe = λ c u. let a = I.safe c (used_back u) in (a.0, λ b. a.1 (greys_blue (each c) b), a.2);
    new_cells = still_new;
    sweeps = still_sweeps;
    first_half = still_first;
    Cut = I.Cut;
    second_half = still_second;
  }
