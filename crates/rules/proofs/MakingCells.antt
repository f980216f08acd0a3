-- What make, fill, the carry on of a making, finish and scrap do to their task and its cell is a turn on the one cell that the task makes.
use Rattle.std.proofs.Common.{◌≡◌, ℕ, ◌+◌, ◌<◌, ◌≤◌, Bool, true, false, ◌≢◌, ◌∷◌, length, Some, None, Option, sym, refl, ap, ◌∙◌, subst, inl, inr, ⊎_elim, arith}
use Rattle.std.proofs.lemmas.Bool.{cases_eq, cases_lt}
use Rattle.cells.specs.declared.Colour.{Colour}
use Rattle.cells.specs.declared.Colour.TheVariants.{Blue, White, Black}
use Rattle.cells.specs.Memory.{at, recoloured, relinked, settable}
use Rattle.bags.specs.Holding.{one, copies}
use Rattle.rules.specs.declared.Status.TheVariants.{Async}
use Rattle.rules.specs.declared.Stage.TheVariants.{Sweep}
use Rattle.rules.specs.declared.Work.TheVariants.{Making}
use Rattle.rules.specs.State.{Task, State, with_pool, with_register, with_work}
use Rattle.rules.specs.Reach.{start}
use Rattle.rules.specs.Pools.{pool_in}
use Rattle.rules.specs.Makings.{older_of, unlinked, begin_making}
use Rattle.rules.specs.Changes.{settled_colour}
use Rattle.rules.proofs.States.{at_here}
use Rattle.rules.proofs.Slots.{at_cases, at_other, pooled_swap}
use Rattle.rules.proofs.Accounts.{blueness, not_blue, is_blue}
use Rattle.rules.proofs.SettledColour.{settled_not_blue, settled_white, settled_before, settled_past, settled_passed, settled_ahead}
use Rattle.rules.proofs.SoundCells.{recoloured_sound, unlinked_sound, relinked_either, relinked_sound}
use Rattle.rules.proofs.Words.{made_by, Made, Passed, behind, looked_at, Used, register, filled, SecondHalf, mark, scan, Marked}
use Rattle.rules.proofs.Invariant.{Invariant, Unsettled, taken}
use Rattle.rules.proofs.NewCell.{Behind, at_rest, at_clear, in_sweep, behind_unsettled, Table, Turn}
use Rattle.rules.proofs.Numbers.{one_at, one_elsewhere}

-- where x alone becomes Blue, it is the one cell more that must be held
bluer : (x : ℕ) (f g : ℕ → Colour) → ((c : ℕ) → c ≢ x → g c ≡ f c) → blueness (f x) ≡ 0 → blueness (g x) ≡ 1 → (c : ℕ) → one x c + blueness (f c) ≡ blueness (g c)
bluer x f g others was now c = ⊎_elim
    (λ (e : c ≡ x).
    let here = one_at x c e in
    let was-here = ap (λ y. blueness (f y)) e in
    let now-here = ap (λ y. blueness (g y)) e in
    omega arith)
    (λ (n : c ≡ x → ⊥).
    let elsewhere = one_elsewhere x c n in
    let same = ap blueness (others c n) in
    omega arith)
    (cases_eq c x)

-- a task in slot m makes x
module _ (s : State) (I : Invariant s) (m x : ℕ) (t : Task) (a : Bool) (present : s.tasks m ≡ Some t) (work : t.work ≡ Some (Making x a)) where
  pub made : Made s x
  made = made_by m a present work

  -- it is Black behind the sweep only while it is not settled
  own_black : Behind s x → s.cells.colour x ≡ Black → t.work ≡ Some (Making x false)
  own_black b q = own (behind_unsettled s I x b q)
    where
      own : Unsettled s x → t.work ≡ Some (Making x false)
      own (k, (v, (p, w))) =
          let same : v ≡ t = let f = ap s.tasks (I.works.made_once k m x false a v t p w present work) in cc in
          subst (λ (y : Task). y.work ≡ Some (Making x false)) same w

  -- finished: it is in register b
  pub finish_turn : (b : ℕ) → b < 8 → a ≡ true → Turn s I m x t (with_work (with_register t b (Some x)) None) s.cells
  finish_turn b l is = record {
    present = present;
    before = inl (a, work);
    table = record {
      sound = I.structure.memory;
      size = refl;
      colours = λ c e. refl;
      links = λ c i e. refl;
      names = λ i c e. start (filled i made e);
      names_marked = λ h g i c e. (I.second_half h).filled m x i c a t present g work e;
    };
    status = refl;
    pool = omega (arith, I.structure.pools m t present);
    account = λ c. refl;
    few = λ j g. at_other b (Some x) t.registers j (λ e. omega arith) ∙ I.structure.registers m j t present g;
    registers = λ j c q. ⊎_elim
        (λ (e : (j ≡ b) × (Some x ≡ Some c)). let f = e.1 in inr (cc, refl, (I.works.made_apart x made).2))
        (λ e. inl e.1)
        (at_cases b (Some x) t.registers j (Some c) q);
    makes = λ w e. cc;
    new_colour = λ c e. cc;
    finished_white = λ _ _ g. I.new_cells.settled m x t present (subst (λ y. t.work ≡ Some (Making x y)) is work) g;
    finished_black = λ _ _ g h. black_in_half g h;
    black = λ b q. let f = own_black b q in cc;
    white = λ e q. I.sweeps.ahead_made e x made q;
  }
    where
      black_in_half : t.status ≡ Async → SecondHalf s → s.cells.colour x ≡ Black
      black_in_half g (mark e n) = I.new_cells.in_mark m x a t present work g e
      black_in_half g (scan e) = I.new_cells.in_scan m x a t present work g e

  -- link i holds what register j held
  pub fill_turn : (i j : ℕ) → settable s.links s.cells x i (t.registers j) ≡ true → Turn s I m x t t (relinked s.cells x i (t.registers j))
  fill_turn i j e = record {
    present = present;
    before = inl (a, work);
    table = record {
      sound = relinked_sound s.cells x i (t.registers j) e I.structure.memory;
      size = refl;
      colours = λ c f. refl;
      links = λ c k f. relinked_either s.cells x i (t.registers j) c k (λ o. o ≡ s.cells.link c k) (λ g _. absurd (f g)) refl;
      names = λ k c. relinked_either s.cells x i (t.registers j) x k (λ o. o ≡ Some c → Used s c) (λ _ _ q. start (register m j present q)) (λ q. start (filled k made q));
      names_marked = λ h g k c. relinked_either s.cells x i (t.registers j) x k (λ o. o ≡ Some c → Marked s I.Cut c)
          (λ _ _. (I.second_half h).registers m j c t present g)
          ((I.second_half h).filled m x k c a t present g work);
    };
    status = refl;
    pool = I.structure.pools m t present;
    account = λ c. refl;
    few = λ k g. I.structure.registers m k t present g;
    registers = λ k c q. inl q;
    makes = λ w f. (a, cc);
    new_colour = λ b f. record {
      not_blue = (I.works.made_apart x made).2;
      black_first = λ g is. I.new_cells.unsettled m x t present (subst (λ y. t.work ≡ Some (Making x y)) is f) g;
      white_then = λ g is. I.new_cells.settled m x t present (subst (λ y. t.work ≡ Some (Making x y)) is f) g;
      in_mark = λ g. I.new_cells.in_mark m x b t present f g;
      in_scan = λ g. I.new_cells.in_scan m x b t present f g;
    };
    finished_white = λ f. cc;
    finished_black = λ f. cc;
    black = own_black;
    white = λ f q. I.sweeps.ahead_made f x made q;
  }

  -- x has another colour
  recoloured_table : (k : Colour) → Table s I x t (recoloured s.cells x k)
  recoloured_table k = record {
    sound = recoloured_sound s.cells x k (I.works.made_apart x made).1 I.structure.memory;
    size = refl;
    colours = λ c e. at_other x k s.cells.colour c e;
    links = λ c i e. refl;
    names = λ i c e. start (filled i made e);
    names_marked = λ h g i c e. (I.second_half h).filled m x i c a t present g work e;
  }

  was_not_blue : blueness (s.cells.colour x) ≡ 0
  was_not_blue = not_blue (s.cells.colour x) (I.works.made_apart x made).2

  -- scrapped: it is Blue, and in the pool
  pub scrap_turn : Turn s I m x t (with_work (with_pool t (x ∷ t.pool)) None) (recoloured s.cells x Blue)
  scrap_turn =
      let blue = at_here x Blue s.cells.colour in
      record {
        present = present;
        before = inl (a, work);
        table = recoloured_table Blue;
        status = refl;
        pool = let some = ap taken work in omega (arith, I.structure.pools m t present);
        account = λ c. let more = bluer x s.cells.colour (at x Blue s.cells.colour) (at_other x Blue s.cells.colour) was_not_blue (ap blueness blue) c in omega arith;
        few = λ k g. I.structure.registers m k t present g;
        registers = λ k c q. inl q;
        makes = λ w e. cc;
        new_colour = λ b e. cc;
        finished_white = λ e n. absurd (n blue);
        finished_black = λ e n. absurd (n blue);
        black = λ e q. cc;
        white = λ e q. cc;
      }

  -- settled: it has the colour that status and sweep ask for
  pub settle_turn : Turn s I m x t (with_work t (Some (Making x true))) (recoloured s.cells x (settled_colour t.status s.collector.swept x))
  settle_turn =
      let k = settled_colour t.status s.collector.swept x in
      let is = at_here x k s.cells.colour in
      record {
        present = present;
        before = inl (a, work);
        table = recoloured_table k;
        status = refl;
        pool = let some = ap taken work in omega (arith, I.structure.pools m t present);
        account = λ c. ⊎_elim
            (λ (e : c ≡ x).
            let was = ap (λ y. blueness (s.cells.colour y)) e ∙ was_not_blue in
            let now = ap blueness (ap (at x k s.cells.colour) e ∙ is) in
            let none = not_blue k (settled_not_blue t.status s.collector.swept x) in
            omega arith)
            (λ (e : c ≡ x → ⊥). let same = ap blueness (at_other x k s.cells.colour c e) in omega arith)
            (cases_eq c x);
        few = λ j g. I.structure.registers m j t present g;
        registers = λ j c q. inl q;
        makes = λ w e. (true, cc);
        new_colour = λ b e. record {
          not_blue = λ q. settled_not_blue t.status s.collector.swept x (sym is ∙ q);
          black_first = λ g f. cc;
          white_then = λ g f. is ∙ settled_white t.status s.collector.swept x g;
          in_mark = λ g f. is ∙ settled_before t.status s.collector.swept x g (I.control.places.mark f);
          in_scan = λ g f. is ∙ settled_before t.status s.collector.swept x g (I.control.places.scan f).2;
        };
        finished_white = λ e. cc;
        finished_black = λ e. cc;
        black = λ b q. absurd (not_black b (sym is ∙ q));
        white = λ e q. ahead e (sym is ∙ q);
      }
    where
      not_black : Behind s x → settled_colour t.status s.collector.swept x ≢ Black
      not_black (at_rest e) q = settled_past t.status s.collector.swept x (I.control.places.rest e).2 q
      not_black (at_clear e) q = settled_past t.status s.collector.swept x (I.control.places.clear e).2 q
      not_black (in_sweep e (behind {k} f l)) q = settled_passed t.status s.collector.swept k x f (omega arith) q
      not_black (in_sweep e (looked_at f l)) q = settled_passed t.status s.collector.swept x x f (omega arith) q

      async : s.collector.stage ≡ Sweep → t.status ≡ Async
      async e = let at = I.control.places.sweep e in ⊎_elim (λ f. f ∙ at.0) (λ f. f ∙ at.1) (I.control.statuses m t present)

      ahead : s.collector.stage ≡ Sweep → settled_colour t.status s.collector.swept x ≡ White → Passed s x
      ahead e q = let place = I.control.places.sweep_place e in behind place.1.0 (settled_ahead t.status s.collector.swept place.0 x (async e) place.1.0 q)

-- an idle task has x as the last added cell of its pool
module _ (s : State) (I : Invariant s) (m x : ℕ) (t : Task) (slot : m < 8) (present : s.tasks m ≡ Some t) (idle : t.work ≡ None) (newest : t.pool ≡ x ∷ older_of t.pool) where
  in_pool : (c : ℕ) → copies t.pool c ≡ one x c + copies (older_of t.pool) c
  in_pool c = ap (λ xs. copies xs c) newest

  -- a pool holds free cells only
  pooled_blue : s.cells.colour x ≡ Blue
  pooled_blue =
      let among = pooled_swap 8 m slot None s.tasks x in
      let mine : copies (pool_in (s.tasks m)) x ≡ copies t.pool x = ap (λ o. copies (pool_in o) x) present in
      let held = in_pool x in
      let here = one_at x x refl in
      let all = I.structure.account x in
      is_blue (s.cells.colour x) (omega arith)

  pub inside : x < s.cells.size
  inside = ⊎_elim
      (λ (l : x < s.cells.size). l)
      (λ (g : s.cells.size ≤ x). let w = I.structure.memory.no_cell x g in let b = pooled_blue in cc)
      (cases_lt x s.cells.size)

  -- its links are empty
  no_names : (i c : ℕ) {A : Type 0} → (unlinked (recoloured s.cells x Black) x).link x i ≡ Some c → A
  no_names i c e =
      let empty = ap (λ (f : ℕ → Option ℕ). f i) (at_here x (λ j. None) s.cells.link) in
      cc

  pub make_turn : Turn s I m x t (begin_making x t) (unlinked (recoloured s.cells x Black) x)
  make_turn =
      let is = at_here x Black s.cells.colour in
      record {
        present = present;
        before = inr (idle, pooled_blue);
        table = record {
          sound = unlinked_sound (recoloured s.cells x Black) x (recoloured_sound s.cells x Black inside I.structure.memory);
          size = refl;
          colours = λ c e. at_other x Black s.cells.colour c e;
          links = λ c i e. ap (λ (f : ℕ → Option ℕ). f i) (at_other x (λ j. None) s.cells.link c e);
          names = λ i c e. no_names i c e;
          names_marked = λ h g i c e. no_names i c e;
        };
        status = refl;
        pool = let many = ap length newest in omega (arith, I.structure.pools m t present);
        account = λ c.
            let held = in_pool c in
            let less = bluer x (at x Black s.cells.colour) s.cells.colour (λ y e. sym (at_other x Black s.cells.colour y e)) (ap blueness is) (ap blueness pooled_blue) c in
            omega arith;
        few = λ j g. I.structure.registers m j t present g;
        registers = λ j c q. inl q;
        makes = λ w e. (false, cc);
        new_colour = λ b e. record {
          not_blue = λ q. cc;
          black_first = λ g f. is;
          white_then = λ g f. cc;
          in_mark = λ g f. is;
          in_scan = λ g f. is;
        };
        finished_white = λ e. cc;
        finished_black = λ e. cc;
        black = λ b q. refl;
        white = λ e q. cc;
      }
