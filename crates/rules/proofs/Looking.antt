-- The sweep's look at a cell keeps the invariant: what is marked becomes White, and what is not becomes free.
use Rattle.std.proofs.Common.{◌≡◌, ℕ, ◌+◌, ◌<◌, ◌≤◌, true, false, eqb, ltb, ◌≢◌, ◌⊎◌, List, [], ◌∷◌, length, Some, sym, refl, ap, ◌∙◌, subst, inl, inr, ⊎_elim, arith}
use Rattle.std.proofs.lemmas.Bool.{cases_eq, cases_lt, cond-true, cond-false, eq-eqb, ne_eqb, lt-ltb}
use Rattle.cells.specs.declared.Colour.{Colour}
use Rattle.cells.specs.declared.Colour.TheVariants.{Blue, White, Grey, Black}
use Rattle.cells.specs.Memory.{at, coloured, recoloured}
use Rattle.bags.specs.Holding.{Hold, Fair, one, copies, has_room, holding, put_into}
use Rattle.rules.specs.declared.Status.TheVariants.{Async}
use Rattle.rules.specs.declared.Stage.TheVariants.{Sweep}
use Rattle.rules.specs.declared.Swept.TheVariants.{At}
use Rattle.rules.specs.State.{State, Task, with_cells, with_free}
use Rattle.rules.specs.Law.{copies_pooled}
use Rattle.rules.specs.Reach.{start, along}
use Rattle.rules.specs.Collecting.{with_looked, swept}
use Rattle.rules.proofs.States.{at_as_it_was, at_here}
use Rattle.rules.proofs.Ways.{lead_into}
use Rattle.rules.proofs.Accounts.{blueness, one_more_fits}
use Rattle.rules.proofs.Words.{Made, is_shaded, Shaded, Used, UsedRoot, directory, register, kept, filled, Busy, in_hand, in_cache, PassedBy, behind, looked_at, Passed, SecondHalf, mark, scan}
use Rattle.rules.proofs.Invariant.{Structure, Control, MarksSecond, Invariant}
use Rattle.rules.proofs.Handshaking.{traces_same}
use Rattle.rules.proofs.Places.{at_same}
use Rattle.rules.proofs.Halves.{all_async}
use Rattle.rules.proofs.Slots.{at_other}
use Rattle.rules.proofs.Numbers.{one_at, one_elsewhere}

some_member : (xs : List ℕ) (c : ℕ) → 0 < copies xs c → 0 < length xs
some_member [] c l = l
some_member (x ∷ xs) c l = omega arith

module _ (s : State) (I : Invariant s) (e : s.collector.stage ≡ Sweep) (k : ℕ) (place : s.collector.swept ≡ At k) (unlooked : s.collector.looked ≡ false) where
  -- the state after the look, with the colour x at k and the free list h
  abbrev seen : Colour → Hold → State
  seen x h = with_looked (with_free (with_cells s (recoloured s.cells k x)) h) true

  inside : k < s.cells.size
  inside =
      let there = I.control.places.sweep_place e in
      let same : there.0 ≡ k = at_same (sym there.1.0 ∙ place) in
      subst (λ j. j < s.cells.size) same there.1.1

  at_async : (m : ℕ) (t : Task) → s.tasks m ≡ Some t → t.status ≡ Async
  at_async m t p = let a = I.control.places.sweep e in all_async s I m t p a.0 a.1

  not_passed : ¬ (Passed s k)
  not_passed (behind q l) = let same = at_same (sym q ∙ place) in omega arith
  not_passed (looked_at q l) = cc

  -- what a colour at k that is not shaded leaves to be shown
  module _ (x : Colour) (pale : is_shaded x ≡ false) (h : Hold) (manner : h.manner ≡ s.free.manner) (room : h.room ≡ s.free.room)
      (account : (c : ℕ) → copies h.members c + copies_pooled 8 s.tasks c ≡ blueness (at k x s.cells.colour c))
      (in_use : Used s k ⊎ Made s k → x ≢ Blue) where
    abbrev s' : State
    s' = seen x h

    here : at k x s.cells.colour k ≡ x
    here = at_here k x s.cells.colour

    elsewhere : (c : ℕ) → (c ≡ k → ⊥) → at k x s.cells.colour c ≡ s.cells.colour c
    elsewhere = at_other k x s.cells.colour

    shaded_back : (c : ℕ) → Shaded s' c → Shaded s c
    shaded_back c b = ⊎_elim
        (λ (q : c ≡ k). let now = ap (λ j. is_shaded (at k x s.cells.colour j)) q ∙ ap is_shaded here in cc)
        (λ (n : c ≡ k → ⊥). ap is_shaded (sym (elsewhere c n)) ∙ b)
        (cases_eq c k)

    black_back : (c : ℕ) → at k x s.cells.colour c ≡ Black → (c ≡ k → ⊥) × (s.cells.colour c ≡ Black)
    black_back c b = ⊎_elim
        (λ (q : c ≡ k). let now = ap (at k x s.cells.colour) q ∙ here in cc)
        (λ (n : c ≡ k → ⊥). (n, sym (elsewhere c n) ∙ b))
        (cases_eq c k)

    not_blue_on : (c : ℕ) → Used s c ⊎ Made s c → s.cells.colour c ≢ Blue → at k x s.cells.colour c ≢ Blue
    not_blue_on c u n b = ⊎_elim
        (λ (q : c ≡ k). in_use (subst (λ j. Used s j ⊎ Made s j) q u) (sym (ap (at k x s.cells.colour) q ∙ here) ∙ b))
        (λ (d : c ≡ k → ⊥). n (sym (elsewhere c d) ∙ b))
        (cases_eq c k)

    used_back : {c : ℕ} → Used s' c → Used s c
    used_back = lead_into roots (λ y c n p. along p n)
      where
        roots : (c : ℕ) → UsedRoot s' c → Used s c
        roots c (directory l) = start (directory l)
        roots c (register m j p q) = start (register m j p q)
        roots c (kept a) = start (kept (shaded_back c a.0, a.1))
        roots c (filled i a n) = start (filled i a n)

    passed_back : (c : ℕ) → (c ≡ k → ⊥) → PassedBy s'.collector c → Passed s c
    passed_back c n (behind q l) = behind q l
    passed_back c n (looked_at q l) = absurd (n (at_same (sym q ∙ place)))

    passed_on : (c : ℕ) → Passed s c → PassedBy s'.collector c
    passed_on c (behind q l) = behind q l
    passed_on c (looked_at q l) = cc

    -- a White cell in use is behind the sweep, or has just been looked at
    white_passed : (c : ℕ) → (s.cells.colour c ≡ White → Passed s c) → at k x s.cells.colour c ≡ White → PassedBy s'.collector c
    white_passed c f w = ⊎_elim
        (λ (q : c ≡ k). looked_at (place ∙ ap At (sym q)) refl)
        (λ (n : c ≡ k → ⊥). passed_on c (f (sym (elsewhere c n) ∙ w)))
        (cases_eq c k)

    not_busy : ¬ (Busy s)
    not_busy = I.control.nothing_traced (λ q. cc) (λ q. cc)

    still_structure : Structure s'
    still_structure =
        let S = I.structure in
        record {
          some = S.some;
          within = S.within;
          memory = record {
            small = S.memory.small;
            within = S.memory.within;
            no_cell = λ c l. elsewhere c (λ q. let near = inside in omega arith) ∙ S.memory.no_cell c l;
            no_link = S.memory.no_link;
          };
          links = S.links;
          free_fair = subst Fair (sym manner) S.free_fair;
          cache_fair = S.cache_fair;
          free_room = omega (arith, room, S.free_room);
          cache_room = S.cache_room;
          slots = S.slots;
          registers = S.registers;
          pools = S.pools;
          account = account;
        }

    still_control : Control s'
    still_control =
        let K = I.control in
        record {
          places = K.places;
          nothing_traced = λ n o u. not_busy (traces_same refl u);
          statuses = K.statuses;
          scan_looked = λ q u j r. cc;
        }

    no_half : SecondHalf s' → MarksSecond s' I.Cut
    no_half (mark q n) = cc
    no_half (scan q) = cc

    pub seen_kept : Invariant (seen x h)
    seen_kept = record {
      structure = still_structure;
      control = still_control;
      works = record {
        cell_held = I.works.cell_held;
        value_held = I.works.value_held;
        link_there = I.works.link_there;
        grey_step = I.works.grey_step;
        warn_step = I.works.warn_step;
        made_apart = λ c m. let a = I.works.made_apart c m in (a.0, a.1, not_blue_on c (inr m) a.2);
        made_once = I.works.made_once;
      };
      safe = λ c u. let v = used_back u in let a = I.safe c v in (a.0, not_blue_on c (inl v) a.1, a.2);
      new_cells = record {
        unsettled = λ m c t p q n. absurd (n (at_async m t p));
        settled = λ m c t p q n. absurd (n (at_async m t p));
        in_mark = λ m c a t p q r g. cc;
        in_scan = λ m c a t p q r g. cc;
      };
      sweeps = record {
        cached = λ c l. absurd (not_busy (in_cache (some_member s.cache.members c l)));
        in_hand = λ g q. absurd (not_busy (in_hand (λ r. cc)));
        rest_black = λ q. cc;
        clear_black = λ q. cc;
        behind = λ q c w b. let was = black_back c b in I.sweeps.behind e c (passed_back c was.0 w) was.1;
        ahead_used = λ q c u w. white_passed c (I.sweeps.ahead_used e c (used_back u)) w;
        ahead_made = λ q c m w. white_passed c (I.sweeps.ahead_made e c m) w;
        new_value = λ m c i v t p q n. absurd (n (at_async m t p));
        directory = λ q. cc;
      };
      first_half = λ half. let q = half.0 in cc;
      Cut = I.Cut;
      second_half = no_half;
    }

  -- a marked cell becomes White
  whitened : (was : is_shaded (s.cells.colour k) ≡ true) → blueness (s.cells.colour k) ≡ 0 → Invariant (seen White s.free)
  whitened was none = seen_kept White refl s.free refl refl account (λ u b. cc)
    where
      account : (c : ℕ) → copies s.free.members c + copies_pooled 8 s.tasks c ≡ blueness (at k White s.cells.colour c)
      account c = ⊎_elim
          (λ (q : c ≡ k). I.structure.account c ∙ ap (λ j. blueness (s.cells.colour j)) q ∙ none ∙ sym (ap blueness (cond-true (eqb c k) White _ (eq-eqb c k q))))
          (λ (n : c ≡ k → ⊥). I.structure.account c ∙ sym (ap blueness (cond-false (eqb c k) White _ (ne_eqb c k n))))
          (cases_eq c k)

  -- a White cell is not in use, so it becomes free; the free list has a place for it
  freed : s.cells.colour k ≡ White → Invariant (seen Blue (put_into s.free k))
  freed white = seen_kept Blue refl (put_into s.free k) (ap (λ (h : Hold). h.manner) put) (ap (λ (h : Hold). h.room) put) account
      (λ u b. not_passed (⊎_elim (λ (v : Used s k). I.sweeps.ahead_used e k v white) (λ (v : Made s k). I.sweeps.ahead_made e k v white) u))
    where
      outside : s.directory ≤ k
      outside = ⊎_elim
          (λ (l : k < s.directory). absurd (not_passed (I.sweeps.ahead_used e k (start (directory l)) white)))
          (λ (l : s.directory ≤ k). l)
          (cases_lt k s.directory)

      put : put_into s.free k ≡ holding s.free (s.free.manner.added s.free.members k)
      put = cond-true (has_room s.free) _ _ (lt-ltb _ _
          (let few = one_more_fits s I.structure.account I.structure.memory.no_cell (λ c l. (I.safe c (start (directory l))).1) k outside inside (λ b. cc) in
          omega (arith, I.structure.free_room)))

      account : (c : ℕ) → copies (put_into s.free k).members c + copies_pooled 8 s.tasks c ≡ blueness (at k Blue s.cells.colour c)
      account c =
          let more : copies (put_into s.free k).members c ≡ one k c + copies s.free.members c = ap (λ (h : Hold). copies h.members c) put ∙ I.structure.free_fair.added_copies s.free.members k c in
          let was = I.structure.account c in
          ⊎_elim
          (λ (q : c ≡ k).
          let here = one_at k c q in
          let none : blueness (s.cells.colour c) ≡ 0 = ap (λ j. blueness (s.cells.colour j)) q ∙ ap blueness white in
          let now : blueness (at k Blue s.cells.colour c) ≡ 1 = ap blueness (cond-true (eqb c k) Blue _ (eq-eqb c k q)) in
          omega arith)
          (λ (n : c ≡ k → ⊥).
          let here = one_elsewhere k c n in
          let now : blueness (at k Blue s.cells.colour c) ≡ blueness (s.cells.colour c) = ap blueness (cond-false (eqb c k) Blue _ (ne_eqb c k n)) in
          omega arith)
          (cases_eq c k)

  painted : (x : Colour) → coloured s.cells k x ≡ recoloured s.cells k x
  painted x = cond-true (ltb k s.cells.size) _ _ (lt-ltb k s.cells.size inside)

  pub looked_kept : (x : Colour) → s.cells.colour k ≡ x → Invariant (swept s k x)
  looked_kept Blue q = subst (λ c. Invariant (with_looked (with_cells s c) true)) same (seen_kept Blue refl s.free refl refl (λ c. I.structure.account c ∙ ap (λ f. blueness (f c)) (sym still)) (λ u b. not_free u q))
    where
      still : at k Blue s.cells.colour ≡ s.cells.colour
      still = at_as_it_was k Blue s.cells.colour q

      same : recoloured s.cells k Blue ≡ s.cells
      same = ap (λ f. record { size = s.cells.size; colour = f; link = s.cells.link }) still

      not_free : Used s k ⊎ Made s k → s.cells.colour k ≢ Blue
      not_free (inl u) = (I.safe k u).1
      not_free (inr m) = (I.works.made_apart k m).2
  looked_kept White q = subst (λ c. Invariant (with_looked (with_free (with_cells s c) (put_into s.free k)) true)) (sym (painted Blue)) (freed q)
  looked_kept Grey q = subst (λ c. Invariant (with_looked (with_cells s c) true)) (sym (painted White)) (whitened (ap is_shaded q) (ap blueness q))
  looked_kept Black q = subst (λ c. Invariant (with_looked (with_cells s c) true)) (sym (painted White)) (whitened (ap is_shaded q) (ap blueness q))
