-- A turn of the collector that stays in Mark or Scan, at its place there, keeps the invariant; taking a cell from the cache into the
-- hand is one.
use Rattle.std.proofs.Common.{◌≡◌, ℕ, ◌+◌, ◌<◌, Bool, true, ◌⊎◌, length, Some, None, Option, sym, refl, ap, ◌∙◌, subst, inl, inr, ⊎_elim, arith}
use Rattle.std.proofs.lemmas.Bool.{cases_eq, cond-true, ltb-true}
use Rattle.cells.specs.declared.Colour.{Colour}
use Rattle.cells.specs.declared.Colour.TheVariants.{Black}
use Rattle.bags.specs.Holding.{Hold, one, copies, has_member, holding, taken_from}
use Rattle.rules.specs.declared.Stage.TheVariants.{Mark, Scan}
use Rattle.rules.specs.declared.Hand.{Hand}
use Rattle.rules.specs.declared.Collector.{Collector}
use Rattle.rules.specs.State.{State, with_cache}
use Rattle.rules.specs.Reach.{start, along}
use Rattle.rules.specs.Collecting.{with_hand}
use Rattle.rules.proofs.Ways.{reached_have}
use Rattle.rules.proofs.Words.{Shaded, Kept, Busy, in_cache, InHand, ahead_of, Pending, cached, grey_in_mark, in_directory, ahead, at_scan, dirty, Follows, TracedRoot, pending, by_hand, Traced, Marked, FirstHalf, SecondHalf, mark, scan}
use Rattle.rules.proofs.Invariant.{Control, Invariant}
use Rattle.rules.proofs.Marking.{turned, WorksIn, Shades, shaded_on, marking_turn, second_goes_on}
use Rattle.rules.proofs.Touched.{no_hand}
use Rattle.rules.proofs.Numbers.{one_elsewhere}

-- the collector at the same place of the same stage
abbrev pub going : Collector → Bool → ℕ → Bool → Option Hand → Collector
going co unclean next looked hand = record { status = co.status; phase = co.phase; swept = co.swept; scanned = co.scanned; dirty = unclean; stage = co.stage; next = next; looked = looked; hand = hand }

module _ (s : State) (I : Invariant s) (colour' : ℕ → Colour) (cache' : Hold) (dirty' : Bool) (next' : ℕ) (looked' : Bool) (hand' : Option Hand) where
  abbrev s' : State
  s' = turned s colour' cache' (going s.collector dirty' next' looked' hand')

  pub record GoesOn : Type 0 where
    pub was : WorksIn s.collector.stage
    pub shades : Shades s I colour' cache' (going s.collector dirty' next' looked' hand')
    pub marks : SecondHalf s → (c : ℕ) → (colour' c ≡ s.cells.colour c) ⊎ Marked s I.Cut c
    pub manner : cache'.manner ≡ s.cache.manner
    pub room : cache'.room ≡ s.cache.room
    pub looks : s.collector.stage ≡ Scan → Busy s' → (k : ℕ) → s.collector.scanned ≡ Some k → (k < s.cells.size) × (looked' ≡ true) × Kept s' k
    pub cached_kept : (c : ℕ) → 0 < copies cache'.members c → Kept s' c
    pub hand_kept : (h : Hand) → hand' ≡ Some h → Kept s' h.cell × (h.link < s.links)
    pub shaded_directory : s.collector.stage ≡ Mark → (c : ℕ) → c < next' → c < s.directory → Shaded s' c
    pub black_to_shaded : FirstHalf s → (x i c : ℕ) → Kept s' x → colour' x ≡ Black → ¬ (0 < copies cache'.members x) → ¬ (InHand s' x i) → s.cells.link x i ≡ Some c → Shaded s' c
    pub traced_on : SecondHalf s → (c : ℕ) → Traced s I.Cut c → Marked s' I.Cut c

  still_control : GoesOn → Control s'
  still_control g =
      let K = I.control in
      record {
        places = K.places;
        nothing_traced = λ n o u. ⊎_elim n o g.was;
        statuses = K.statuses;
        scan_looked = g.looks;
      }

  second_back : SecondHalf s' → SecondHalf s
  second_back (mark e n) = mark e n
  second_back (scan e) = scan e

  pub goes_on_kept : GoesOn → Invariant s'
  goes_on_kept g = marking_turn s I colour' cache' (going s.collector dirty' next' looked' hand') g.shades g.was g.was g.manner g.room (still_control g)
      g.cached_kept g.hand_kept g.shaded_directory
      (λ h. record {
        black_to_shaded = g.black_to_shaded h;
        changed_link = λ k x i c y step t p q e n. shaded_on s I colour' cache' (going s.collector dirty' next' looked' hand') g.shades c ((I.first_half h).changed_link k x i c y step t p q e n);
      })
      I.Cut
      (λ h. let half = second_back h in second_goes_on s I colour' cache' (going s.collector dirty' next' looked' hand') g.shades half (g.marks half) g.cached_kept g.hand_kept (g.traced_on half))

-- a cell goes from the cache into the hand
module _ (s : State) (I : Invariant s) (was : WorksIn s.collector.stage) (free-hand : s.collector.hand ≡ None) (some : has_member s.cache ≡ true) where
  abbrev chosen : ℕ
  chosen = s.cache.manner.choice s.cache.members

  abbrev cache' : Hold
  cache' = taken_from s.cache

  abbrev taken : State
  taken = with_hand (with_cache s cache') (Some (record { cell = chosen; link = 0 }))

  members : 0 < length s.cache.members
  members = ltb-true 0 (length s.cache.members) some

  is_taken : cache' ≡ holding s.cache (s.cache.manner.rest s.cache.members)
  is_taken = cond-true (has_member s.cache) _ _ some

  copies_left : (c : ℕ) → one chosen c + copies cache'.members c ≡ copies s.cache.members c
  copies_left c = ap (λ (h : Hold). one chosen c + copies h.members c) is_taken ∙ I.structure.cache_fair.rest_copies s.cache.members members c

  busy : Busy s
  busy = in_cache members

  chosen_kept : Kept s chosen
  chosen_kept = I.sweeps.cached chosen (I.structure.cache_fair.choice_member s.cache.members members)

  -- a cell in the cache is still there, or is the one in hand
  left_or_chosen : (c : ℕ) → 0 < copies s.cache.members c → (c ≡ chosen) ⊎ (0 < copies cache'.members c)
  left_or_chosen c l = ⊎_elim
      (λ (e : c ≡ chosen). inl e)
      (λ (n : c ≡ chosen → ⊥). inr (let all = copies_left c in let none = one_elsewhere chosen c n in omega arith))
      (cases_eq c chosen)

  abbrev follows_on : (x c : ℕ) → Follows s I.Cut x c → Follows taken I.Cut x c
  follows_on x c f = record { link = f.link; names = f.names; uncut = f.uncut; not_black = f.not_black; not_at_scan = λ a. f.not_at_scan (a.0, a.1, busy) }

  traced_or_chosen : (c : ℕ) → Traced s I.Cut c → Traced taken I.Cut c ⊎ (c ≡ chosen)
  traced_or_chosen c = reached_have (λ c. Traced taken I.Cut c ⊎ (c ≡ chosen)) roots edges
    where
      pending_on : (c : ℕ) → Pending s c → Traced taken I.Cut c ⊎ (c ≡ chosen)
      pending_on c (cached l) = ⊎_elim (λ e. inr e) (λ h. inl (start (pending (cached h)))) (left_or_chosen c l)
      pending_on c (grey_in_mark e k g) = inl (start (pending (grey_in_mark e k g)))
      pending_on c (in_directory e l h n) = inl (start (pending (in_directory e l h n)))
      pending_on c (ahead e p l k g) = inl (start (pending (ahead e p l k g)))
      pending_on c (at_scan e p l k g) = inl (start (pending (at_scan e p l k g)))
      pending_on c (dirty e p k g) = inl (start (pending (dirty e p k g)))

      roots : (c : ℕ) → TracedRoot s I.Cut c → Traced taken I.Cut c ⊎ (c ≡ chosen)
      roots c (pending p) = pending_on c p
      roots c (by_hand x f h) = absurd (no_hand free-hand h)

      edges : (x c : ℕ) → Follows s I.Cut x c → Traced taken I.Cut x ⊎ (x ≡ chosen) → Traced taken I.Cut c ⊎ (c ≡ chosen)
      edges x c f (inl t) = inl (along t (follows_on x c f))
      edges x c f (inr e) =
          let held : ◌≡◌ {A = Option Hand} (Some (record { cell = chosen; link = 0 })) (Some (record { cell = x; link = 0 })) = ap (λ y. Some (record { cell = y; link = 0 })) (sym e) in
          inl (start (by_hand x (follows_on x c f) (ahead_of held (omega arith))))

  pub take_kept : Invariant taken
  take_kept = goes_on_kept s I s.cells.colour cache' s.collector.dirty s.collector.next s.collector.looked (Some (record { cell = chosen; link = 0 })) (record {
    was = was;
    shades = λ c. inl refl;
    marks = λ h c. inl refl;
    manner = ap (λ (h : Hold). h.manner) is_taken;
    room = ap (λ (h : Hold). h.room) is_taken;
    looks = λ e u k q. I.control.scan_looked e busy k q;
    cached_kept = λ c l. I.sweeps.cached c (let all = copies_left c in omega arith);
    hand_kept = λ h e. let same : record { cell = chosen; link = 0 } ≡ h = cc in subst (λ (g : Hand). Kept s g.cell × (g.link < s.links)) same (chosen_kept, I.structure.links);
    shaded_directory = I.sweeps.directory;
    black_to_shaded = λ h x i c k b n a e. (I.first_half h).black_to_shaded x i c k b
        (λ l. ⊎_elim
        (λ (q : x ≡ chosen). a (ahead_of (ap (λ y. Some (record { cell = y; link = 0 })) (sym q)) (omega arith)))
        (λ m. n m)
        (left_or_chosen x l))
        (λ a. no_hand free-hand a) e;
    traced_on = λ h c t. ⊎_elim (λ u. inr u) (λ (e : c ≡ chosen). inl (subst (Kept s) (sym e) chosen_kept)) (traced_or_chosen c t);
  })
