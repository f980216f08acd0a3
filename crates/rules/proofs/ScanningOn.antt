-- The scan's way through the cells keeps the invariant: its beginning, its step to the next cell, its return to the first, and its end,
-- where every cell that can be touched is found.
use Rattle.std.proofs.Common.{◌≡◌, ℕ, ◌+◌, ◌<◌, ◌≤◌, Bool, true, false, List, [], ◌∷◌, length, Some, None, sym, refl, ap, ◌∙◌, inl, inr, ⊎_elim, arith}
use Rattle.std.proofs.lemmas.Bool.{cases_eq}
use Rattle.cells.specs.declared.Colour.TheVariants.{White, Grey}
use Rattle.bags.specs.Holding.{copies, has_member}
use Rattle.rules.specs.declared.Status.TheVariants.{Async, Sync1, Sync2}
use Rattle.rules.specs.declared.Stage.TheVariants.{Mark, Scan}
use Rattle.rules.specs.declared.Swept.TheVariants.{Before}
use Rattle.rules.specs.State.{State, Task}
use Rattle.rules.specs.Reach.{start, along}
use Rattle.rules.specs.Collecting.{scan_from, sweep_from}
use Rattle.rules.proofs.Ways.{lead_into, reached_have}
use Rattle.rules.proofs.Words.{Made, made_by, Kept, Used, UsedRoot, directory, register, kept, filled, Busy, PassedBy, behind, looked_at, Pending, cached, grey_in_mark, in_directory, ahead, at_scan, dirty, Follows, TracedRoot, pending, by_hand, Traced, Marked, SecondHalf, mark, scan}
use Rattle.rules.proofs.Places.{placed, in_scan, in_sweep, at_same}
use Rattle.rules.proofs.Invariant.{MarksSecond, Invariant}
use Rattle.rules.proofs.Touched.{kept_used, no_hand}
use Rattle.rules.proofs.Handshaking.{quiet_turn, traces_same}
use Rattle.rules.proofs.Marking.{WorksIn, marking_turn, second_goes_on}
use Rattle.rules.proofs.TracingTurns.{no_members, not_busy}
use Rattle.std.proofs.lemmas.Option.{same_Some}
use Rattle.rules.proofs.Halves.{all_async}

-- the scan goes to cell k, with nothing to trace and every task at Async
module _ (s : State) (I : Invariant s) (was : WorksIn s.collector.stage) (free-hand : s.collector.hand ≡ None) (empty : has_member s.cache ≡ false)
    (async : (s.collector.status ≡ Async) × (s.collector.phase ≡ Async) × (s.collector.swept ≡ Before)) (unclean : Bool) (k : ℕ) (inside : k ≤ s.cells.size)
    (pending_on : (c : ℕ) → Pending s c → Pending (scan_from s unclean k) c) where
  abbrev s' : State
  s' = scan_from s unclean k

  half : SecondHalf s
  half = ⊎_elim (λ (e : s.collector.stage ≡ Mark). mark e (λ q. let p = async.1 in cc)) (λ e. scan e) was

  still_idle : ¬ (Busy s')
  still_idle u = not_busy s I free-hand empty (traces_same refl u)

  traced_on : (c : ℕ) → Traced s I.Cut c → Marked s' I.Cut c
  traced_on c t = inr (lead_into roots edges t)
    where
      roots : (c : ℕ) → TracedRoot s I.Cut c → Traced s' I.Cut c
      roots c (pending p) = start (pending (pending_on c p))
      roots c (by_hand x f h) = absurd (no_hand free-hand h)

      edges : (x c : ℕ) → Follows s I.Cut x c → Traced s' I.Cut x → Traced s' I.Cut c
      edges x c f t = along t (record { link = f.link; names = f.names; uncut = f.uncut; not_black = f.not_black; not_at_scan = λ a. still_idle a.2 })

  pub scan_from_kept : Invariant (scan_from s unclean k)
  scan_from_kept =
      let K = I.control in
      marking_turn s I s.cells.colour s.cache s'.collector (λ c. inl refl) was (inr refl) refl refl
      (record {
        places = placed refl async.0 async.1 async.2 refl (in_scan inside);
        nothing_traced = λ n o u. o refl;
        statuses = K.statuses;
        scan_looked = λ e u j q. absurd (still_idle u);
      })
      I.sweeps.cached I.sweeps.in_hand (λ e. cc)
      (λ h. let e = h.0 in cc)
      I.Cut
      (λ h. second_goes_on s I s.cells.colour s.cache s'.collector (λ c. inl refl) half (λ c. inl refl) I.sweeps.cached I.sweeps.in_hand traced_on)

no_copies : (xs : List ℕ) (c : ℕ) → length xs ≡ 0 → copies xs c ≡ 0
no_copies [] c e = refl
no_copies (x ∷ xs) c e = absurd (omega arith)

module _ (s : State) (I : Invariant s) (free-hand : s.collector.hand ≡ None) (empty : has_member s.cache ≡ false) where
  nothing_cached : {A : Type 0} (c : ℕ) → 0 < copies s.cache.members c → A
  nothing_cached c l = let none = no_copies s.cache.members c (no_members s I free-hand empty) in absurd (omega arith)

  -- each Grey cell is still to be looked at where the scan begins
  grey_ahead : (unclean : Bool) (c : ℕ) → Kept s c → s.cells.colour c ≡ Grey → Pending (scan_from s unclean 0) c
  grey_ahead unclean c k g = ⊎_elim
      (λ (e : 0 ≡ c). at_scan refl (ap Some e) refl k g)
      (λ (n : 0 ≡ c → ⊥). ahead refl refl (omega arith) k g)
      (cases_eq 0 c)

  -- from Mark, once the directory is blackened
  pub scan_begun_kept : s.collector.stage ≡ Mark → s.collector.phase ≡ Async → s.directory ≤ s.collector.next → Invariant (scan_from s false 0)
  scan_begun_kept e async passed = scan_from_kept s I (inl e) free-hand empty (status, async, I.control.places.mark e) false 0 (omega arith) pending_on
    where
      status : s.collector.status ≡ Async
      status = ⊎_elim
          (λ (a : (s.collector.status ≡ Sync2) × (s.collector.phase ≡ Sync1)). let p = a.1 in cc)
          (λ a. a.0)
          (I.control.places.mark_statuses e)

      pending_on : (c : ℕ) → Pending s c → Pending (scan_from s false 0) c
      pending_on c (cached l) = nothing_cached c l
      pending_on c (grey_in_mark q k g) = grey_ahead false c k g
      pending_on c (in_directory q l h n) = absurd (omega arith)
      pending_on c (ahead q p l k g) = grey_ahead false c k g
      pending_on c (at_scan q p l k g) = grey_ahead false c k g
      pending_on c (dirty q p k g) = grey_ahead false c k g

  -- at cell here of the scan
  module _ (e : s.collector.stage ≡ Scan) (here : ℕ) (place : s.collector.scanned ≡ Some here) where
    not_in_mark : {A : Type 0} → s.collector.stage ≡ Mark → A
    not_in_mark q = cc

    -- on to the next cell
    pub scan_next_kept : here < s.cells.size → s.collector.looked ≡ true → Invariant (scan_from s s.collector.dirty (here + 1))
    scan_next_kept near looked = scan_from_kept s I (inr e) free-hand empty (I.control.places.scan e) s.collector.dirty (here + 1) (omega arith) pending_on
      where
        pending_on : (c : ℕ) → Pending s c → Pending (scan_from s s.collector.dirty (here + 1)) c
        pending_on c (cached l) = nothing_cached c l
        pending_on c (grey_in_mark q h g) = not_in_mark q
        pending_on c (in_directory q l h n) = not_in_mark q
        pending_on c (ahead {k} q p l h g) =
            let same : k ≡ here = same_Some _ _ (sym p ∙ place) in
            ⊎_elim
            (λ (r : here + 1 ≡ c). at_scan refl (ap Some r) refl h g)
            (λ (r : here + 1 ≡ c → ⊥). ahead refl refl (let far : here + 1 < c = omega arith in far) h g)
            (cases_eq (here + 1) c)
        pending_on c (at_scan q p l h g) = cc
        pending_on c (dirty q p h g) = dirty refl p h g

    -- back to the first cell, where a Grey cell may be left behind
    pub scan_again_kept : Invariant (scan_from s false 0)
    scan_again_kept = scan_from_kept s I (inr e) free-hand empty (I.control.places.scan e) false 0 (omega arith) pending_on
      where
        pending_on : (c : ℕ) → Pending s c → Pending (scan_from s false 0) c
        pending_on c (cached l) = nothing_cached c l
        pending_on c (grey_in_mark q k g) = not_in_mark q
        pending_on c (in_directory q l h n) = not_in_mark q
        pending_on c (ahead q p l k g) = grey_ahead false c k g
        pending_on c (at_scan q p l k g) = grey_ahead false c k g
        pending_on c (dirty q p k g) = grey_ahead false c k g

    -- with no Grey cell left, what can be touched is found, and the sweep begins
    module _ (all : s.cells.size ≤ here) (clean : s.collector.dirty ≡ false) where
      M : MarksSecond s I.Cut
      M = I.second_half (scan e)

      nothing_pending : (c : ℕ) → ¬ (Pending s c)
      nothing_pending c (cached l) = nothing_cached c l
      nothing_pending c (grey_in_mark q h g) = not_in_mark q
      nothing_pending c (in_directory q l h n) = not_in_mark q
      nothing_pending c (ahead {k} q p l h g) = let same : k ≡ here = same_Some _ _ (sym p ∙ place) in let near = (I.safe c (kept_used s I h)).0 in omega arith
      nothing_pending c (at_scan q p l h g) = let same : c ≡ here = same_Some _ _ (sym p ∙ place) in let near = (I.safe c (kept_used s I h)).0 in omega arith
      nothing_pending c (dirty q p h g) = cc

      nothing_traced : (c : ℕ) → ¬ (Traced s I.Cut c)
      nothing_traced c = reached_have (λ x. ⊥) roots (λ x y f a. a)
        where
          roots : (x : ℕ) → TracedRoot s I.Cut x → ⊥
          roots x (pending p) = nothing_pending x p
          roots x (by_hand y f h) = no_hand free-hand h

      marked_kept : {c : ℕ} → Marked s I.Cut c → Kept s c
      marked_kept (inl k) = k
      marked_kept {c} (inr t) = absurd (nothing_traced c t)

      at_async : (m : ℕ) (t : Task) → s.tasks m ≡ Some t → t.status ≡ Async
      at_async m t p = let a = I.control.places.scan e in all_async s I m t p a.0 a.1

      -- every cell that can be touched is shaded
      used_kept : {c : ℕ} → Used s c → Kept s c
      used_kept = reached_have (Kept s) roots (λ x c n k. marked_kept (M.closed x n.0 c (inl k) n.1))
        where
          roots : (c : ℕ) → UsedRoot s c → Kept s c
          roots c (directory l) = marked_kept (M.directory c l)
          roots c (register m j {t} p q) = marked_kept (M.registers m j c t p (at_async m t p) q)
          roots c (kept k) = k
          roots c (filled {x} i (made_by m a {t} p q) n) = marked_kept (M.filled m x i c a t p (at_async m t p) q n)

      not_passed : {x : ℕ} → ¬ (PassedBy (sweep_from s).collector x)
      not_passed (behind q l) = let none = at_same q in omega arith
      not_passed (looked_at q l) = cc

      pub sweep_begun_kept : Invariant (sweep_from s)
      sweep_begun_kept =
          let K = I.control in
          let at = K.places.scan e in
          quiet_turn s I _ (λ q. cc) (λ q. cc)
          (record {
            places = placed refl at.0 at.1 refl refl (in_sweep (omega (arith, I.structure.some, I.structure.within)));
            nothing_traced = λ n o u. not_busy s I free-hand empty (traces_same refl u);
            statuses = K.statuses;
            scan_looked = λ q u j r. cc;
          })
          (record {
            cached = I.sweeps.cached;
            in_hand = I.sweeps.in_hand;
            rest_black = λ q. cc;
            clear_black = λ q. cc;
            behind = λ q x w b. absurd (not_passed w);
            ahead_used = λ q x u w. let shaded = (used_kept u).0 in cc;
            ahead_made = λ q x k w. absurd (made_not_white x k w);
            new_value = I.sweeps.new_value;
            directory = λ q. cc;
          })
        where
          made_not_white : (x : ℕ) → Made s x → ¬ (s.cells.colour x ≡ White)
          made_not_white x (made_by m a {t} p q) w = let black = I.new_cells.in_scan m x a t p q (at_async m t p) e in cc
