-- To tell a scan that it must come again keeps the invariant: what becomes a start of the marking was kept already.
use Rattle.std.proofs.Common.{◌≡◌, ℕ, Bool, true, refl, inl, inr}
use Rattle.rules.specs.State.{State, with_collector}
use Rattle.rules.specs.Reach.{start, along}
use Rattle.rules.specs.Changes.{with_dirty}
use Rattle.rules.proofs.Ways.{lead_into, reached_have}
use Rattle.rules.proofs.Words.{behind, looked_at, Passed, Holding, ahead_of, mark, scan, FirstHalf, SecondHalf, Pending, cached, grey_in_mark, in_directory, ahead, at_scan, dirty, Follows, TracedRoot, pending, by_hand, Traced, Marked}
use Rattle.rules.proofs.Invariant.{Control, Sweeps, MarksFirst, MarksSecond, Invariant}
use Rattle.rules.proofs.Handshaking.{structure_same, works_same, traces_same}
use Rattle.rules.proofs.Touched.{hand_kept}

module _ (s : State) (I : Invariant s) (again : Bool) (stays : s.collector.dirty ≡ true → again ≡ true) where
  abbrev s' : State
  s' = with_collector s (with_dirty s.collector again)

  half_back : SecondHalf s' → SecondHalf s
  half_back (mark e n) = mark e n
  half_back (scan e) = scan e

  passed_on : (x : ℕ) → Passed s x → Passed s' x
  passed_on x (behind e l) = behind e l
  passed_on x (looked_at e l) = looked_at e l

  passed_back : (x : ℕ) → Passed s' x → Passed s x
  passed_back x (behind e l) = behind e l
  passed_back x (looked_at e l) = looked_at e l

  hand_on : {x i : ℕ} → Holding s.collector x i → Holding s'.collector x i
  hand_on (ahead_of e l) = ahead_of e l

  hand_back : {x i : ℕ} → Holding s'.collector x i → Holding s.collector x i
  hand_back (ahead_of e l) = ahead_of e l

  pending_on : {c : ℕ} → Pending s c → Pending s' c
  pending_on (cached l) = cached l
  pending_on (grey_in_mark e k g) = grey_in_mark e k g
  pending_on (in_directory e l h n) = in_directory e l h n
  pending_on (ahead e p l k g) = ahead e p l k g
  pending_on (at_scan e p l k g) = at_scan e p l k g
  pending_on (dirty e p k g) = dirty e (stays p) k g

  module _ (Cut : ℕ → ℕ → Bool) where
    pending_back : {c : ℕ} → Pending s' c → Marked s Cut c
    pending_back (cached l) = inr (start (pending (cached l)))
    pending_back (grey_in_mark e k g) = inl k
    pending_back (in_directory e l h n) = inr (start (pending (in_directory e l h n)))
    pending_back (ahead e p l k g) = inl k
    pending_back (at_scan e p l k g) = inl k
    pending_back (dirty e p k g) = inl k

    follows_on : {x c : ℕ} → Follows s Cut x c → Follows s' Cut x c
    follows_on w = record { link = w.link; names = w.names; uncut = w.uncut; not_black = w.not_black; not_at_scan = λ a. w.not_at_scan (a.0, a.1, traces_same refl a.2) }

    mark_on : {c : ℕ} → Marked s Cut c → Marked s' Cut c
    unfolding follows_on
    mark_on (inl k) = inl k
    mark_on (inr t) = inr (lead_into roots (λ x c w p. along p (follows_on w)) t)
      where
        roots : (c : ℕ) → TracedRoot s Cut c → Traced s' Cut c
        roots c (pending p) = start (pending (pending_on p))
        roots c (by_hand x w h) = start (by_hand x (follows_on w) (hand_on h))

  -- marked cells are closed under links, so nothing new is found from the new starts
  module _ (half : SecondHalf s) where
    mark_back : {c : ℕ} → Marked s' I.Cut c → Marked s I.Cut c
    mark_back (inl k) = inl k
    mark_back (inr t) = reached_have (Marked s I.Cut) roots (λ x c w k. (I.second_half half).closed x w.link c k w.names) t
      where
        roots : (c : ℕ) → TracedRoot s' I.Cut c → Marked s I.Cut c
        roots c (pending p) = pending_back I.Cut p
        roots c (by_hand x w h) = (I.second_half half).closed x w.link c (inl (hand_kept s I (hand_back h))) w.names

  still_control : Control s'
  still_control =
      let K = I.control in
      record {
        places = K.places;
        nothing_traced = λ n k u. K.nothing_traced n k (traces_same refl u);
        statuses = K.statuses;
        scan_looked = λ e u k q. K.scan_looked e (traces_same refl u) k q;
      }

  still_sweeps : Sweeps s'
  still_sweeps =
      let W = I.sweeps in
      record {
        cached = W.cached;
        in_hand = W.in_hand;
        rest_black = W.rest_black;
        clear_black = W.clear_black;
        behind = λ e x w q. W.behind e x (passed_back x w) q;
        ahead_used = λ e x u q. passed_on x (W.ahead_used e x u q);
        ahead_made = λ e x k q. passed_on x (W.ahead_made e x k q);
        new_value = W.new_value;
        directory = W.directory;
      }

  still_first : FirstHalf s' → MarksFirst s'
  still_first h =
      let F = I.first_half h in
      record {
        black_to_shaded = λ x i c k b n a e. F.black_to_shaded x i c k b n (λ g. a (hand_on g)) e;
        changed_link = F.changed_link;
      }

  still_second : SecondHalf s' → MarksSecond s' I.Cut
  still_second h =
      let M = I.second_half (half_back h) in
      record {
        closed = λ x i c k e. mark_on I.Cut (M.closed x i c (mark_back (half_back h) k) e);
        registers = λ k j c t p g q. mark_on I.Cut (M.registers k j c t p g q);
        filled = λ k x i c a t p g q e. mark_on I.Cut (M.filled k x i c a t p g q e);
        directory = λ c l. mark_on I.Cut (M.directory c l);
        cut_names = λ x i c k e. mark_on I.Cut (M.cut_names x i c k e);
        cut_cell = M.cut_cell;
        sync_cut = M.sync_cut;
        store_cut = M.store_cut;
        warn_cut = M.warn_cut;
      }

  pub warned_turn : Invariant (with_collector s (with_dirty s.collector again))
  warned_turn = record {
    structure = structure_same s _ I.structure;
    control = still_control;
    works = works_same s _ I.works;
    safe = I.safe;
    new_cells = record {
      unsettled = I.new_cells.unsettled;
      settled = I.new_cells.settled;
      in_mark = I.new_cells.in_mark;
      in_scan = I.new_cells.in_scan;
    };
    sweeps = still_sweeps;
    first_half = still_first;
    Cut = I.Cut;
    second_half = still_second;
  }
