-- Where the same cells are being made, the same are kept and marked.
use Rattle.std.proofs.Common.{ℕ, Bool, inl, inr}
use Rattle.cells.specs.Memory.{Cells}
use Rattle.bags.specs.Holding.{Hold}
use Rattle.rules.specs.declared.Collector.{Collector}
use Rattle.rules.specs.Reach.{From, start, along}
use Rattle.rules.proofs.Ways.{lead_into}
use Rattle.rules.proofs.Words.{KeptOf, PendingOf, cached, grey_in_mark, in_directory, ahead, at_scan, dirty, FollowsOf, TraceRoot, pending, by_hand, MarkedOf}

module _ (m : Cells) (cache : Hold) (co : Collector) (d : ℕ) (made made' : ℕ → Type 0) (back : (x : ℕ) → made' x → made x) where
  pub kept_on : {x : ℕ} → KeptOf m cache co d made x → KeptOf m cache co d made' x
  kept_on {x} k = (k.0, λ y. k.1 (back x y))

  pending_on : {c : ℕ} → PendingOf m cache co d made c → PendingOf m cache co d made' c
  pending_on (cached l) = cached l
  pending_on (grey_in_mark e k g) = grey_in_mark e (kept_on k) g
  pending_on (in_directory e l h n) = in_directory e l h n
  pending_on (ahead e p l k g) = ahead e p l (kept_on k) g
  pending_on (at_scan e p l k g) = at_scan e p l (kept_on k) g
  pending_on (dirty e p k g) = dirty e p (kept_on k) g

  module _ (Cut : ℕ → ℕ → Bool) where
    follows_on : {x c : ℕ} → FollowsOf m cache co d made Cut x c → FollowsOf m cache co d made' Cut x c
    follows_on f = record { link = f.link; names = f.names; uncut = f.uncut; not_black = f.not_black; not_at_scan = f.not_at_scan }

    root_on : (c : ℕ) → TraceRoot m cache co d made Cut c → From (TraceRoot m cache co d made' Cut) (FollowsOf m cache co d made' Cut) c
    unfolding follows_on
    root_on c (pending p) = start (pending (pending_on p))
    root_on c (by_hand x f h) = start (by_hand x (follows_on f) h)

    pub marked_on : {c : ℕ} → MarkedOf m cache co d made Cut c → MarkedOf m cache co d made' Cut c
    marked_on (inl k) = inl (kept_on k)
    marked_on (inr t) = inr (lead_into root_on (λ x c f p. along p (follows_on f)) t)
