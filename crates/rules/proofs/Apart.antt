-- Two tables that agree wherever the marking can come, and make the same cells there, are traced alike.
use Rattle.std.proofs.Common.{◌≡◌, ℕ, Bool, Some, sym, ◌∙◌}
use Rattle.cells.specs.Memory.{Cells}
use Rattle.bags.specs.Holding.{Hold}
use Rattle.rules.specs.declared.Collector.{Collector}
use Rattle.rules.specs.Reach.{From, start, along}
use Rattle.rules.proofs.Ways.{reached_have}
use Rattle.rules.proofs.Words.{Holding, KeptOf, PendingOf, cached, grey_in_mark, in_directory, ahead, at_scan, dirty, FollowsOf, TraceRoot, pending, by_hand}

-- from table m to table n; Near tells where the marking of m can come
module _ (m n : Cells) (cache : Hold) (co : Collector) (d : ℕ) (made made' : ℕ → Type 0) (Near : ℕ → Type 0)
    (colours : (c : ℕ) → Near c → m.colour c ≡ n.colour c)
    (links : (c i : ℕ) → Near c → m.link c i ≡ n.link c i)
    (back : (c : ℕ) → Near c → made' c → made c)
    (near-pending : (c : ℕ) → PendingOf m cache co d made c → Near c)
    (near-hand : (x i : ℕ) → Holding co x i → Near x)
    (near-named : (x i c : ℕ) → Near x → m.link x i ≡ Some c → Near c) where
  kept_across : (c : ℕ) → Near c → KeptOf m cache co d made c → KeptOf n cache co d made' c
  kept_across c near k = let same = colours c near in (cc (k.0, same), λ y. k.1 (back c near y))

  pending_across : (c : ℕ) → Near c → PendingOf m cache co d made c → PendingOf n cache co d made' c
  pending_across c near (cached l) = cached l
  pending_across c near (grey_in_mark e k g) = grey_in_mark e (kept_across c near k) (sym (colours c near) ∙ g)
  pending_across c near (in_directory e l h b) = in_directory e l h (λ q. b (colours c near ∙ q))
  pending_across c near (ahead e p l k g) = ahead e p l (kept_across c near k) (sym (colours c near) ∙ g)
  pending_across c near (at_scan e p l k g) = at_scan e p l (kept_across c near k) (sym (colours c near) ∙ g)
  pending_across c near (dirty e p k g) = dirty e p (kept_across c near k) (sym (colours c near) ∙ g)

  module _ (Cut : ℕ → ℕ → Bool) where
    follows_across : {x c : ℕ} → Near x → FollowsOf m cache co d made Cut x c → FollowsOf n cache co d made' Cut x c
    follows_across {x} {c} near f = record {
      link = f.link;
      names = sym (links x f.link near) ∙ f.names;
      uncut = f.uncut;
      not_black = λ q. f.not_black (colours c (near-named x f.link c near f.names) ∙ q);
      not_at_scan = f.not_at_scan;
    }

    pub traced_across : {c : ℕ} → From (TraceRoot m cache co d made Cut) (FollowsOf m cache co d made Cut) c
        → Near c × From (TraceRoot n cache co d made' Cut) (FollowsOf n cache co d made' Cut) c
    unfolding follows_across
    traced_across = reached_have (λ c. Near c × From (TraceRoot n cache co d made' Cut) (FollowsOf n cache co d made' Cut) c)
        roots (λ x c f a. (near-named x f.link c a.0 f.names, along a.1 (follows_across a.0 f)))
      where
        roots : (c : ℕ) → TraceRoot m cache co d made Cut c → Near c × From (TraceRoot n cache co d made' Cut) (FollowsOf n cache co d made' Cut) c
        roots c (pending p) = let near = near-pending c p in (near, start (pending (pending_across c near p)))
        roots c (by_hand x f h) =
            let near = near-hand x f.link h in
            (near-named x f.link c near f.names, start (by_hand x (follows_across near f) h))
