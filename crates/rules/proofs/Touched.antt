-- What the marking has found or is still to find can be touched, so it is in the table, not free and not being made.
use Rattle.std.proofs.Common.{◌≡◌, ℕ, ◌<◌, ◌≤◌, Bool, ◌⊎◌, Some, None, Option, sym, refl, ap, ◌∙◌, inl, inr, ⊎_elim, arith}
use Rattle.std.proofs.lemmas.Bool.{cases_eq, cases_lt}
use Rattle.rules.specs.declared.Hand.{Hand}
use Rattle.rules.specs.declared.Collector.{Collector}
use Rattle.rules.specs.State.{State}
use Rattle.rules.specs.Reach.{start, along}
use Rattle.rules.proofs.Ways.{reached_have}
use Rattle.rules.proofs.Words.{Shaded, Kept, Used, directory, kept, Pending, Traced, TracedRoot, pending, by_hand, Marked, cached, grey_in_mark, in_directory, ahead, at_scan, dirty, ahead_of, Holding}
use Rattle.rules.proofs.Invariant.{Invariant}
use Rattle.std.proofs.lemmas.Option.{same_Some}

pub no_hand : {co : Collector} {x i : ℕ} → co.hand ≡ None → ¬ (Holding co x i)
no_hand e (ahead_of q l) = cc

-- whether the hand has link i of x still to follow
pub in_hand_or_not : (co : Collector) (x i : ℕ) → Holding co x i ⊎ (¬ (Holding co x i))
in_hand_or_not co x i = by_hand co.hand refl
  where
    by_hand : (o : Option Hand) → co.hand ≡ o → Holding co x i ⊎ (¬ (Holding co x i))
    by_hand None e = inr (λ a. no_hand e a)
    by_hand (Some h) e = ⊎_elim
        (λ (c : h.cell ≡ x). ⊎_elim
        (λ (l : i < h.link). inr (λ a. not_before l a))
        (λ (l : h.link ≤ i). inl (ahead_of (e ∙ ap (λ y. Some (record { cell = y; link = h.link })) c) l))
        (cases_lt i h.link))
        (λ (n : h.cell ≡ x → ⊥). inr (λ a. not_other n a))
        (cases_eq h.cell x)
      where
        not_before : i < h.link → ¬ (Holding co x i)
        not_before l (ahead_of q m) = let same = ap (λ (y : Hand). y.link) (same_Some _ _ (sym e ∙ q)) in omega arith

        not_other : (h.cell ≡ x → ⊥) → ¬ (Holding co x i)
        not_other n (ahead_of q m) = n (ap (λ (y : Hand). y.cell) (same_Some _ _ (sym e ∙ q)))

module _ (s : State) (I : Invariant s) where
  pub kept_used : {c : ℕ} → Kept s c → Used s c
  kept_used k = start (kept k)

  pub hand_kept : {x i : ℕ} → Holding s.collector x i → Kept s x
  hand_kept (ahead_of e l) = (I.sweeps.in_hand _ e).0

  pub pending_used : {c : ℕ} → Pending s c → Used s c
  pending_used {c} (cached l) = kept_used (I.sweeps.cached c l)
  pending_used (grey_in_mark e k g) = kept_used k
  pending_used (in_directory e l h n) = start (directory h)
  pending_used (ahead e p l k g) = kept_used k
  pending_used (at_scan e p l k g) = kept_used k
  pending_used (dirty e p k g) = kept_used k

  module _ (Cut : ℕ → ℕ → Bool) where
    pub traced_used : {c : ℕ} → Traced s Cut c → Used s c
    traced_used = reached_have (Used s) roots (λ x c f u. along u (f.link, f.names))
      where
        roots : (c : ℕ) → TracedRoot s Cut c → Used s c
        roots c (pending p) = pending_used p
        roots c (by_hand x f h) = along (kept_used (hand_kept h)) (f.link, f.names)

    pub marked_used : {c : ℕ} → Marked s Cut c → Used s c
    marked_used (inl k) = kept_used k
    marked_used (inr t) = traced_used t

  -- what can be touched is not being made, so it is kept as soon as it is shaded
  pub shaded_kept : {c : ℕ} → Used s c → Shaded s c → Kept s c
  shaded_kept {c} u h = (h, (I.safe c u).2)
