-- What the collector's turn leaves of the watched cells: White where the first sweep is past, and free where the second is.
use Rattle.std.proofs.Common.{◌≡◌, ℕ, ◌<◌, true, ◌≢◌, ◌⊎◌, Some, Ok, Option, sym, ap, ◌∙◌, subst, inl, ⊎_elim}
use Rattle.std.proofs.lemmas.Bool.{cases_eq, cases_lt}
use Rattle.cells.specs.declared.Colour.{Colour}
use Rattle.cells.specs.declared.Colour.TheVariants.{Blue, White}
use Rattle.rules.specs.State.{State, Outcome}
use Rattle.rules.specs.Reach.{start, along, InReach}
use Rattle.rules.proofs.Words.{is_shaded, kept}
use Rattle.rules.proofs.Invariant.{Invariant}
use Rattle.rules.proofs.Moments.{reach_not_free}
use Rattle.rules.proofs.Watching.{roots_of, Watched, Left, Leads, BeforeFirst, BeforeSecond}
use Rattle.rules.proofs.Collected.{Traced, reached, followed, grey, Keeps, Looks, Collected, marks, moves, looks, returns}
use Rattle.rules.proofs.Marking.{shaded_not_blue}

shaded_not_white : (x : Colour) → is_shaded x ≡ true → x ≢ White
shaded_not_white x e b = let f = sym (ap is_shaded b) ∙ e in cc

module _ (s : State) (I : Invariant s) where
  traced_not_blue : (c : ℕ) → Traced s c → s.cells.colour c ≢ Blue
  traced_not_blue c (reached r) = reach_not_free s I c r
  traced_not_blue c (followed h e q) = (I.safe c (along (start (kept (I.sweeps.in_hand h e).0)) (h.link, q))).1
  traced_not_blue c (grey e) = λ b. cc

  -- a turn that paints no free cell, and touches nothing else, leads nowhere new
  kept_leads : {P : ℕ → Type 0} {s' : State} → Keeps P s s' → ((c : ℕ) → P c → s'.cells.colour c ≢ Blue → s.cells.colour c ≢ Blue) → Leads s s'
  kept_leads {P} {s'} K f = record { roots = λ c r. inl (start (roots_of K.tasks K.directory c r)); links = as_linked }
    where
      as_linked : (x i c : ℕ) → s'.cells.colour x ≢ Blue → s'.cells.link x i ≡ Some c → ((s.cells.colour x ≢ Blue) × (s.cells.link x i ≡ Some c)) ⊎ InReach s c
      as_linked x i c n e =
          inl (⊎_elim (λ q b. n (q ∙ b)) (λ p. f x p n) (K.cells.colours x), sym (ap (λ (l : ℕ → ℕ → Option ℕ). l x i) K.cells.links) ∙ e)

  pub collected_leads : (o : Outcome) → Collected s o → Leads s o.after
  collected_leads o (marks a g K) = kept_leads K (λ c t n. traced_not_blue c t)
  collected_leads o (moves a K p) = kept_leads K (λ c f. absurd f)
  collected_leads o (looks a g k L) = kept_leads L.keeps (λ c e n. ⊎_elim
      (λ b. absurd (n (ap o.after.cells.colour e ∙ b)))
      (λ w. subst (λ q. s.cells.colour q ≢ Blue) (sym e) (shaded_not_blue _ w.0))
      L.here)
  collected_leads o (returns g all n K) = kept_leads K (λ c f. absurd f)

  module _ {Z : ℕ → Type 0} (W : Watched Z s) where
    -- where all that is watched is White, the marking comes to none of it
    traced_unwatched : BeforeSecond Z s → (c : ℕ) → Traced s c → ¬ (Z c)
    traced_unwatched S c (reached r) z = W.out c z r
    traced_unwatched S c (followed h e q) z =
        let shaded = (I.sweeps.in_hand h e).0.0 in
        shaded_not_white _ shaded (S.white h.cell (W.named_within h.cell h.link c z (shaded_not_blue _ shaded) q))
    traced_unwatched S c (grey e) z = let w = S.white c z in cc

    module _ (o : Outcome) where
      unpainted_same : Keeps (λ c. ⊥) s o.after → (c : ℕ) → o.after.cells.colour c ≡ s.cells.colour c
      unpainted_same K c = ⊎_elim (λ e. e) (λ f. absurd f) (K.cells.colours c)

      -- the cell that the sweep looks at is free afterwards, or White
      looked_white : {k : ℕ} → Looks s k o.after → {c : ℕ} → c ≡ k → o.after.cells.colour c ≢ Blue → o.after.cells.colour c ≡ White
      looked_white L e n = ⊎_elim (λ b. absurd (n (ap o.after.cells.colour e ∙ b))) (λ w. ap o.after.cells.colour e ∙ w.1) L.here

      other_same : {k : ℕ} → Looks s k o.after → (c : ℕ) → (c ≡ k → ⊥) → o.after.cells.colour c ≡ s.cells.colour c
      other_same L c n = ⊎_elim (λ e. e) (λ e. absurd (n e)) (L.keeps.cells.colours c)

      pub collected_first : BeforeFirst Z s → Collected s o → BeforeFirst (Left Z o.after) o.after
      collected_first F (marks a n K) g c z p = absurd (n g)
      collected_first F (moves a K back) g c z p = unpainted_same K c ∙ F (back c p).0 c z.0 (back c p).1
      collected_first F (looks a h k L) g c z p = ⊎_elim
          (λ (e : c ≡ k). looked_white L e z.1)
          (λ (n : c ≡ k → ⊥). other_same L c n ∙ F h c z.0 (L.passed c n p))
          (cases_eq c k)
      collected_first F (returns h all n K) g c z p = absurd (n g)

      pub collected_second : BeforeSecond Z s → Collected s o → BeforeSecond (Left Z o.after) o.after
      collected_second S (marks a n K) = record {
        white = λ c z. ⊎_elim (λ e. e ∙ S.white c z.0) (λ t. absurd (traced_unwatched S c t z.0)) (K.cells.colours c);
        ahead = λ g. absurd (n g);
      }
      collected_second S (moves a K back) = record {
        white = λ c z. unpainted_same K c ∙ S.white c z.0;
        ahead = λ g c z p. S.ahead (back c p).0 c z.0 (back c p).1;
      }
      collected_second S (looks a h k L) = record {
        white = λ c z. ⊎_elim (λ (e : c ≡ k). looked_white L e z.1) (λ (n : c ≡ k → ⊥). other_same L c n ∙ S.white c z.0) (cases_eq c k);
        ahead = λ g c z p. ⊎_elim
            (λ (e : c ≡ k). ⊎_elim
            (λ b. z.1 (ap o.after.cells.colour e ∙ b))
            (λ w. shaded_not_white _ w.0 (subst (λ q. s.cells.colour q ≡ White) e (S.white c z.0)))
            L.here)
            (λ (n : c ≡ k → ⊥). S.ahead h c z.0 (L.passed c n p))
            (cases_eq c k);
      }
      collected_second S (returns h all n K) = record { white = λ c z. unpainted_same K c ∙ S.white c z.0; ahead = λ g. absurd (n g) }

      -- with the first return every watched cell is White
      pub returned_first : o.answer ≡ Ok 2 → BeforeFirst Z s → Collected s o → BeforeSecond (Left Z o.after) o.after
      returned_first two F (marks a n K) = absurd (a two)
      returned_first two F (moves a K back) = absurd (a two)
      returned_first two F (looks a h k L) = absurd (a two)
      returned_first two F (returns h all n K) = record {
        white = λ c z. unpainted_same K c ∙ ⊎_elim (λ (l : c < s.cells.size). F h c z.0 (all c l)) (I.structure.memory.no_cell c) (cases_lt c s.cells.size);
        ahead = λ g. absurd (n g);
      }

      -- with the second no cell of the table is watched any more
      pub returned_second : o.answer ≡ Ok 2 → BeforeSecond Z s → Collected s o → (c : ℕ) → c < s.cells.size → ¬ (Z c)
      returned_second two S (marks a n K) c l z = a two
      returned_second two S (moves a K back) c l z = a two
      returned_second two S (looks a h k L) c l z = a two
      returned_second two S (returns h all n K) c l z = S.ahead h c z (all c l)
