-- The collector's turn as the watched cells see it: it marks, it moves the sweep, the sweep looks at a cell, or it returns to Rest.
use Rattle.std.proofs.Common.{◌≡◌, ℕ, ◌+◌, ◌<◌, true, false, not, ◌&&◌, eqb, ltb, ◌≢◌, ◌⊎◌, Some, None, Ok, Option, Result, sym, refl, ap, ◌∙◌, subst, inl, inr, ⊎_elim, arith}
use Rattle.std.proofs.lemmas.Bool.{cases_eq, cond_both, eqb-true, ltb-true, ltb-false}
use Rattle.cells.specs.declared.Colour.{Colour}
use Rattle.cells.specs.declared.Colour.TheVariants.{Blue, White, Grey, Black}
use Rattle.bags.specs.Holding.{has_room, has_member}
use Rattle.rules.specs.declared.Status.TheVariants.{Async}
use Rattle.rules.specs.declared.Stage.{Stage}
use Rattle.rules.specs.declared.Stage.TheVariants.{Rest, Clear, Mark, Scan, Sweep}
use Rattle.rules.specs.declared.Swept.{Swept}
use Rattle.rules.specs.declared.Swept.TheVariants.{Before, At, Past}
use Rattle.rules.specs.declared.Hand.{Hand}
use Rattle.rules.specs.declared.Collector.{Collector}
use Rattle.rules.specs.declared.Refusal.{Refusal}
use Rattle.rules.specs.State.{State, Outcome, accepted, with_collector}
use Rattle.rules.specs.Greying.{is_black, is_grey, same_status}
use Rattle.rules.specs.Collecting.{all_agree, blacken, blacken_if, tracing, clearing, marking, scanning, swept, sweeping, by_stage, collect}
use Rattle.rules.specs.Reach.{start, directory, InReach}
use Rattle.rules.proofs.Checked.{ok_same}
use Rattle.rules.proofs.Painted.{Paints, unpainted, coloured_paints, coloured_here, painted_in}
use Rattle.rules.proofs.Words.{is_shaded, PassedBy, behind, looked_at, Passed}
use Rattle.rules.proofs.Invariant.{Invariant}
use Rattle.rules.proofs.Places.{at_same}

-- cells that the marking may come to next: in reach, named by the cell in hand, or Grey already
pub data Traced (s : State) (c : ℕ) : Type 0 where
  reached : InReach s c → Traced s c
  followed : (h : Hand) → s.collector.hand ≡ Some h → s.cells.link h.cell h.link ≡ Some c → Traced s c
  grey : s.cells.colour c ≡ Grey → Traced s c

-- the tasks and the directory are as they were, and the cells but for the colours of some
pub record Keeps (P : ℕ → Type 0) (s s' : State) : Type 0 where
  pub tasks : s'.tasks ≡ s.tasks
  pub directory : s'.directory ≡ s.directory
  pub cells : Paints P s.cells s'.cells

-- the sweep has looked at cell k
pub record Looks (s : State) (k : ℕ) (s' : State) : Type 0 where
  pub keeps : Keeps (λ c. c ≡ k) s s'
  pub here : (s'.cells.colour k ≡ Blue) ⊎ ((is_shaded (s.cells.colour k) ≡ true) × (s'.cells.colour k ≡ White))
  pub passed : (c : ℕ) → (c ≡ k → ⊥) → Passed s' c → Passed s c

pub data Collected (s : State) (o : Outcome) : Type 0 where
  marks : o.answer ≢ Ok 2 → o.after.collector.stage ≢ Sweep → Keeps (Traced s) s o.after → Collected s o
  moves : o.answer ≢ Ok 2 → Keeps (λ c. ⊥) s o.after → ((c : ℕ) → Passed o.after c → (s.collector.stage ≡ Sweep) × Passed s c) → Collected s o
  looks : o.answer ≢ Ok 2 → s.collector.stage ≡ Sweep → (k : ℕ) → Looks s k o.after → Collected s o
  returns : s.collector.stage ≡ Sweep → ((c : ℕ) → c < s.cells.size → Passed s c) → o.after.collector.stage ≢ Sweep → Keeps (λ c. ⊥) s o.after → Collected s o

pub collected_size : {s : State} {o : Outcome} → Collected s o → o.after.cells.size ≡ s.cells.size
collected_size (marks a g K) = K.cells.size
collected_size (moves a K p) = K.cells.size
collected_size (looks a g k L) = L.keeps.cells.size
collected_size (returns g all n K) = K.cells.size

kept : (P : ℕ → Type 0) (s : State) (co : Collector) → Keeps P s (with_collector s co)
kept P s co = record { tasks = refl; directory = refl; cells = unpainted P s.cells }

not_two : (k : ℕ) → k < 2 → ◌≢◌ {A = Result ℕ Refusal} (Ok k) (Ok 2)
not_two k l e = let same = ok_same e in omega arith

-- a cell blackened, or greyed where the cache is full, and the stage is as it was
record Blackens (s : State) (v : ℕ) (s' : State) : Type 0 where
  keeps : Keeps (λ c. c ≡ v) s s'
  stage : s'.collector.stage ≡ s.collector.stage

blackens : (s : State) (v : ℕ) → Blackens s v (blacken s v)
blackens s v = cond_both (is_black (s.cells.colour v)) s _ (Blackens s v)
    (λ _. record { keeps = kept _ s s.collector; stage = refl })
    (λ _. cond_both (has_room s.cache) _ _ (Blackens s v)
    (λ _. record { keeps = record { tasks = refl; directory = refl; cells = coloured_paints s.cells v Black }; stage = refl })
    (λ _. record { keeps = record { tasks = refl; directory = refl; cells = coloured_paints s.cells v Grey }; stage = refl }))

traced_only : (s : State) (v : ℕ) {s' : State} → Traced s v → Keeps (λ c. c ≡ v) s s' → Keeps (Traced s) s s'
traced_only s v t k = record { tasks = k.tasks; directory = k.directory; cells = painted_in (Traced s) (λ c e. subst (Traced s) (sym e) t) k.cells }

is_grey_lem : (x : Colour) → is_grey x ≡ true → x ≡ Grey
is_grey_lem Blue e = cc
is_grey_lem White e = cc
is_grey_lem Grey e = refl
is_grey_lem Black e = cc

-- the sweep, at cell k and not looking yet, is past those below k
passed_below : (co : Collector) (k : ℕ) → co.swept ≡ At k → co.looked ≡ false → (c : ℕ) → PassedBy co c → c < k
passed_below co k e l c (behind f h) = let same = at_same (sym f ∙ e) in omega arith
passed_below co k e l c (looked_at f h) = cc

module _ (s : State) where
  -- outside Sweep, a turn that stays there and touches no cell
  idles : (k : ℕ) → k < 2 → (co : Collector) → co.stage ≢ Sweep → Collected s (accepted k (with_collector s co))
  idles k l co n = marks (not_two k l) n (kept _ s co)

  traces : s.collector.stage ≢ Sweep → (others : Outcome) → Collected s others → Collected s (tracing s s.collector.hand others)
  traces n others d = go s.collector.hand refl
    where
      follows : (h : Hand) → s.collector.hand ≡ Some h → (o : Option ℕ) → s.cells.link h.cell h.link ≡ o → ((blacken_if s o).collector.stage ≡ s.collector.stage) × Keeps (Traced s) s (blacken_if s o)
      follows h e None q = (refl, kept _ s s.collector)
      follows h e (Some v) q = let b = blackens s v in (b.stage, traced_only s v (followed h e q) b.keeps)

      go : (o : Option Hand) → s.collector.hand ≡ o → Collected s (tracing s o others)
      go (Some h) e =
          let b = follows h e (s.cells.link h.cell h.link) refl in
          marks (not_two 1 (omega arith)) (λ q. n (sym b.0 ∙ q)) (record { tasks = b.1.tasks; directory = b.1.directory; cells = b.1.cells })
      go None e = cond_both (has_member s.cache) _ others (Collected s)
          (λ _. marks (not_two 1 (omega arith)) n (record { tasks = refl; directory = refl; cells = unpainted _ s.cells }))
          (λ _. d)

  cleared : s.collector.stage ≡ Clear → Collected s (clearing s)
  cleared g = cond_both (all_agree s) _ _ (Collected s)
      (λ _. idles 1 (omega arith) _ (λ e. cc))
      (λ _. idles 0 (omega arith) _ (λ e. cc))

  marked : s.collector.stage ≡ Mark → Collected s (marking s)
  marked g =
      let off : s.collector.stage ≢ Sweep = λ e. cc in
      cond_both (not (same_status s.collector.phase s.collector.status) && all_agree s) _ _ (Collected s)
      (λ _. idles 1 (omega arith) _ off)
      (λ _. traces off _ (cond_both (ltb s.collector.next s.directory) _ _ (Collected s)
      (λ l. let b = blackens s s.collector.next in
      let k = traced_only s s.collector.next (reached (start (directory (ltb-true _ _ l)))) b.keeps in
      marks (not_two 1 (omega arith)) (λ q. off (sym b.stage ∙ q)) (record { tasks = k.tasks; directory = k.directory; cells = k.cells }))
      (λ _. cond_both (same_status s.collector.phase Async) _ _ (Collected s)
      (λ _. idles 1 (omega arith) _ (λ e. cc))
      (λ _. idles 0 (omega arith) _ off))))

  scanned : s.collector.stage ≡ Scan → (p : Option ℕ) → Collected s (scanning s p)
  scanned g None = idles 0 (omega arith) _ (λ e. cc)
  scanned g (Some k) =
      let off : s.collector.stage ≢ Sweep = λ e. cc in
      traces off _ (cond_both (ltb k s.cells.size) _ _ (Collected s)
      (λ _. cond_both s.collector.looked _ _ (Collected s)
      (λ _. idles 1 (omega arith) _ (λ e. cc))
      (λ _. let looked = cond_both (is_grey (s.cells.colour k)) (blacken s k) s (λ (s' : State). (s'.collector.stage ≡ s.collector.stage) × Keeps (Traced s) s s')
      (λ e. let b = blackens s k in (b.stage, traced_only s k (grey (is_grey_lem _ e)) b.keeps))
      (λ _. (refl, kept _ s s.collector)) in
      marks (not_two 1 (omega arith)) (λ q. off (sym looked.0 ∙ q)) (record { tasks = looked.1.tasks; directory = looked.1.directory; cells = looked.1.cells })))
      (λ _. cond_both s.collector.dirty _ _ (Collected s)
      (λ _. idles 1 (omega arith) _ (λ e. cc))
      (λ _. moves (not_two 1 (omega arith)) (kept _ s _) (λ c p. absurd (let none = passed_below _ 0 refl refl c p in omega arith)))))

  -- but for the cell at the sweep, those that it is past are the same once it has looked
  still_passed : (k : ℕ) → s.collector.swept ≡ At k → (s' : State) → s'.collector.swept ≡ s.collector.swept → (c : ℕ) → (c ≡ k → ⊥) → Passed s' c → Passed s c
  still_passed k place s' same c n (behind f h) = behind (sym same ∙ f) h
  still_passed k place s' same c n (looked_at f h) = absurd (n (at_same (sym f ∙ same ∙ place)))

  -- the sweep's look, by the colour that it finds
  swept_looks : (k : ℕ) → s.collector.swept ≡ At k → k < s.cells.size → (x : Colour) → s.cells.colour k ≡ x → Looks s k (swept s k x)
  swept_looks k place inside Blue e = record { keeps = kept _ s _; here = inl e; passed = still_passed k place (swept s k Blue) refl }
  swept_looks k place inside White e = record {
    keeps = record { tasks = refl; directory = refl; cells = coloured_paints s.cells k Blue };
    here = inl (coloured_here s.cells k Blue inside);
    passed = still_passed k place (swept s k White) refl;
  }
  swept_looks k place inside Grey e = record {
    keeps = record { tasks = refl; directory = refl; cells = coloured_paints s.cells k White };
    here = inr (ap is_shaded e, coloured_here s.cells k White inside);
    passed = still_passed k place (swept s k Grey) refl;
  }
  swept_looks k place inside Black e = record {
    keeps = record { tasks = refl; directory = refl; cells = coloured_paints s.cells k White };
    here = inr (ap is_shaded e, coloured_here s.cells k White inside);
    passed = still_passed k place (swept s k Black) refl;
  }

  module _ (I : Invariant s) where
    sweeps : s.collector.stage ≡ Sweep → (p : Swept) → s.collector.swept ≡ p → Collected s (sweeping s p)
    sweeps g Before e = let at = I.control.places.sweep_place g in let f = at.1.0 in cc
    sweeps g (At k) e = cond_both s.collector.looked _ _ (Collected s)
        (λ l. let past : (c : ℕ) → c < k + 1 → Passed s c = λ c h. ⊎_elim (λ (q : c ≡ k). looked_at (e ∙ ap At (sym q)) l) (λ (n : c ≡ k → ⊥). behind e (omega arith)) (cases_eq c k) in
        cond_both (ltb (k + 1) s.cells.size) _ _ (Collected s)
        (λ _. moves (not_two 1 (omega arith)) (kept _ s _) (λ c p. (g, past c (passed_below _ (k + 1) refl refl c p))))
        (λ h. let all = ltb-false (k + 1) s.cells.size h in
        returns g (λ c i. past c (omega arith)) (λ q. cc) (kept _ s _)))
        (λ _. let at = I.control.places.sweep_place g in let same = at_same (sym at.1.0 ∙ e) in let inside = at.1.1 in
        looks (not_two 1 (omega arith)) g k (swept_looks k e (omega arith) (s.cells.colour k) refl))
    sweeps g Past e = let at = I.control.places.sweep_place g in let f = at.1.0 in cc

    pub collected : Collected s (collect s)
    collected = cond_both (eqb s.directory 0) _ _ (Collected s)
        (λ e. let some = I.structure.some in let none = eqb-true s.directory 0 e in absurd (omega arith))
        (λ _. at_stage s.collector.stage refl)
      where
        at_stage : (g : Stage) → s.collector.stage ≡ g → Collected s (by_stage s g)
        at_stage Rest e = idles 1 (omega arith) _ (λ e. cc)
        at_stage Clear e = cleared e
        at_stage Mark e = marked e
        at_stage Scan e = scanned e s.collector.scanned
        at_stage Sweep e = sweeps e s.collector.swept refl
