-- Every call of a task changes only what is in reach or free: it leads to nothing else, and colours nothing else.
use Rattle.std.proofs.Common.{◌≡◌, ℕ, Bool, ◌⊎◌, Some, None, Ok, Err, Option, Result, sym, refl, ap, ◌∙◌, subst, inl, inr, ⊎_elim}
use Rattle.cells.specs.declared.Colour.{Colour}
use Rattle.cells.specs.declared.Colour.TheVariants.{Blue}
use Rattle.cells.specs.Memory.{Cells, at, linked}
use Rattle.rules.specs.declared.Work.TheVariants.{Making}
use Rattle.rules.specs.declared.Refusal.{Refusal}
use Rattle.rules.specs.State.{Task, State, Outcome, by, with_task, in_slot}
use Rattle.rules.specs.Reach.{start, Root, directory, register, making, InReach}
use Rattle.rules.proofs.Slots.{at_cases}
use Rattle.rules.proofs.Painted.{Paints, unpainted, linked_cases, linked_colour, linked_size}
use Rattle.rules.proofs.Invariant.{Invariant}
use Rattle.rules.proofs.Moments.{reach_not_free}
use Rattle.rules.proofs.Watching.{roots_of, Tasked}

-- what a task holds is in reach, and what it makes is so or was free
pub record Offers (s : State) (u : Task) : Type 0 where
  pub registers : (j c : ℕ) → u.registers j ≡ Some c → InReach s c
  pub making : (c : ℕ) (settled : Bool) → u.work ≡ Some (Making c settled) → InReach s c ⊎ (s.cells.colour c ≡ Blue)

-- which is so of every present task
pub offers_own : (s : State) (m : ℕ) (t : Task) → s.tasks m ≡ Some t → Offers s t
offers_own s m t present = record { registers = λ j c q. start (register m j present q); making = λ c b q. inl (start (making m b present q)) }

in_slot_lem : (change : Task → Task) (o : Option Task) (u : Task) → in_slot change o ≡ Some u → (t : Task) × ((o ≡ Some t) × (change t ≡ u))
in_slot_lem change None u e = cc
in_slot_lem change (Some t) u e = let same : change t ≡ u = cc in (t, (refl, same))

module _ (s s' : State) (m : ℕ) (same : s'.directory ≡ s.directory) where
  -- roots once slot m was written
  pub slot_roots : (o : Option Task) → s'.tasks ≡ at m o s.tasks → ((u : Task) → o ≡ Some u → Offers s u) → (c : ℕ) → Root s' c → InReach s c ⊎ (s.cells.colour c ≡ Blue)
  slot_roots o is f c r = go (roots_of {s = with_task s m o} is same c r)
    where
      go : Root (with_task s m o) c → InReach s c ⊎ (s.cells.colour c ≡ Blue)
      go (directory l) = inl (start (directory l))
      go (register k j {t} p q) = ⊎_elim
          (λ e. inl ((f t e.1).registers j c q))
          (λ e. inl (start (register k j e.1 q)))
          (at_cases m o s.tasks k (Some t) p)
      go (making k b {t} p q) = ⊎_elim
          (λ e. (f t e.1).making c b q)
          (λ e. inl (start (making k b e.1 q)))
          (at_cases m o s.tasks k (Some t) p)

  -- roots once the task in slot m was changed
  pub changed_roots : (change : Task → Task) → s'.tasks ≡ at m (in_slot change (s.tasks m)) s.tasks → ((t : Task) → s.tasks m ≡ Some t → Offers s (change t))
      → (c : ℕ) → Root s' c → InReach s c ⊎ (s.cells.colour c ≡ Blue)
  changed_roots change is f = slot_roots (in_slot change (s.tasks m)) is
      (λ u e. let found = in_slot_lem change (s.tasks m) u e in subst (Offers s) found.1.1 (f found.0 found.1.0))

module _ (s : State) (I : Invariant s) where
  -- the stage of the collector and the place of its sweep are as they were
  abbrev Alone : State → Type 0
  Alone s' = (s'.collector.stage ≡ s.collector.stage) × (s'.collector.swept ≡ s.collector.swept) × (s'.collector.looked ≡ s.collector.looked)

  -- cells in reach were painted
  pub paints : (s' : State) → ((c : ℕ) → Root s' c → InReach s c ⊎ (s.cells.colour c ≡ Blue)) → Paints (InReach s) s.cells s'.cells → Alone s' → Tasked s s'
  paints s' roots p alone = record {
    leads = record {
      roots = roots;
      links = λ x i c n e. inl (⊎_elim (λ q b. n (q ∙ b)) (λ r. reach_not_free s I x r) (p.colours x), sym (ap (λ (l : ℕ → ℕ → Option ℕ). l x i) p.links) ∙ e);
    };
    size = p.size;
    colours = λ c. ⊎_elim (λ e. inl e) (λ r. inr (inl r)) (p.colours c);
    stage = alone.0;
    swept = alone.1;
    looked = alone.2;
  }

  -- a link was set to what is in reach
  pub sets_link : (s' : State) → ((c : ℕ) → Root s' c → InReach s c ⊎ (s.cells.colour c ≡ Blue)) → (x i : ℕ) (v : Option ℕ) → ((c : ℕ) → v ≡ Some c → InReach s c)
      → s'.cells ≡ linked s.links s.cells x i v → Alone s' → Tasked s s'
  sets_link s' roots x i v f is alone =
      let colours = ap (λ (m : Cells). m.colour) is ∙ linked_colour s.links s.cells x i v in
      let coloured-same : (c : ℕ) → s'.cells.colour c ≡ s.cells.colour c = λ c. ap (λ (g : ℕ → Colour). g c) colours in
      record {
        leads = record {
          roots = roots;
          links = λ y j c n e.
              let now = ap (λ (m : Cells). m.link y j) is in
              ⊎_elim (λ q. inl (λ b. n (coloured-same y ∙ b), sym q ∙ sym now ∙ e)) (λ q. inr (f c (sym q ∙ sym now ∙ e))) (linked_cases s.links s.cells x i v y j);
        };
        size = ap (λ (m : Cells). m.size) is ∙ linked_size s.links s.cells x i v;
        colours = λ c. inl (coloured-same c);
        stage = alone.0;
        swept = alone.1;
        looked = alone.2;
      }

  pub untouched : Tasked s s
  untouched = paints s (λ c r. inl (start r)) (unpainted _ s.cells) (refl, refl, refl)

  -- a call by its checks
  pub tasked_by : {A : Type 0} (checks : Result A Refusal) (done : A → Outcome) → ((x : A) → Ok x ≡ checks → Tasked s (done x).after) → Tasked s (by s checks done).after
  tasked_by (Ok x) done f = f x refl
  tasked_by (Err e) done f = untouched
