-- A table in which one cell was coloured, greyed or linked: what of it is as it was.
use Rattle.std.proofs.Common.{◌≡◌, ℕ, zero, suc, ◌<◌, ltb, ◌⊎◌, Some, None, Option, sym, refl, ap, ◌∙◌, subst, inl, inr, ⊎_elim}
use Rattle.std.proofs.lemmas.Bool.{cond-true, cond_both, lt-ltb}
use Rattle.cells.specs.declared.Colour.{Colour}
use Rattle.cells.specs.Memory.{Cells, at, recoloured, coloured, settable, relinked, linked}
use Rattle.rules.specs.Greying.{greyer, greyed_if, greyed_to}
use Rattle.rules.proofs.States.{at_here}
use Rattle.rules.proofs.Slots.{at_cases}

-- links and size are as they were, and so is every colour but of cells in P
pub record Paints (P : ℕ → Type 0) (m m' : Cells) : Type 0 where
  pub links : m'.link ≡ m.link
  pub size : m'.size ≡ m.size
  pub colours : (c : ℕ) → (m'.colour c ≡ m.colour c) ⊎ P c

pub coloured_paints : (m : Cells) (c : ℕ) (x : Colour) → Paints (λ k. k ≡ c) m (coloured m c x)
coloured_paints m c x = cond_both (ltb c m.size) (recoloured m c x) m (Paints (λ k. k ≡ c) m)
    (λ _. record { links = refl; size = refl; colours = λ k. ⊎_elim (λ e. inr e.0) (λ e. inl (sym e.1)) (at_cases c x m.colour k _ refl) })
    (λ _. record { links = refl; size = refl; colours = λ k. inl refl })

pub coloured_here : (m : Cells) (c : ℕ) (x : Colour) → c < m.size → (coloured m c x).colour c ≡ x
coloured_here m c x l = ap (λ (y : Cells). y.colour c) (cond-true (ltb c m.size) (recoloured m c x) m (lt-ltb c m.size l)) ∙ at_here c x m.colour

pub unpainted : (P : ℕ → Type 0) (m : Cells) → Paints P m m
unpainted P m = record { links = refl; size = refl; colours = λ c. inl refl }

module _ (P : ℕ → Type 0) where
  pub painted_in : {Q : ℕ → Type 0} {m m' : Cells} → ((c : ℕ) → Q c → P c) → Paints Q m m' → Paints P m m'
  painted_in f p = record { links = p.links; size = p.size; colours = λ c. ⊎_elim (λ e. inl e) (λ q. inr (f c q)) (p.colours c) }

  pub painted_more : {m m' m'' : Cells} → Paints P m m' → Paints P m' m'' → Paints P m m''
  painted_more p q = record {
    links = q.links ∙ p.links;
    size = q.size ∙ p.size;
    colours = λ c. ⊎_elim (λ e. ⊎_elim (λ f. inl (e ∙ f)) (λ f. inr f) (p.colours c)) (λ e. inr e) (q.colours c);
  }

  pub greyed_paints : (m : Cells) (o : Option ℕ) → ((c : ℕ) → o ≡ Some c → P c) → Paints P m (greyed_if m o)
  greyed_paints m None f = unpainted P m
  greyed_paints m (Some x) f = painted_in (λ c e. subst P (sym e) (f x refl)) (coloured_paints m x (greyer (m.colour x)))

  pub greyed_all_paint : (k : ℕ) (m : Cells) (registers : ℕ → Option ℕ) → ((j c : ℕ) → registers j ≡ Some c → P c) → Paints P m (greyed_to k m registers)
  greyed_all_paint zero m registers f = unpainted P m
  greyed_all_paint (suc k) m registers f = painted_more (greyed_all_paint k m registers f) (greyed_paints (greyed_to k m registers) (registers k) (f k))

-- a link that was set is read as it was, or as what was set
pub linked_cases : (L : ℕ) (m : Cells) (x i : ℕ) (v : Option ℕ) (y j : ℕ) → ((linked L m x i v).link y j ≡ m.link y j) ⊎ ((linked L m x i v).link y j ≡ v)
linked_cases L m x i v y j = cond_both (settable L m x i v) (relinked m x i v) m (λ (m' : Cells). (m'.link y j ≡ m.link y j) ⊎ (m'.link y j ≡ v))
    (λ _. ⊎_elim
    (λ (e : (y ≡ x) × (at i v (m.link x) ≡ at x (at i v (m.link x)) m.link y)).
    let here = ap (λ (f : ℕ → Option ℕ). f j) (sym e.1) in
    ⊎_elim (λ f. inr (here ∙ sym f.1)) (λ f. inl (here ∙ sym f.1 ∙ ap (λ q. m.link q j) (sym e.0))) (at_cases i v (m.link x) j _ refl))
    (λ e. inl (ap (λ (f : ℕ → Option ℕ). f j) (sym e.1)))
    (at_cases x (at i v (m.link x)) m.link y _ refl))
    (λ _. inl refl)

pub linked_colour : (L : ℕ) (m : Cells) (x i : ℕ) (v : Option ℕ) → (linked L m x i v).colour ≡ m.colour
linked_colour L m x i v = cond_both (settable L m x i v) (relinked m x i v) m (λ (m' : Cells). m'.colour ≡ m.colour) (λ _. refl) (λ _. refl)

pub linked_size : (L : ℕ) (m : Cells) (x i : ℕ) (v : Option ℕ) → (linked L m x i v).size ≡ m.size
linked_size L m x i v = cond_both (settable L m x i v) (relinked m x i v) m (λ (m' : Cells). m'.size ≡ m.size) (λ _. refl) (λ _. refl)
