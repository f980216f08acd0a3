-- A table stays sound when a cell of it is recoloured, loses its links, or has a link set.
use Rattle.std.proofs.Common.{◌≡◌, ℕ, ◌<◌, ◌≤◌, true, eqb, ltb, Some, None, Option, sym, ap, ◌∙◌, subst, ⊎_elim, arith}
use Rattle.std.proofs.lemmas.Bool.{cases_eq, cond-true, and_parts, ltb-true, lt-ltb, eq-eqb}
use Rattle.cells.specs.declared.Colour.{Colour}
use Rattle.cells.specs.Memory.{Cells, at, coloured, recoloured, relinked, settable, fitting, Within, Sound}
use Rattle.rules.specs.Makings.{unlinked}
use Rattle.rules.proofs.States.{at_here}
use Rattle.rules.proofs.Slots.{at_other}

-- within the table a colour is set
pub coloured_inside : (m : Cells) (c : ℕ) (k : Colour) → c < m.size → coloured m c k ≡ recoloured m c k
coloured_inside m c k l = cond-true (ltb c m.size) (recoloured m c k) m (lt-ltb c m.size l)

pub recoloured_sound : {L : ℕ} (m : Cells) (c : ℕ) (k : Colour) → c < m.size → Sound L m → Sound L (recoloured m c k)
recoloured_sound m c k l S = record {
  small = S.small;
  within = S.within;
  no_cell = λ y g. at_other c k m.colour y (λ e. omega arith) ∙ S.no_cell y g;
  no_link = S.no_link;
}

pub unlinked_sound : {L : ℕ} (m : Cells) (c : ℕ) → Sound L m → Sound L (unlinked m c)
unlinked_sound {L} m c S = record {
  small = S.small;
  within = λ y i. ⊎_elim
      (λ (e : y ≡ c). subst (Within m.size) (sym (empty y i e)) tt)
      (λ (n : y ≡ c → ⊥). subst (Within m.size) (sym (other y i n)) (S.within y i))
      (cases_eq y c);
  no_cell = S.no_cell;
  no_link = λ y i h. ⊎_elim (λ (e : y ≡ c). empty y i e) (λ (n : y ≡ c → ⊥). other y i n ∙ S.no_link y i h) (cases_eq y c);
}
  where
    empty : (y i : ℕ) → y ≡ c → (unlinked m c).link y i ≡ None
    empty y i e = ap (λ z. (unlinked m c).link z i) e ∙ ap (λ (f : ℕ → Option ℕ). f i) (at_here c (λ j. None) m.link)

    other : (y i : ℕ) → (y ≡ c → ⊥) → (unlinked m c).link y i ≡ m.link y i
    other y i n = ap (λ (f : ℕ → Option ℕ). f i) (at_other c (λ j. None) m.link y n)

fitting_within : (n : ℕ) (v : Option ℕ) → fitting n v ≡ true → Within n v
fitting_within n None e = tt
fitting_within n (Some x) e = ltb-true x n e

-- a link is the one that is set, or as it was
pub relinked_either : (m : Cells) (c i : ℕ) (v : Option ℕ) (y j : ℕ) (P : Option ℕ → Type 0) → (y ≡ c → j ≡ i → P v) → P (m.link y j) → P ((relinked m c i v).link y j)
relinked_either m c i v y j P set was = ⊎_elim
    (λ (e : y ≡ c). ⊎_elim
    (λ (f : j ≡ i). subst P (sym (row e ∙ cond-true (eqb j i) v (m.link c j) (eq-eqb j i f))) (set e f))
    (λ (n : j ≡ i → ⊥). subst P (sym (row e ∙ at_other i v (m.link c) j n ∙ ap (λ z. m.link z j) (sym e))) was)
    (cases_eq j i))
    (λ (n : y ≡ c → ⊥). subst P (sym (ap (λ (f : ℕ → Option ℕ). f j) (at_other c (at i v (m.link c)) m.link y n))) was)
    (cases_eq y c)
  where
    row : y ≡ c → (relinked m c i v).link y j ≡ at i v (m.link c) j
    row e = ap (λ (f : ℕ → Option ℕ). f j) (cond-true (eqb y c) (at i v (m.link c)) (m.link y) (eq-eqb y c e))

pub relinked_sound : {L : ℕ} (m : Cells) (c i : ℕ) (v : Option ℕ) → settable L m c i v ≡ true → Sound L m → Sound L (relinked m c i v)
relinked_sound {L} m c i v e S =
    let parts = and_parts (ltb c m.size) _ e in
    let rest = and_parts (ltb i L) (fitting m.size v) parts.1 in
    let inside : c < m.size = ltb-true c m.size parts.0 in
    let there : i < L = ltb-true i L rest.0 in
    record {
      small = S.small;
      within = λ y j. relinked_either m c i v y j (Within m.size) (λ _ _. fitting_within m.size v rest.1) (S.within y j);
      no_cell = S.no_cell;
      no_link = λ y j h. relinked_either m c i v y j (λ o. o ≡ None)
          (λ a b. absurd (⊎_elim (λ (g : m.size ≤ y). omega arith) (λ (g : L ≤ j). omega arith) h))
          (S.no_link y j h);
    }
