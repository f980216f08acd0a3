-- What the rules grey: no link and no size changes, White cells among those meant become Grey, and then all meant that are not free
-- are shaded.
use Rattle.std.proofs.Common.{◌≡◌, ℕ, zero, suc, ◌<◌, Bool, true, false, cond, eqb, ltb, ◌≢◌, ◌⊎◌, Some, None, Option, sym, refl, ap, ◌∙◌, subst, ⊎_elim, arith}
use Rattle.std.proofs.lemmas.Bool.{cases_eq, cond-true, lt-ltb, eq-eqb}
use Rattle.cells.specs.declared.Colour.{Colour}
use Rattle.cells.specs.declared.Colour.TheVariants.{Blue, White, Grey, Black}
use Rattle.cells.specs.Memory.{Cells, at, recoloured}
use Rattle.rules.specs.declared.Stage.TheVariants.{Mark}
use Rattle.rules.specs.State.{State, with_cells}
use Rattle.rules.specs.Greying.{greyer, greyed, greyed_if, greyed_to}
use Rattle.rules.proofs.Slots.{at_cases}
use Rattle.rules.proofs.Words.{is_shaded, Used, SecondHalf, Marked}
use Rattle.rules.proofs.Invariant.{Invariant}
use Rattle.rules.proofs.Greyings.{painted, Greys, as_before, greys, greys_shaded, greys_blue, greyed_turn}

-- the same cells and links
abbrev pub SameTable : Cells → Cells → Type 0
SameTable m n = (n.size ≡ m.size) × (n.link ≡ m.link)

pub table_painted : (m n : Cells) → SameTable m n → n ≡ painted m n.colour
table_painted m n (p, q) = ap (λ k. record { size = k; colour = n.colour; link = n.link }) p ∙ ap (λ l. record { size = m.size; colour = n.colour; link = l }) q

-- one greying after another
pub greys_then : {Why : Type 0} {a b c : Colour} → Greys Why a b → Greys Why b c → Greys Why a c
greys_then (as_before e) (as_before d) = as_before (d ∙ e)
greys_then (as_before e) (greys w g y) = greys (sym e ∙ w) g y
greys_then (greys w g y) (as_before d) = greys w (d ∙ g) y
greys_then (greys w g y) (greys v h z) = greys w h y

pub greys_for : {Why Also : Type 0} {a b : Colour} → (Why → Also) → Greys Why a b → Greys Also a b
greys_for f (as_before e) = as_before e
greys_for f (greys w g y) = greys w g (f y)

greyer_each : {Why : Type 0} (k : Colour) → Why → Greys Why k (greyer k)
greyer_each Blue y = as_before refl
greyer_each White y = greys refl refl y
greyer_each Grey y = as_before refl
greyer_each Black y = as_before refl

greyer_shaded : (k : Colour) → k ≢ Blue → is_shaded (greyer k) ≡ true
greyer_shaded Blue n = absurd (n refl)
greyer_shaded White n = refl
greyer_shaded Grey n = refl
greyer_shaded Black n = refl

pub greyed_table : (m : Cells) (x : ℕ) → SameTable m (greyed m x)
greyed_table m x = by (ltb x m.size)
  where
    by : (b : Bool) → SameTable m (cond b (recoloured m x (greyer (m.colour x))) m)
    by true = (refl, refl)
    by false = (refl, refl)

pub greyed_each : (m : Cells) (x c : ℕ) → Greys (x ≡ c) (m.colour c) ((greyed m x).colour c)
greyed_each m x c = by (ltb x m.size)
  where
    by : (b : Bool) → Greys (x ≡ c) (m.colour c) ((cond b (recoloured m x (greyer (m.colour x))) m).colour c)
    by false = as_before refl
    by true = ⊎_elim
        (λ (h : (c ≡ x) × (greyer (m.colour x) ≡ at x (greyer (m.colour x)) m.colour c)).
        subst (λ (k : Colour). Greys (x ≡ c) (m.colour c) k) (ap (λ j. greyer (m.colour j)) h.0 ∙ h.1) (greyer_each (m.colour c) (sym h.0)))
        (λ (h : (c ≡ x → ⊥) × (m.colour c ≡ at x (greyer (m.colour x)) m.colour c)). as_before (sym h.1))
        (at_cases x (greyer (m.colour x)) m.colour c (at x (greyer (m.colour x)) m.colour c) refl)

greyed_shades : (m : Cells) (c : ℕ) → c < m.size → m.colour c ≢ Blue → is_shaded ((greyed m c).colour c) ≡ true
greyed_shades m c l n =
    let here : greyed m c ≡ recoloured m c (greyer (m.colour c)) = cond-true (ltb c m.size) (recoloured m c (greyer (m.colour c))) m (lt-ltb c m.size l) in
    let colour : (recoloured m c (greyer (m.colour c))).colour c ≡ greyer (m.colour c) = cond-true (eqb c c) (greyer (m.colour c)) (m.colour c) (eq-eqb c c refl) in
    ap (λ (k : Cells). is_shaded (k.colour c)) here ∙ ap is_shaded colour ∙ greyer_shaded (m.colour c) n

pub greyed_if_table : (m : Cells) (o : Option ℕ) → SameTable m (greyed_if m o)
greyed_if_table m None = (refl, refl)
greyed_if_table m (Some x) = greyed_table m x

pub greyed_if_each : (m : Cells) (o : Option ℕ) (c : ℕ) → Greys (o ≡ Some c) (m.colour c) ((greyed_if m o).colour c)
greyed_if_each m None c = as_before refl
greyed_if_each m (Some x) c = greys_for (λ e. ap Some e) (greyed_each m x c)

pub greyed_if_shades : (m : Cells) (o : Option ℕ) (c : ℕ) → o ≡ Some c → c < m.size → m.colour c ≢ Blue → is_shaded ((greyed_if m o).colour c) ≡ true
greyed_if_shades m o c e l n = ap (λ p. is_shaded ((greyed_if m p).colour c)) e ∙ greyed_shades m c l n

pub greyed_to_table : (k : ℕ) (m : Cells) (registers : ℕ → Option ℕ) → SameTable m (greyed_to k m registers)
greyed_to_table zero m registers = (refl, refl)
greyed_to_table (suc k) m registers =
    let before = greyed_to_table k m registers in
    let last = greyed_if_table (greyed_to k m registers) (registers k) in
    (last.0 ∙ before.0, last.1 ∙ before.1)

pub greyed_to_each : (k : ℕ) (m : Cells) (registers : ℕ → Option ℕ) (c : ℕ) → Greys ((j : ℕ) × (registers j ≡ Some c)) (m.colour c) ((greyed_to k m registers).colour c)
greyed_to_each zero m registers c = as_before refl
greyed_to_each (suc k) m registers c = greys_then (greyed_to_each k m registers c) (greys_for (λ e. (k, e)) (greyed_if_each (greyed_to k m registers) (registers k) c))

pub greyed_to_shades : (k : ℕ) (m : Cells) (registers : ℕ → Option ℕ) (j c : ℕ) → j < k → registers j ≡ Some c → c < m.size → m.colour c ≢ Blue → is_shaded ((greyed_to k m registers).colour c) ≡ true
greyed_to_shades zero m registers j c l e h n = absurd (omega arith)
greyed_to_shades (suc k) m registers j c l e h n = ⊎_elim
    (λ (q : j ≡ k). greyed_if_shades (greyed_to k m registers) (registers k) c (ap registers (sym q) ∙ e)
    (subst (λ (b : ℕ). c < b) (sym (greyed_to_table k m registers).0) h) (λ b. n (greys_blue (greyed_to_each k m registers c) b)))
    (λ (q : j ≡ k → ⊥). greys_shaded (greyed_if_each (greyed_to k m registers) (registers k) c) (greyed_to_shades k m registers j c (omega arith) e h n))
    (cases_eq j k)

-- a cell that the tasks can touch is greyed
pub greyed_if_turn : (s : State) (I : Invariant s) (o : Option ℕ) → ((c : ℕ) → o ≡ Some c → Used s c)
    → (SecondHalf s → (c : ℕ) → o ≡ Some c → (s.collector.stage ≡ Mark) ⊎ Marked s I.Cut c) → Invariant (with_cells s (greyed_if s.cells o))
greyed_if_turn s I o used marked =
    let n = greyed_if s.cells o in
    subst (λ (k : Cells). Invariant (with_cells s k)) (sym (table_painted s.cells n (greyed_if_table s.cells o)))
    (greyed_turn s I n.colour (λ c. o ≡ Some c) (greyed_if_each s.cells o) used marked)
