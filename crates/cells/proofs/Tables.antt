-- A table of numbers with one number overwritten is the table with one colour or one link changed.
use Rattle.std.proofs.Common.{◌≡◌, ℕ, ◌<◌, ◌≤◌, Bool, true, false, cond, ◌&&◌, eqb, ltb, Some, None, Option, sym, refl, ap, ◌∙◌, ⊎_elim, arith}
use mathlib.Core.Path.{fun_ext}
use Rattle.std.proofs.lemmas.Bool.{cases_eq, cases_lt, cond-true, cond-false, eq-eqb, ne_eqb, lt-ltb, le-ltb, ltb-true, and_from, and_parts, and_right}
use Rattle.cells.specs.declared.Colour.{Colour}
use Rattle.cells.specs.declared.Colour.TheVariants.{Blue, White, Grey, Black}
use Rattle.cells.specs.Memory.{Cells, at, recoloured, relinked, fitting, settable}
use Rattle.cells.specs.Codes.{code_of, tint, named, word_of, table_of}

-- a function of what was written, or of what stayed
pub through_cond : {A B : Type 0} (f : A → B) (b : Bool) (x y : A) (z : B) → (b ≡ true → f x ≡ z) → f (cond b x y) ≡ cond b z (f y)
through_cond f true x y z written = written refl
through_cond f false x y z written = refl

-- the new value at place i and the old ones elsewhere make up the write at i
at_from_cases : {A : Type 0} (i : ℕ) (x : A) (f : ℕ → A) (k : ℕ) (y : A) → (k ≡ i → y ≡ x) → ((k ≡ i → ⊥) → y ≡ f k) → y ≡ at i x f k
at_from_cases i x f k y new old =
    ⊎_elim
    (λ (e : k ≡ i). new e ∙ sym (cond-true (eqb k i) x (f k) (eq-eqb k i e)))
    (λ ne. old ne ∙ sym (cond-false (eqb k i) x (f k) (ne_eqb k i ne)))
    (cases_eq k i)

-- a row of functions after a write, read at two places
at_apply : {A : Type 0} (i : ℕ) (g : ℕ → A) (f : ℕ → ℕ → A) (k m : ℕ) → at i (g m) (λ n. f n m) k ≡ at i g f k m
at_apply i g f k m = elim (eqb k i) as (λ b. cond b (g m) (f k m) ≡ cond b g (f k) m) [ true ↦ refl | false ↦ refl ]

cells_from_parts : {n : ℕ} {h h' : ℕ → Colour} {l l' : ℕ → ℕ → Option ℕ} → h ≡ h' → l ≡ l'
    → ◌≡◌ {A = Cells} (record { size = n; colour = h; link = l }) (record { size = n; colour = h'; link = l' })
cells_from_parts {n} q r = λ i. record { size = n; colour = q i; link = r i }

tint_code : (x : Colour) → tint (code_of x) ≡ x
tint_code Blue = refl
tint_code White = refl
tint_code Grey = refl
tint_code Black = refl

-- the word written for a link that fits reads as that link
named_word : (n : ℕ) (v : Option ℕ) → n ≤ 4097 → fitting n v ≡ true → named n (word_of v) ≡ v
named_word n None small fit = cond-false (ltb 65535 n) (Some 65535) None (le-ltb 65535 n (omega arith))
named_word n (Some x) small fit = cond-true (ltb x n) (Some x) None fit

pub settable_parts : (L : ℕ) (m : Cells) (c i : ℕ) (v : Option ℕ) → settable L m c i v ≡ true → (c < m.size) × (i < L) × (fitting m.size v ≡ true)
settable_parts L m c i v ok =
    let outer : (ltb c m.size ≡ true) × ((ltb i L && fitting m.size v) ≡ true) = and_parts (ltb c m.size) (ltb i L && fitting m.size v) ok in
    let inner : (ltb i L ≡ true) × (fitting m.size v ≡ true) = and_parts (ltb i L) (fitting m.size v) outer.1 in
    (ltb-true c m.size outer.0, ltb-true i L inner.0, inner.1)

module _ (L n : ℕ) (code code' : ℕ → ℕ) (word word' : ℕ → ℕ → ℕ) where
  same_colours : ((k : ℕ) → code' k ≡ code k) → (table_of L n code' word).colour ≡ (table_of L n code word).colour
  same_colours same = fun_ext (λ k. ap (λ b. cond (ltb k n) (tint b) White) (same k))

  same_link : (k m : ℕ) → (m < L → word' k m ≡ word k m) → (table_of L n code word').link k m ≡ (table_of L n code word).link k m
  same_link k m same =
      ⊎_elim
      (λ (lt : m < L). ap (λ w. cond (ltb k n && ltb m L) (named n w) None) (same lt))
      (λ ge.
      let past : (ltb k n && ltb m L) ≡ false = and_right (ltb k n) (ltb m L) (le-ltb m L ge) in
      cond-false (ltb k n && ltb m L) (named n (word' k m)) None past ∙ sym (cond-false (ltb k n && ltb m L) (named n (word k m)) None past))
      (cases_lt m L)

  pub table_recoloured : (c : ℕ) (x : Colour) → c < n → code' c ≡ code_of x → ((k : ℕ) → (k ≡ c → ⊥) → code' k ≡ code k)
      → ((k m : ℕ) → m < L → word' k m ≡ word k m) → table_of L n code' word' ≡ recoloured (table_of L n code word) c x
  table_recoloured c x inside new old links =
      cells_from_parts
      (fun_ext (λ k. at_from_cases c x (table_of L n code word).colour k ((table_of L n code' word').colour k)
      (λ e. ap (table_of L n code' word').colour e ∙ cond-true (ltb c n) (tint (code' c)) White (lt-ltb c n inside) ∙ ap tint new ∙ tint_code x)
      (λ ne. ap (λ b. cond (ltb k n) (tint b) White) (old k ne))))
      (fun_ext (λ k. fun_ext (λ m. same_link k m (links k m))))

  pub table_relinked : (c i : ℕ) (v : Option ℕ) → c < n → i < L → n ≤ 4097 → fitting n v ≡ true → word' c i ≡ word_of v
      → ((k m : ℕ) → m < L → ((k ≡ c) × (m ≡ i) → ⊥) → word' k m ≡ word k m) → ((k : ℕ) → code' k ≡ code k)
      → table_of L n code' word' ≡ relinked (table_of L n code word) c i v
  table_relinked c i v inside few small fit new old colours =
      let was : ℕ → ℕ → Option ℕ = (table_of L n code word).link in
      let is : ℕ → ℕ → Option ℕ = (table_of L n code' word').link in
      let written : is c i ≡ v = cond-true (ltb c n && ltb i L) (named n (word' c i)) None (and_from (ltb c n) (ltb i L) (lt-ltb c n inside) (lt-ltb i L few)) ∙ ap (named n) new ∙ named_word n v small fit in
      cells_from_parts
      (same_colours colours)
      (fun_ext (λ k. fun_ext (λ m.
      at_from_cases c (at i v (was c) m) (λ a. was a m) k (is k m)
      (λ e. at_from_cases i v (was c) m (is k m)
      (λ f. ap (λ a. is a m) e ∙ ap (is c) f ∙ written)
      (λ ne. same_link k m (λ lt. old k m lt (λ both. ne both.1)) ∙ ap (λ a. was a m) e))
      (λ ne. same_link k m (λ lt. old k m lt (λ both. ne both.0)))
      ∙ at_apply c (at i v (was c)) was k m)))
