-- What is written into a stretch of bytes changes its table as asked, and nothing past its last cell.
use Rattle.std.proofs.Common.{◌≡◌, ℕ, ◌+◌, ◌*◌, ◌/◌, ◌%◌, ◌<◌, ◌≤◌, true, ltb, ◌≢◌, List, length, get_or, drop, set, Option, sym, refl, ap, ◌∙◌, ⊎_elim, arith, length-set}
use Rattle.std.proofs.lemmas.List.{get_or-set_same, get_or-set_other, drop-set-lt}
use Rattle.std.proofs.lemmas.Bool.{cases_lt, cond_both, ltb-true}
use Rattle.cells.specs.declared.Colour.{Colour}
use Rattle.cells.specs.Memory.{coloured, recoloured, linked, relinked, fitting, settable}
use Rattle.cells.specs.Codes.{code_of, word_of, table_of}
use Rattle.cells.specs.Stretch.{cells_in_bytes, link_place, word_at, word_put, code_in_bytes, word_in_bytes, bytes_mean, bytes_coloured, bytes_linked}
use Rattle.cells.proofs.Tables.{through_cond, settable_parts, table_recoloured, table_relinked}

-- only the first byte of a cell stands at a multiple of five
off_multiples : (k c r : ℕ) → 0 < r → r < 5 → 5 * k + r ≢ 5 * c
off_multiples k c r lo hi e = ⊎_elim (λ (lt : k < c). omega arith) (λ (ge : c ≤ k). omega arith) (cases_lt k c)

-- two links at one place are one link
one_place : (k c m i : ℕ) → m < 2 → i < 2 → link_place k m ≡ link_place c i → (k ≡ c) × (m ≡ i)
one_place k c m i few few' e =
    ⊎_elim
    (λ (lt : k < c). absurd (omega arith))
    (λ (ge : c ≤ k). ⊎_elim (λ (lt : c < k). absurd (omega arith)) (λ (le : k ≤ c). (omega arith, omega arith)) (cases_lt c k))
    (cases_lt k c)

-- a high byte is no low byte
high_not_low : (k c m i : ℕ) → m < 2 → i < 2 → link_place k m ≢ link_place c i + 1
high_not_low k c m i few few' e =
    ⊎_elim
    (λ (lt : k < c). omega arith)
    (λ (ge : c ≤ k). ⊎_elim
    (λ (lt : c < k). omega arith)
    (λ (le : k ≤ c). ⊎_elim (λ (low : m < 1). omega arith) (λ (high : 1 ≤ m). ⊎_elim (λ (low : i < 1). omega arith) (λ (high' : 1 ≤ i). omega arith) (cases_lt i 1)) (cases_lt m 1))
    (cases_lt c k))
    (cases_lt k c)

count_after_set : (bs : List ℕ) (p b : ℕ) → cells_in_bytes (set bs p b) ≡ cells_in_bytes bs
count_after_set bs p b = simp length-set

count_after_put : (bs : List ℕ) (p w : ℕ) → cells_in_bytes (word_put bs p w) ≡ cells_in_bytes bs
count_after_put bs p w = count_after_set (set bs p (w / 256)) (p + 1) (w % 256) ∙ count_after_set bs p (w / 256)

word_put_lem : (bs : List ℕ) (p w : ℕ) → p + 1 < length bs → word_at (word_put bs p w) p ≡ w
word_put_lem bs p w inside =
    let high : get_or (word_put bs p w) p 0 ≡ w / 256 = get_or-set_other (set bs p (w / 256)) (p + 1) p (w % 256) 0 (λ e. omega arith) ∙ get_or-set_same bs p (w / 256) 0 (omega arith) in
    let low : get_or (word_put bs p w) (p + 1) 0 ≡ w % 256 = get_or-set_same (set bs p (w / 256)) (p + 1) (w % 256) 0 (simp length-set (omega arith)) in
    omega (arith, high, low)

byte_beside_put : (bs : List ℕ) (p w q : ℕ) → q ≢ p → q ≢ p + 1 → get_or (word_put bs p w) q 0 ≡ get_or bs q 0
byte_beside_put bs p w q not-high not_low = get_or-set_other (set bs p (w / 256)) (p + 1) q (w % 256) 0 not_low ∙ get_or-set_other bs p q (w / 256) 0 not-high

same_word : (bs bs' : List ℕ) (p : ℕ) → get_or bs' p 0 ≡ get_or bs p 0 → get_or bs' (p + 1) 0 ≡ get_or bs (p + 1) 0 → word_at bs' p ≡ word_at bs p
same_word bs bs' p high low = ap (λ b. 256 * b + get_or bs' (p + 1) 0) high ∙ ap (λ b. 256 * get_or bs p 0 + b) low

bytes_recoloured : (bs : List ℕ) (c : ℕ) (x : Colour) → c < cells_in_bytes bs → bytes_mean (set bs (5 * c) (code_of x)) ≡ recoloured (bytes_mean bs) c x
bytes_recoloured bs c x inside =
    let new : List ℕ = set bs (5 * c) (code_of x) in
    let low : 5 * c < length bs = omega arith in
    ap (λ n. table_of 2 n (code_in_bytes new) (word_in_bytes new)) (count_after_set bs (5 * c) (code_of x))
    ∙ table_recoloured 2 (cells_in_bytes bs) (code_in_bytes bs) (code_in_bytes new) (word_in_bytes bs) (word_in_bytes new) c x inside
    (get_or-set_same bs (5 * c) (code_of x) 0 low)
    (λ k ne. get_or-set_other bs (5 * c) (5 * k) (code_of x) 0 (λ e. ne (omega arith)))
    (λ k m few. same_word bs new (link_place k m)
    (get_or-set_other bs (5 * c) (link_place k m) (code_of x) 0 (λ e. off_multiples k c (2 * m + 1) (omega arith) (omega arith) (omega arith)))
    (get_or-set_other bs (5 * c) (link_place k m + 1) (code_of x) 0 (λ e. off_multiples k c (2 * m + 2) (omega arith) (omega arith) (omega arith))))

bytes_relinked : (bs : List ℕ) (c i : ℕ) (v : Option ℕ) → c < cells_in_bytes bs → i < 2 → fitting (cells_in_bytes bs) v ≡ true
    → bytes_mean (word_put bs (link_place c i) (word_of v)) ≡ relinked (bytes_mean bs) c i v
bytes_relinked bs c i v inside few fit =
    let p : ℕ = link_place c i in
    let w : ℕ = word_of v in
    let new : List ℕ = word_put bs p w in
    ap (λ n. table_of 2 n (code_in_bytes new) (word_in_bytes new)) (count_after_put bs p w)
    ∙ table_relinked 2 (cells_in_bytes bs) (code_in_bytes bs) (code_in_bytes new) (word_in_bytes bs) (word_in_bytes new) c i v inside few (omega arith) fit
    (word_put_lem bs p w (omega arith))
    (λ k m few' other. same_word bs new (link_place k m)
    (byte_beside_put bs p w (link_place k m) (λ e. other (one_place k c m i few' few e)) (high_not_low k c m i few' few))
    (byte_beside_put bs p w (link_place k m + 1) (λ e. high_not_low c k i m few few' (sym e)) (λ e. other (one_place k c m i few' few (omega arith)))))
    (λ k. byte_beside_put bs p w (5 * k)
    (λ e. off_multiples c k (2 * i + 1) (omega arith) (omega arith) (omega arith))
    (λ e. off_multiples c k (2 * i + 2) (omega arith) (omega arith) (omega arith)))

pub coloured_after : (bs new : List ℕ) (c : ℕ) (x : Colour) → new ≡ bytes_coloured bs c x → bytes_mean new ≡ coloured (bytes_mean bs) c x
coloured_after bs new c x exact =
    ap bytes_mean exact
    ∙ through_cond bytes_mean (ltb c (cells_in_bytes bs)) (set bs (5 * c) (code_of x)) bs (recoloured (bytes_mean bs) c x) (λ e. bytes_recoloured bs c x (ltb-true c (cells_in_bytes bs) e))

pub linked_after : (bs new : List ℕ) (c i : ℕ) (v : Option ℕ) → new ≡ bytes_linked bs c i v → bytes_mean new ≡ linked 2 (bytes_mean bs) c i v
linked_after bs new c i v exact =
    ap bytes_mean exact
    ∙ through_cond bytes_mean (settable 2 (bytes_mean bs) c i v) (word_put bs (link_place c i) (word_of v)) bs (relinked (bytes_mean bs) c i v)
    (λ e.
    let parts : (c < cells_in_bytes bs) × (i < 2) × (fitting (cells_in_bytes bs) v ≡ true) = settable_parts 2 (bytes_mean bs) c i v e in
    bytes_relinked bs c i v parts.0 parts.1 parts.2)

pub spare_after_set : (bs : List ℕ) (p b : ℕ) → p < 5 * cells_in_bytes bs → drop (5 * cells_in_bytes (set bs p b)) (set bs p b) ≡ drop (5 * cells_in_bytes bs) bs
spare_after_set bs p b inside = ap (λ n. drop (5 * n) (set bs p b)) (count_after_set bs p b) ∙ drop-set-lt (5 * cells_in_bytes bs) bs p b inside

spare_after_put : (bs : List ℕ) (p w : ℕ) → p + 1 < 5 * cells_in_bytes bs → drop (5 * cells_in_bytes (word_put bs p w)) (word_put bs p w) ≡ drop (5 * cells_in_bytes bs) bs
spare_after_put bs p w inside =
    let high : List ℕ = set bs p (w / 256) in
    spare_after_set high (p + 1) (w % 256) (rw count_after_set inside) ∙ spare_after_set bs p (w / 256) (omega arith)

pub linked_rest : (bs new : List ℕ) (c i : ℕ) (v : Option ℕ) → new ≡ bytes_linked bs c i v → drop (5 * cells_in_bytes new) new ≡ drop (5 * cells_in_bytes bs) bs
linked_rest bs new c i v exact =
    let spare : List ℕ → List ℕ = λ b. drop (5 * cells_in_bytes b) b in
    ap spare exact
    ∙ cond_both (settable 2 (bytes_mean bs) c i v) (word_put bs (link_place c i) (word_of v)) bs (λ b. spare b ≡ spare bs)
    (λ e.
    let parts : (c < cells_in_bytes bs) × (i < 2) × (fitting (cells_in_bytes bs) v ≡ true) = settable_parts 2 (bytes_mean bs) c i v e in
    spare_after_put bs (link_place c i) (word_of v) (omega (arith, parts.0, parts.1)))
    (λ _. refl)
