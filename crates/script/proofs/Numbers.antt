-- Numbers that are read one by one into their places are those of the whole line.
use Rattle.std.proofs.Common.{◌≡◌, ℕ, suc, ◌+◌, ◌-◌, ◌<◌, ◌≤◌, Bool, true, false, cond, List, [], ◌∷◌, ◌++◌, length, take, drop, set, replicate, Some, None, Option, sym, refl, ap, ◌∙◌, append_assoc, append-nil, arith}
use Rattle.std.specs.Bool.{then_some}
use Rattle.std.proofs.lemmas.List.{take_more_set, take_all, drop-replicate}
use Rattle.script.specs.Lines.{ended, number_at, number_size, and_then, numbers_of, filled}

-- the numbers so far, and then the others
abbrev joined_to : List ℕ → Option (List ℕ) → Option (List ℕ)
joined_to ns None = None
joined_to ns (Some others) = Some (ns ++ others)

joined_to_none_yet : (others : Option (List ℕ)) → joined_to [] others ≡ others
joined_to_none_yet None = refl
joined_to_none_yet (Some others) = refl

joined_to_one : (ns : List ℕ) (n : ℕ) (others : Option (List ℕ)) → joined_to ns (and_then (Some n) others) ≡ joined_to (ns ++ n ∷ []) others
joined_to_one ns n None = refl
joined_to_one ns n (Some others) = ap Some (sym (append_assoc ns (n ∷ []) others))

filled_if : (end : Bool) (ns : List ℕ) → filled (joined_to ns (cond end (Some []) None)) ≡ then_some end (ns ++ replicate (4 - length ns) 0)
filled_if true ns = ap (λ all. Some (all ++ replicate (4 - length all) 0)) (append-nil ns)
filled_if false ns = refl

-- i of the numbers stand in their places, and rest is what is left of the line
pub record ReadSoFar (count i : ℕ) (line rest numbers : List ℕ) : Type 0 where
  pub left : numbers_of count line ≡ joined_to (take i numbers) (numbers_of (count - i) rest)

pub none_read : (count : ℕ) (line numbers : List ℕ) → ReadSoFar count 0 line line numbers
none_read count line numbers =
    let all : count - 0 ≡ count = omega arith in
    record { left = sym (joined_to_none_yet (numbers_of (count - 0) line) ∙ ap (λ m. numbers_of m line) all) }

module _ {count i : ℕ} {line rest numbers : List ℕ} (so : ReadSoFar count i line rest numbers) where
  one_more_to_read : i < count → numbers_of count line ≡ joined_to (take i numbers) (and_then (number_at rest) (numbers_of (count - (i + 1)) (drop (number_size rest) rest)))
  one_more_to_read h =
      let more : count - i ≡ suc (count - (i + 1)) = omega arith in
      so.left ∙ ap (λ m. joined_to (take i numbers) (numbers_of m rest)) more

  pub read_one_more : (n : ℕ) (next : List ℕ) → i < count → length numbers ≡ count → number_at rest ≡ Some n → next ≡ drop (number_size rest) rest → ReadSoFar count (i + 1) line next (set numbers i n)
  read_one_more n next h size is onward =
      let inside : i < length numbers = omega (arith, size) in
      let others : Option (List ℕ) = numbers_of (count - (i + 1)) next in
      let first : numbers_of count line ≡ joined_to (take i numbers) (and_then (Some n) others) = rw onward (one_more_to_read h ∙ ap (λ o. joined_to (take i numbers) (and_then o (numbers_of (count - (i + 1)) (drop (number_size rest) rest)))) is) in
      record { left = rw (take_more_set numbers i n inside) (first ∙ joined_to_one (take i numbers) n others) }

  pub refused_by_number : i < count → number_at rest ≡ None → numbers_of count line ≡ None
  refused_by_number h is =
      one_more_to_read h ∙ ap (λ o. joined_to (take i numbers) (and_then o (numbers_of (count - (i + 1)) (drop (number_size rest) rest)))) is

  -- the places after those of the numbers hold 0
  pub all_read : count ≤ i → length numbers ≡ count → filled (numbers_of count line) ≡ then_some (ended rest) (numbers ++ drop count (replicate 4 0))
  all_read h size =
      let none : count - i ≡ 0 = omega arith in
      let all : take i numbers ≡ numbers = take_all i numbers (omega (arith, size)) in
      let zeros : replicate (4 - length numbers) 0 ≡ drop count (replicate 4 0) = ap (λ n. replicate (4 - n) 0) size ∙ sym (drop-replicate count 4 0) in
      ap filled (so.left ∙ ap (λ m. joined_to (take i numbers) (numbers_of m rest)) none ∙ ap (λ ns. joined_to ns (numbers_of 0 rest)) all)
      ∙ filled_if (ended rest) numbers
      ∙ ap (λ others. then_some (ended rest) (numbers ++ others)) zeros
