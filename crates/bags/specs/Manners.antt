-- The manner of a pile and that of a ring, and that both are fair.
use Rattle.std.specs.Prelude.{◌≡◌, ℕ, suc, ◌+◌, ◌<◌, List, [], ◌∷◌, ◌++◌, length, ◌==◌, refl}
use mathlib.Core.List.{tail}
use Rattle.std.proofs.Common.{arith, not-suc-le-zero, length-append}
use Rattle.std.proofs.lemmas.Bool.{eq-eqb, cond-true}
use Rattle.bags.specs.Holding.{Manner, Fair, one, copies}

abbrev pub first_of : List ℕ → ℕ
first_of [] = 0
first_of (x ∷ xs) = x

-- members newest first: the newest is given first
abbrev pub newest_first : Manner
newest_first = record { choice = first_of; added = λ xs x. x ∷ xs; rest = tail }

-- members oldest first: the oldest is given first
abbrev pub oldest_first : Manner
oldest_first = record { choice = first_of; added = λ xs x. xs ++ x ∷ []; rest = tail }

one_same : (x : ℕ) → one x x ≡ 1
one_same x = cond-true (x == x) 1 0 (eq-eqb x x refl)

first_member : (xs : List ℕ) → 0 < length xs → 0 < copies xs (first_of xs)
first_member [] some = absurd (not-suc-le-zero some)
first_member (x ∷ xs) some = omega (arith, one_same x)

tail_count : (xs : List ℕ) → 0 < length xs → suc (length (tail xs)) ≡ length xs
tail_count [] some = absurd (not-suc-le-zero some)
tail_count (x ∷ xs) some = refl

tail_copies : (xs : List ℕ) → 0 < length xs → (k : ℕ) → one (first_of xs) k + copies (tail xs) k ≡ copies xs k
tail_copies [] some k = absurd (not-suc-le-zero some)
tail_copies (x ∷ xs) some k = refl

push_copies : (xs : List ℕ) (x k : ℕ) → copies (xs ++ x ∷ []) k ≡ one x k + copies xs k
push_copies [] x k = refl
push_copies (y ∷ ys) x k = let later = push_copies ys x k in omega arith

pub newest_first_fair : Fair newest_first
newest_first_fair =
    record {
      added_count = λ xs x. refl;
      added_copies = λ xs x k. refl;
      choice_member = first_member;
      rest_count = tail_count;
      rest_copies = tail_copies;
    }

pub oldest_first_fair : Fair oldest_first
oldest_first_fair =
    record {
      added_count = λ xs x. simp length-append (omega arith);
      added_copies = push_copies;
      choice_member = first_member;
      rest_count = tail_count;
      rest_copies = tail_copies;
    }
