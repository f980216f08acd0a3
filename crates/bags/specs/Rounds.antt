-- What a ring's slots hold, and that this is sound.
use Rattle.std.specs.Prelude.{◌≡◌, ℕ, zero, suc, ◌+◌, ◌%◌, ◌≤◌, List, [], ◌∷◌, length, slice_index, refl}
use Rattle.std.proofs.Common.{ap, arith}
use Rattle.bags.specs.Holding.{Hold, Sound}
use Rattle.bags.specs.Manners.{oldest_first, oldest_first_fair}

-- how many slots a ring has
abbrev pub ring_room : ℕ
ring_room = 32

-- n numbers from slot first on; after the last slot comes slot 0
abbrev pub round : List ℕ → ℕ → ℕ → List ℕ
round slots first zero = []
round slots first (suc n) = slice_index slots (first % ring_room) ∷ round slots (first + 1) n

pub round_length : (slots : List ℕ) (first n : ℕ) → length (round slots first n) ≡ n
round_length slots first zero = refl
round_length slots first (suc n) = ap suc (round_length slots (first + 1) n)

abbrev pub ring_of : List ℕ → Hold
ring_of members = record { members = members; room = ring_room; manner = oldest_first }

abbrev pub empty_ring : Hold
empty_ring = ring_of []

abbrev pub ring_hold : List ℕ → ℕ → ℕ → Hold
ring_hold slots first len = ring_of (round slots first len)

pub ring_sound : (slots : List ℕ) (first len : ℕ) → len ≤ ring_room → Sound (ring_hold slots first len)
ring_sound slots first len few = record { few = omega (arith, round_length slots first len); fair = oldest_first_fair }
