-- What a pile over a row of numbers holds, and that this is sound.
use Rattle.std.specs.Prelude.{◌≡◌, ℕ, zero, suc, min, cond, List, [], ◌∷◌, length, slice_index, slice_set, refl}
use Rattle.std.proofs.Common.{ap, arith}
use Rattle.bags.specs.declared.pile.Pile.{Pile}
use Rattle.bags.specs.Holding.{Hold, Sound, has_room}
use Rattle.bags.specs.Manners.{newest_first, newest_first_fair}

-- the first k numbers of a row, the last of them first
abbrev pub stacked : List ℕ → ℕ → List ℕ
stacked row zero = []
stacked row (suc k) = slice_index row k ∷ stacked row k

pub stacked_length : (row : List ℕ) (k : ℕ) → length (stacked row k) ≡ k
stacked_length row zero = refl
stacked_length row (suc k) = ap suc (stacked_length row k)

-- a row holds no more than its length, whatever the pile counts
abbrev pub pile_count : List ℕ → ℕ → ℕ
pile_count row len = min len (length row)

abbrev pub pile_of : List ℕ → ℕ → Hold
pile_of members room = record { members = members; room = room; manner = newest_first }

abbrev pub empty_pile : ℕ → Hold
empty_pile room = pile_of [] room

abbrev pub pile_hold : List ℕ → ℕ → Hold
pile_hold row len = pile_of (stacked row (pile_count row len)) (length row)

abbrev pub pile_means : Pile → Hold
pile_means p = pile_hold p.row.now p.len

-- a pile's row once x was put: the place past the members is written, or none where there is no room
abbrev pub row_after_put : Hold → List ℕ → ℕ → List ℕ
row_after_put h row x = cond (has_room h) (slice_set row (length h.members) x) row

pub pile_sound : (p : Pile) → Sound (pile_means p)
pile_sound p =
    record { few = omega (arith, stacked_length p.row.now (pile_count p.row.now p.len)); fair = newest_first_fair }
