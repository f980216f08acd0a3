-- What a bag holds, and what each of its calls answers and makes of it.
use Rattle.std.specs.Prelude.{◌≡◌, ℕ, suc, ◌+◌, ◌<◌, ◌≤◌, Bool, cond, List, [], ◌∷◌, length, Ok, Err, Result, ◌==◌, nat_lt}
use Rattle.bags.specs.declared.BagRefusal.{BagRefusal}
use Rattle.bags.specs.declared.BagRefusal.TheVariants.{Full, Empty}

-- how a bag chooses and orders its members, by what it holds: the member that a take gives, what it holds once
-- a number was put, and what it holds once the chosen member was taken
pub record Manner : Type 0 where
  pub choice : List ℕ → ℕ
  pub added : List ℕ → ℕ → List ℕ
  pub rest : List ℕ → List ℕ

-- a bag: its members, copies included, in an order of its own; how many there is room for; and its manner
pub record Hold : Type 0 where
  pub members : List ℕ
  pub room : ℕ
  pub manner : Manner

abbrev pub one : ℕ → ℕ → ℕ
one x k = cond (k == x) 1 0

-- how many copies of k there are
abbrev pub copies : List ℕ → ℕ → ℕ
copies [] k = 0
copies (x ∷ xs) k = one x k + copies xs k

-- a put adds one copy of the number; a take gives a member and loses one copy of it
pub record Fair (b : Manner) : Type 0 where
  pub added_count : (xs : List ℕ) (x : ℕ) → length (b.added xs x) ≡ suc (length xs)
  pub added_copies : (xs : List ℕ) (x k : ℕ) → copies (b.added xs x) k ≡ one x k + copies xs k
  pub choice_member : (xs : List ℕ) → 0 < length xs → 0 < copies xs (b.choice xs)
  pub rest_count : (xs : List ℕ) → 0 < length xs → suc (length (b.rest xs)) ≡ length xs
  pub rest_copies : (xs : List ℕ) → 0 < length xs → (k : ℕ) → one (b.choice xs) k + copies (b.rest xs) k ≡ copies xs k

-- what every bag keeps to
pub record Sound (h : Hold) : Type 0 where
  pub few : length h.members ≤ h.room
  pub fair : Fair h.manner

abbrev pub holding : Hold → List ℕ → Hold
holding h xs = record { members = xs; room = h.room; manner = h.manner }

abbrev pub has_room : Hold → Bool
has_room h = nat_lt (length h.members) h.room

abbrev pub has_member : Hold → Bool
has_member h = nat_lt 0 (length h.members)

abbrev pub put_answer : Hold → Result (Unit {0}) BagRefusal
put_answer h = cond (has_room h) (Ok tt) (Err Full)

abbrev pub put_into : Hold → ℕ → Hold
put_into h x = cond (has_room h) (holding h (h.manner.added h.members x)) h

abbrev pub take_answer : Hold → Result ℕ BagRefusal
take_answer h = cond (has_member h) (Ok (h.manner.choice h.members)) (Err Empty)

abbrev pub taken_from : Hold → Hold
taken_from h = cond (has_member h) (holding h (h.manner.rest h.members)) h
