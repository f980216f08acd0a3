-- What a pile holds after a put and after a take, from what is written in its row.
use Rattle.std.proofs.Common.{◌≡◌, ℕ, zero, suc, ◌+◌, ◌<◌, ◌≤◌, true, List, ◌∷◌, length, get_or, set, Ok, sym, refl, ap, ◌∙◌, ap₂, add-one, arith, length-set}
use Rattle.std.proofs.lemmas.Bool.{cond-true, lt-ltb}
use Rattle.std.proofs.lemmas.List.{get_or-set_same, get_or-set_other}
use Rattle.bags.specs.Holding.{has_room, has_member, put_answer, put_into, take_answer, taken_from}
use Rattle.bags.specs.Manners.{newest_first}
use Rattle.bags.specs.Stacks.{stacked, stacked_length, pile_count, pile_of, pile_hold, row_after_put}

stacked_set_above : (row : List ℕ) (n x k : ℕ) → k ≤ n → stacked (set row n x) k ≡ stacked row k
stacked_set_above row n x zero below = refl
stacked_set_above row n x (suc k) below =
    ap₂ (λ y ys. y ∷ ys) (get_or-set_other row n k x 0 (λ e. omega arith)) (stacked_set_above row n x k (omega arith))

pub stacked_set_next : (row : List ℕ) (n x : ℕ) → n < length row → stacked (set row n x) (n + 1) ≡ x ∷ stacked row n
stacked_set_next row n x within =
    ap (stacked (set row n x)) (add-one n)
    ∙ ap₂ (λ y ys. y ∷ ys) (get_or-set_same row n x 0 within) (stacked_set_above row n x n (omega arith))

-- n is what the pile's count answered
module _ (row : List ℕ) (len n : ℕ) (is_count : n ≡ pile_count row len) where
  members_count : length (pile_hold row len).members ≡ n
  members_count = stacked_length row (pile_count row len) ∙ sym is_count

  module _ (within : n < length row) where
    has_room_lem : has_room (pile_hold row len) ≡ true
    has_room_lem = lt-ltb (length (pile_hold row len).members) (length row) (omega (arith, members_count))

    pub put_accepted : Ok tt ≡ put_answer (pile_hold row len)
    put_accepted = sym (cond-true (has_room (pile_hold row len)) _ _ has_room_lem)

    pub put_on_top : (x : ℕ) → pile_hold (set row n x) (n + 1) ≡ put_into (pile_hold row len) x
    put_on_top x =
        ap₂ (λ k room. pile_of (stacked (set row n x) k) room) (simp length-set (omega arith)) (length-set row n x)
        ∙ ap (λ xs. pile_of xs (length row)) (stacked_set_next row n x within)
        ∙ ap (λ k. pile_of (x ∷ stacked row k) (length row)) is_count
        ∙ sym (cond-true (has_room (pile_hold row len)) _ _ has_room_lem)

    pub put_written : (x : ℕ) → set row n x ≡ row_after_put (pile_hold row len) row x
    put_written x =
        ap (λ k. set row k x) (sym members_count)
        ∙ sym (cond-true (has_room (pile_hold row len)) _ _ has_room_lem)

  module _ (left : ℕ) (one_more : n ≡ suc left) where
    has_member_lem : has_member (pile_hold row len) ≡ true
    has_member_lem = lt-ltb 0 (length (pile_hold row len).members) (omega (arith, members_count))

    newest_first_lem : stacked row (pile_count row len) ≡ get_or row left 0 ∷ stacked row left
    newest_first_lem = ap (stacked row) (sym is_count ∙ one_more)

    pub take_newest : Ok (get_or row left 0) ≡ take_answer (pile_hold row len)
    take_newest =
        ap (λ xs. Ok (newest_first.choice xs)) (sym newest_first_lem)
        ∙ sym (cond-true (has_member (pile_hold row len)) _ _ has_member_lem)

    pub take_from_top : pile_hold row left ≡ taken_from (pile_hold row len)
    take_from_top =
        ap (λ k. pile_of (stacked row k) (length row)) (omega (arith, is_count))
        ∙ ap (λ xs. pile_of (newest_first.rest xs) (length row)) (sym newest_first_lem)
        ∙ sym (cond-true (has_member (pile_hold row len)) _ _ has_member_lem)
