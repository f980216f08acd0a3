-- What a ring holds after a put and after a take, from what is written in its slots.
use Rattle.std.proofs.Common.{◌≡◌, ℕ, zero, suc, ◌+◌, ◌-◌, ◌%◌, ◌<◌, ◌≤◌, true, ◌≢◌, List, [], ◌∷◌, ◌++◌, length, get_or, set, Ok, sym, refl, ap, ◌∙◌, ap₂, add-zero, add-one, arith}
use Rattle.std.proofs.lemmas.Bool.{cond-true, lt-ltb}
use Rattle.std.proofs.lemmas.List.{get_or-set_same, get_or-set_other}
use Rattle.bags.specs.Holding.{has_room, has_member, put_answer, put_into, take_answer, taken_from}
use Rattle.bags.specs.Manners.{oldest_first}
use Rattle.bags.specs.Rounds.{ring_room, round, round_length, ring_of, ring_hold}

wrap_next : (f : ℕ) → (f % ring_room + 1) % ring_room ≡ (f + 1) % ring_room
wrap_next f = omega arith

wrap_twice : (f : ℕ) → f % ring_room % ring_room ≡ f % ring_room
wrap_twice f = omega arith

wrap_apart : (f d : ℕ) → 0 < d → d < ring_room → f % ring_room ≢ (f + d) % ring_room
wrap_apart f d lo hi e = omega arith

round_wrap : (s : List ℕ) (f n : ℕ) → round s (f % ring_room) n ≡ round s f n
round_wrap s f zero = refl
round_wrap s f (suc n) =
    ap₂ (λ i xs. get_or s i 0 ∷ xs) (wrap_twice f)
    (sym (round_wrap s (f % ring_room + 1) n) ∙ ap (λ g. round s g n) (wrap_next f) ∙ round_wrap s (f + 1) n)

round_last : (s : List ℕ) (f n : ℕ) → round s f (suc n) ≡ round s f n ++ get_or s ((f + n) % ring_room) 0 ∷ []
round_last s f zero = ap (λ i. get_or s (i % ring_room) 0 ∷ []) (sym (add-zero f))
round_last s f (suc n) =
    ap (λ xs. get_or s (f % ring_room) 0 ∷ xs)
    (round_last s (f + 1) n ∙ ap (λ i. round s (f + 1) n ++ get_or s (i % ring_room) 0 ∷ []) (omega arith))

-- a write d slots on, past the n slots that are read
round_set_past : (s : List ℕ) (f n d x : ℕ) → n ≤ d → d < ring_room → round (set s ((f + d) % ring_room) x) f n ≡ round s f n
round_set_past s f zero d x past within = refl
round_set_past s f (suc n) d x past within =
    let same : (f + 1) + (d - 1) ≡ f + d = omega arith in
    let later : round (set s ((f + d) % ring_room) x) (f + 1) n ≡ round s (f + 1) n = rw same at (round_set_past s (f + 1) n (d - 1) x (omega arith) (omega arith)) in
    ap₂ (λ y ys. y ∷ ys) (get_or-set_other s ((f + d) % ring_room) (f % ring_room) x 0 (wrap_apart f d (omega arith) within)) later

round_set_next : (s : List ℕ) (f n x : ℕ) → length s ≡ ring_room → n < ring_room → round (set s ((f + n) % ring_room) x) f (n + 1) ≡ round s f n ++ x ∷ []
round_set_next s f n x whole within =
    let t = set s ((f + n) % ring_room) x in
    ap (round t f) (add-one n) ∙ round_last t f n
    ∙ ap₂ (λ xs y. xs ++ y ∷ []) (round_set_past s f n n x (omega arith) within) (get_or-set_same s ((f + n) % ring_room) x 0 (omega arith))

round_first : (s : List ℕ) (f n : ℕ) → f < ring_room → round s f (suc n) ≡ get_or s f 0 ∷ round s ((f + 1) % ring_room) n
round_first s f n start = ap₂ (λ i xs. get_or s i 0 ∷ xs) (omega arith) (sym (round_wrap s (f + 1) n))

module _ (s : List ℕ) (f n : ℕ) where
  module _ (within : n < ring_room) where
    has_room_lem : has_room (ring_hold s f n) ≡ true
    has_room_lem = lt-ltb (length (round s f n)) ring_room (omega (arith, round_length s f n))

    pub put_accepted : Ok tt ≡ put_answer (ring_hold s f n)
    put_accepted = sym (cond-true (has_room (ring_hold s f n)) _ _ has_room_lem)

    pub put_at_end : (x : ℕ) → length s ≡ ring_room → ring_hold (set s ((f + n) % ring_room) x) f (n + 1) ≡ put_into (ring_hold s f n) x
    put_at_end x whole = ap ring_of (round_set_next s f n x whole within) ∙ sym (cond-true (has_room (ring_hold s f n)) _ _ has_room_lem)

  module _ (start : f < ring_room) (left : ℕ) (one_more : n ≡ suc left) where
    has_member_lem : has_member (ring_hold s f n) ≡ true
    has_member_lem = lt-ltb 0 (length (round s f n)) (omega (arith, round_length s f n))

    oldest_first_lem : round s f n ≡ get_or s f 0 ∷ round s ((f + 1) % ring_room) left
    oldest_first_lem = ap (round s f) one_more ∙ round_first s f left start

    pub take_oldest : Ok (get_or s f 0) ≡ take_answer (ring_hold s f n)
    take_oldest =
        ap (λ xs. Ok (oldest_first.choice xs)) (sym oldest_first_lem)
        ∙ sym (cond-true (has_member (ring_hold s f n)) _ _ has_member_lem)

    pub take_from_start : ring_hold s ((f + 1) % ring_room) left ≡ taken_from (ring_hold s f n)
    take_from_start =
        ap (λ xs. ring_of (oldest_first.rest xs)) (sym oldest_first_lem)
        ∙ sym (cond-true (has_member (ring_hold s f n)) _ _ has_member_lem)
