-- What a free list and a pool hold once cells went from the one to the other, or back.
use Rattle.std.proofs.Common.{◌≡◌, ℕ, zero, suc, ◌+◌, ◌<◌, ◌≤◌, List, [], ◌∷◌, length, sym, refl, ap, ◌∙◌, subst, arith}
use Rattle.std.proofs.lemmas.Bool.{cond-true, cond_both, lt-ltb}
use Rattle.bags.specs.Holding.{Hold, Fair, copies, holding, has_room, has_member, put_into}
use Rattle.rules.specs.Pools.{left, drawn, puts}

pub left_manner : (k : ℕ) (h : Hold) → ((left k h).manner ≡ h.manner) × ((left k h).room ≡ h.room)
left_manner zero h = (refl, refl)
left_manner (suc k) h = cond_both (has_member (left k h)) _ _ (λ (x : Hold). (x.manner ≡ h.manner) × (x.room ≡ h.room)) (λ _. left_manner k h) (λ _. left_manner k h)

-- each take of a member leaves one less
pub left_count : (k : ℕ) (h : Hold) → Fair h.manner → k ≤ length h.members → k + length (left k h).members ≡ length h.members
left_count zero h fair few = omega arith
left_count (suc k) h fair few =
    let before = left_count k h fair (omega arith) in
    let some : 0 < length (left k h).members = omega arith in
    let one_less = (subst Fair (sym (left_manner k h).0) fair).rest_count (left k h).members some in
    let taken = ap (λ (x : Hold). length x.members) (cond-true (has_member (left k h)) (holding (left k h) ((left k h).manner.rest (left k h).members)) (left k h) (lt-ltb 0 _ some)) in
    omega arith

pub drawn_count : (k : ℕ) (h : Hold) (pool : List ℕ) → length (drawn k h pool) ≡ k + length pool
drawn_count zero h pool = omega arith
drawn_count (suc k) h pool = let before = drawn_count k h pool in omega arith

-- what was taken stands in the pool
pub drawn_copies : (k : ℕ) (h : Hold) → Fair h.manner → k ≤ length h.members → (pool : List ℕ) (c : ℕ) → copies (left k h).members c + copies (drawn k h pool) c ≡ copies h.members c + copies pool c
drawn_copies zero h fair few pool c = refl
drawn_copies (suc k) h fair few pool c =
    let before = drawn_copies k h fair (omega arith) pool c in
    let some : 0 < length (left k h).members = omega (arith, left_count k h fair (omega arith)) in
    let less = (subst Fair (sym (left_manner k h).0) fair).rest_copies (left k h).members some c in
    let taken = ap (λ (x : Hold). copies x.members c) (cond-true (has_member (left k h)) (holding (left k h) ((left k h).manner.rest (left k h).members)) (left k h) (lt-ltb 0 _ some)) in
    omega arith

pub puts_manner : (h : Hold) (xs : List ℕ) → ((puts h xs).manner ≡ h.manner) × ((puts h xs).room ≡ h.room)
puts_manner h [] = (refl, refl)
puts_manner h (x ∷ xs) =
    let later = puts_manner (put_into h x) xs in
    let now = cond_both (has_room h) (holding h (h.manner.added h.members x)) h (λ (y : Hold). (y.manner ≡ h.manner) × (y.room ≡ h.room)) (λ _. (refl, refl)) (λ _. (refl, refl)) in
    (later.0 ∙ now.0, later.1 ∙ now.1)

-- where there is room for all, each number put is held
pub puts_copies : (h : Hold) (xs : List ℕ) → Fair h.manner → length h.members + length xs ≤ h.room → (c : ℕ) → copies (puts h xs).members c ≡ copies h.members c + copies xs c
puts_copies h [] fair few c = omega arith
puts_copies h (x ∷ xs) fair few c =
    let room : put_into h x ≡ holding h (h.manner.added h.members x) = cond-true (has_room h) _ _ (lt-ltb (length h.members) h.room (omega arith)) in
    let more = fair.added_copies h.members x c in
    let count = fair.added_count h.members x in
    let later = puts_copies (holding h (h.manner.added h.members x)) xs fair (omega arith) c in
    ap (λ y. copies (puts y xs).members c) room ∙ later ∙ omega arith
