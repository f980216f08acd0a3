-- Cells that go from a pool back to the free list, one after the other.
use Rattle.std.proofs.Common.{◌≡◌, ℕ, ◌+◌, ◌<◌, List, [], ◌∷◌, ◌++◌, length, get_or, take, drop, Some, None, Option, sym, refl, ap, ◌∙◌, ap₂, add-one, arith, drop-cons}
use Rattle.std.proofs.lemmas.List.{take_more, take_all, drop_all}
use Rattle.bags.specs.Holding.{Hold, put_into}
use Rattle.rules.specs.State.{Task, State, with_task, with_free}
use Rattle.rules.specs.Pools.{puts, pool_in, with_pool_of}
use Rattle.rules.proofs.States.{at_here, at_again, task_as_it_was}
use Rattle.tasks.specs.Parts.{newest_in, with_older}
use Rattle.turns.specs.Moves.{put_back, returning}

puts_push : (h : Hold) (xs : List ℕ) (x : ℕ) → puts h (xs ++ x ∷ []) ≡ put_into (puts h xs) x
puts_push h [] x = refl
puts_push h (y ∷ ys) x = puts_push (put_into h y) ys x

own_pool : (o : Option Task) → with_pool_of (pool_in o) o ≡ o
own_pool None = refl
own_pool (Some t) = refl

-- a task whose pool is x and then xs gives x and keeps xs
newest_of_lem : (o : Option Task) (x : ℕ) (xs ys : List ℕ) → 0 < length ys → ys ≡ pool_in o → newest_in (with_pool_of (x ∷ xs) o) ≡ Some x
newest_of_lem None x xs ys some e = absurd (omega (arith, ap length e))
newest_of_lem (Some t) x xs ys some e = refl

older_of_lem : (o : Option Task) (x : ℕ) (xs : List ℕ) → with_older (with_pool_of (x ∷ xs) o) ≡ with_pool_of xs o
older_of_lem None x xs = refl
older_of_lem (Some t) x xs = refl

module _ (s : State) (m : ℕ) where
  -- k cells went back
  abbrev pub returned : ℕ → State
  returned k = with_free (with_task s m (with_pool_of (drop k (pool_in (s.tasks m))) (s.tasks m))) (puts s.free (take k (pool_in (s.tasks m))))

  pub none_returned : s ≡ returned 0
  none_returned = sym (task_as_it_was s m (with_pool_of (pool_in (s.tasks m)) (s.tasks m)) (sym (own_pool (s.tasks m))))

  pub one_returned : (k : ℕ) → k < length (pool_in (s.tasks m)) → returning m (returned k) ≡ returned (k + 1)
  one_returned k some =
      let o = s.tasks m in
      let all = pool_in o in
      let x = get_or all k 0 in
      let rest = drop (k + 1) all in
      let pool : drop k all ≡ x ∷ rest = rw (add-one, drop-cons all k 0) in
      let free : put_into (puts s.free (take k all)) x ≡ puts s.free (take (k + 1) all) =
      sym (ap (puts s.free) (take_more all k 0 some) ∙ puts_push s.free (take k all) x) in
      let slot : (returned k).tasks m ≡ with_pool_of (x ∷ rest) o = at_here m _ s.tasks ∙ ap (λ p. with_pool_of p o) pool in
      ap (λ (q : Option Task). put_back (with_task (returned k) m (with_older q)) (newest_in q)) slot
      ∙ ap₂ (λ q y. put_back (with_task (returned k) m q) y) (older_of_lem o x rest) (newest_of_lem o x rest all (omega arith) refl)
      ∙ ap₂ (λ ts h. record { cells = s.cells; links = s.links; free = h; cache = s.cache; directory = s.directory; tasks = ts; collector = s.collector })
      (at_again m (with_pool_of (drop k all) o) (with_pool_of rest o) s.tasks) free

  pub all_returned : returned (length (pool_in (s.tasks m))) ≡ with_free (with_task s m (with_pool_of [] (s.tasks m))) (puts s.free (pool_in (s.tasks m)))
  all_returned =
      let all = pool_in (s.tasks m) in
      ap₂ (λ p xs. with_free (with_task s m (with_pool_of p (s.tasks m))) (puts s.free xs)) (drop_all (length all) all (omega arith)) (take_all (length all) all (omega arith))
