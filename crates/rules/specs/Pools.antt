-- Cells that go between the free list and a task's pool. Each call has its checks, in the order of their numbers, and what it does.
use Rattle.std.specs.Prelude.{ℕ, zero, suc, ◌-◌, min, List, [], ◌∷◌, length, Some, None, Ok, Option, Result, nat_lt}
use Rattle.bags.specs.Holding.{Hold, put_into, taken_from}
use Rattle.rules.specs.declared.Refusal.{Refusal}
use Rattle.rules.specs.declared.Refusal.TheVariants.{NoSuchSlot, PoolFull, FreeListEmpty}
use Rattle.rules.specs.State.{Task, State, Outcome, accepted, need, by, with_task, with_free, with_pool, in_slot, has_slot, of_idle_task}

-- a reserve fills the pool up to four cells, as far as the free list goes
abbrev pub reservable : ℕ → Task → ℕ
reservable free t = min (4 - length t.pool) free

-- how many cells are to go to the pool from a free list of so many
abbrev pub reserve_checks : ℕ → ℕ → (ℕ → Option Task) → ℕ → Result ℕ Refusal
reserve_checks d free tasks m =
    need (has_slot d m) NoSuchSlot (of_idle_task (tasks m) (λ t.
    need (nat_lt (length t.pool) 4) PoolFull (need (nat_lt 0 free) FreeListEmpty (Ok (reservable free t)))))

-- the free list once k members were taken
abbrev pub left : ℕ → Hold → Hold
left zero h = h
left (suc k) h = taken_from (left k h)

-- the pool that they were added to, each as the free list chose it
abbrev pub drawn : ℕ → Hold → List ℕ → List ℕ
drawn zero h pool = pool
drawn (suc k) h pool = (left k h).manner.choice (left k h).members ∷ drawn k h pool

abbrev pub with_drawn : ℕ → Hold → Option Task → Option Task
with_drawn k h o = in_slot (λ t. with_pool t (drawn k h t.pool)) o

-- k cells go from the free list to the pool of task m
abbrev pub reserving : State → ℕ → ℕ → State
reserving s m k = with_free (with_task s m (with_drawn k s.free (s.tasks m))) (left k s.free)

abbrev pub reserve : ℕ → State → Outcome
reserve m s = by s (reserve_checks s.directory (length s.free.members) s.tasks m) (λ k. accepted k (reserving s m k))

-- how many cells are in the pool
abbrev pub give_back_checks : ℕ → (ℕ → Option Task) → ℕ → Result ℕ Refusal
give_back_checks d tasks m = need (has_slot d m) NoSuchSlot (of_idle_task (tasks m) (λ t. Ok (length t.pool)))

-- the free list once the numbers were put, one after the other
abbrev pub puts : Hold → List ℕ → Hold
puts h [] = h
puts h (x ∷ xs) = puts (put_into h x) xs

abbrev pub pool_in : Option Task → List ℕ
pool_in None = []
pool_in (Some t) = t.pool

abbrev pub with_pool_of : List ℕ → Option Task → Option Task
with_pool_of xs o = in_slot (λ t. with_pool t xs) o

abbrev pub give_back : ℕ → State → Outcome
give_back m s =
    by s (give_back_checks s.directory s.tasks m) (λ k. accepted k (with_free (with_task s m (with_pool_of [] (s.tasks m))) (puts s.free (pool_in (s.tasks m)))))
