-- What is looked for in a task, and one cell on its way between the free list and a pool.
use Rattle.std.specs.Prelude.{ℕ, Bool, cond, length, Some, None, Ok, Option, Result, ◌==◌, nat_lt}
use Rattle.bags.specs.Holding.{has_member, put_into, taken_from}
use Rattle.rules.specs.declared.Refusal.{Refusal}
use Rattle.rules.specs.declared.Refusal.TheVariants.{PoolFull, FreeListEmpty, NoSuchMaking}
use Rattle.rules.specs.State.{Task, State, need, of_idle_task, with_task, with_free}
use Rattle.rules.specs.Makings.{of_making}
use Rattle.rules.specs.Pools.{reservable}
use Rattle.tasks.specs.Parts.{with_grown, newest_in, with_older}

-- the free list's choice goes to the pool of task m
abbrev pub drawing : ℕ → State → State
drawing m s =
    cond (has_member s.free) (with_free (with_task s m (with_grown (s.tasks m) (s.free.manner.choice s.free.members))) (taken_from s.free)) s

abbrev pub put_back : State → Option ℕ → State
put_back s None = s
put_back s (Some x) = with_free s (put_into s.free x)

-- the last added cell of the pool of task m goes to the free list
abbrev pub returning : ℕ → State → State
returning m s = put_back (with_task s m (with_older (s.tasks m))) (newest_in (s.tasks m))

-- how many cells are to go to the pool of a task from a free list of so many
abbrev pub reservable_of : ℕ → Option Task → Result ℕ Refusal
reservable_of free o =
    of_idle_task o (λ t. need (nat_lt (length t.pool) 4) PoolFull (need (nat_lt 0 free) FreeListEmpty (Ok (reservable free t))))

-- whether cell x, which a task is to be making, is settled
abbrev pub settled_of : Option Task → ℕ → Result Bool Refusal
settled_of o x = of_making o (λ t z settled. need (z == x) NoSuchMaking (Ok settled))
