-- A symbol memory as it begins.
use Rattle.std.specs.Prelude.{ℕ, zero, suc, ◌+◌, ◌-◌, Bool, false, cond, not, ◌&&◌, None, Ok, Result, nat_le, nat_lt}
use Rattle.cells.specs.declared.Colour.TheVariants.{Blue, White}
use Rattle.cells.specs.Memory.{Cells}
use Rattle.bags.specs.Holding.{Hold, has_member, put_into}
use Rattle.rules.specs.declared.Status.TheVariants.{Async}
use Rattle.rules.specs.declared.Stage.TheVariants.{Rest}
use Rattle.rules.specs.declared.Swept.TheVariants.{Past}
use Rattle.rules.specs.declared.Collector.{Collector}
use Rattle.rules.specs.declared.Refusal.{Refusal}
use Rattle.rules.specs.declared.Refusal.TheVariants.{MemorySize, DirectorySize, UnfitBags}
use Rattle.rules.specs.State.{State, Outcome, accepted, need, by}

abbrev pub resting : Collector
resting = record { status = Async; phase = Async; swept = Past; scanned = None; dirty = false; stage = Rest; next = 0; looked = false; hand = None }

-- before the set up there are no slots
abbrev pub not_set_up : Cells → ℕ → Hold → Hold → State
not_set_up m L free cache = record { cells = m; links = L; free = free; cache = cache; directory = 0; tasks = λ m. None; collector = resting }

-- of n cells the first d White, the others Blue; all links empty
abbrev pub blank : ℕ → ℕ → Cells
blank n d = record { size = n; colour = λ c. cond (nat_le d c && nat_lt c n) Blue White; link = λ c i. None }

-- k numbers put in rising order, from d on
abbrev pub rising : Hold → ℕ → ℕ → Hold
rising h d zero = h
rising h d (suc k) = put_into (rising h d k) (d + k)

abbrev pub begun : State → ℕ → State
begun s d = record {
  cells = blank s.cells.size d;
  links = s.links;
  free = rising s.free d (s.cells.size - d);
  cache = s.cache;
  directory = d;
  tasks = λ m. None;
  collector = resting;
}

-- the free list has a place for each cell that is not in the directory, the cache has one, and both are empty
abbrev pub fit_bags : State → ℕ → Bool
fit_bags s d = nat_le (s.cells.size - d) s.free.room && (nat_lt 0 s.cache.room && (not (has_member s.free) && not (has_member s.cache)))

abbrev pub set_up_checks : ℕ → State → Result (Unit {0}) Refusal
set_up_checks d s =
    need (nat_lt 0 s.cells.size && nat_le s.cells.size 4096) MemorySize
    (need (nat_lt 0 d && (nat_le d 64 && nat_le d s.cells.size)) DirectorySize (need (fit_bags s d) UnfitBags (Ok tt)))

abbrev pub set_up : ℕ → State → Outcome
set_up d s = by s (set_up_checks d s) (λ _. accepted 0 (begun s d))
