-- Cells that are made: make, fill, finish and scrap. A ticket is the pair of the slot m and the cell x.
use Rattle.std.specs.Prelude.{ℕ, Bool, false, List, [], ◌∷◌, Some, None, Ok, Err, Option, Result, ◌==◌, nat_lt}
use Rattle.cells.specs.declared.Colour.TheVariants.{Blue, Black}
use Rattle.cells.specs.Memory.{Cells, at, coloured, linked}
use Rattle.rules.specs.declared.Work.{Work}
use Rattle.rules.specs.declared.Work.TheVariants.{Change, Making}
use Rattle.rules.specs.declared.Refusal.{Refusal}
use Rattle.rules.specs.declared.Refusal.TheVariants.{NoSuchSlot, NoSuchRegister, NoSuchLink, NoTask, WorkUnfinished, PoolEmpty, NoSuchMaking, NotSettled}
use Rattle.rules.specs.State.{Task, State, Outcome, accepted, need, by, with_cells, with_task, with_register, with_pool, with_work, grown, in_slot, has_slot, is_register, of_idle_task}

-- the last added cell of a pool, and the others
abbrev pub newest_of : List ℕ → Result ℕ Refusal
newest_of [] = Err PoolEmpty
newest_of (x ∷ xs) = Ok x

abbrev pub older_of : List ℕ → List ℕ
older_of [] = []
older_of (x ∷ xs) = xs

-- the cell that is to be made
abbrev pub make_checks : ℕ → (ℕ → Option Task) → ℕ → Result ℕ Refusal
make_checks d tasks m = need (has_slot d m) NoSuchSlot (of_idle_task (tasks m) (λ t. newest_of t.pool))

-- all links of cell x empty
abbrev pub unlinked : Cells → ℕ → Cells
unlinked m x = record { size = m.size; colour = m.colour; link = at x (λ i. None) m.link }

abbrev pub begin_making : ℕ → Task → Task
begin_making x t = with_work (with_pool t (older_of t.pool)) (Some (Making x false))

abbrev pub make : ℕ → State → Outcome
make m s =
    by s (make_checks s.directory s.tasks m) (λ x.
    accepted x (with_cells (with_task s m (in_slot (begin_making x) (s.tasks m))) (unlinked (coloured s.cells x Black) x)))

-- 13 and 21: a making, of which cell and whether it is settled
abbrev pub making_in : {A : Type 0} → Option Work → (ℕ → Bool → Result A Refusal) → Result A Refusal
making_in None next = Err NoSuchMaking
making_in (Some (Change x i y step)) next = Err WorkUnfinished
making_in (Some (Making x settled)) next = next x settled

abbrev pub of_making : {A : Type 0} → Option Task → (Task → ℕ → Bool → Result A Refusal) → Result A Refusal
of_making None next = Err NoTask
of_making (Some t) next = making_in t.work (next t)

-- the cell being made, and what its link i, one of L, is to hold
abbrev pub fill_checks : ℕ → ℕ → (ℕ → Option Task) → ℕ → ℕ → ℕ → Result (ℕ × Option ℕ) Refusal
fill_checks d L tasks m i a =
    need (has_slot d m) NoSuchSlot (need (is_register a) NoSuchRegister (need (nat_lt i L) NoSuchLink
    (of_making (tasks m) (λ t x settled. Ok (x, t.registers a)))))

abbrev pub fill : ℕ → ℕ → ℕ → State → Outcome
fill m i a s =
    by s (fill_checks s.directory s.links s.tasks m i a) (λ f. accepted 0 (with_cells s (linked s.links s.cells f.0 i f.1)))

abbrev pub finish_checks : ℕ → (ℕ → Option Task) → ℕ → ℕ → ℕ → Result (Unit {0}) Refusal
finish_checks d tasks m x b =
    need (has_slot d m) NoSuchSlot (need (is_register b) NoSuchRegister
    (of_making (tasks m) (λ t z settled. need (z == x) NoSuchMaking (need settled NotSettled (Ok tt)))))

abbrev pub finish : ℕ → ℕ → ℕ → State → Outcome
finish m x b s =
    by s (finish_checks s.directory s.tasks m x b) (λ _.
    accepted 0 (with_task s m (in_slot (λ t. with_work (with_register t b (Some x)) None) (s.tasks m))))

abbrev pub scrap_checks : ℕ → (ℕ → Option Task) → ℕ → ℕ → Result (Unit {0}) Refusal
scrap_checks d tasks m x = need (has_slot d m) NoSuchSlot (of_making (tasks m) (λ t z settled. need (z == x) NoSuchMaking (Ok tt)))

abbrev pub scrap : ℕ → ℕ → State → Outcome
scrap m x s =
    by s (scrap_checks s.directory s.tasks m x) (λ _.
    accepted 0 (with_cells (with_task s m (in_slot (λ t. with_work (with_pool t (grown t.pool x)) None) (s.tasks m))) (coloured s.cells x Blue)))
