-- The collector's turn, by its stage. It is never refused: it answers 0 where it waits, 1 where it works, 2 where it returns to Rest.
use Rattle.std.specs.Prelude.{ℕ, zero, suc, ◌+◌, Bool, true, false, cond, not, ◌&&◌, ◌||◌, Some, None, Option, ◌==◌, nat_lt}
use Rattle.cells.specs.declared.Colour.{Colour}
use Rattle.cells.specs.declared.Colour.TheVariants.{Blue, White, Grey, Black}
use Rattle.cells.specs.Memory.{coloured}
use Rattle.bags.specs.Holding.{has_room, has_member, put_into, taken_from}
use Rattle.rules.specs.declared.Status.{Status}
use Rattle.rules.specs.declared.Status.TheVariants.{Async, Sync1, Sync2}
use Rattle.rules.specs.declared.Stage.{Stage}
use Rattle.rules.specs.declared.Stage.TheVariants.{Rest, Clear, Mark, Scan, Sweep}
use Rattle.rules.specs.declared.Swept.{Swept}
use Rattle.rules.specs.declared.Swept.TheVariants.{Before, At, Past}
use Rattle.rules.specs.declared.Hand.{Hand}
use Rattle.rules.specs.State.{Task, State, Outcome, accepted, with_cells, with_free, with_cache, with_collector}
use Rattle.rules.specs.Greying.{same_status, is_black, is_grey}
use Rattle.rules.specs.Changes.{with_dirty}

abbrev pub waits : State → Outcome
waits s = accepted 0 s

abbrev pub works : State → Outcome
works s = accepted 1 s

abbrev pub agrees : Status → Option Task → Bool
agrees q None = true
agrees q (Some t) = same_status t.status q

-- the tasks in the first k slots have the status q
abbrev pub agree_to : ℕ → Status → (ℕ → Option Task) → Bool
agree_to zero q tasks = true
agree_to (suc k) q tasks = agrees q (tasks k) && agree_to k q tasks

abbrev pub all_agree : State → Bool
all_agree s = agree_to 8 s.collector.status s.tasks

-- dirty after a Grey cell v had no place in the cache: yes, if the scan is past it
abbrev pub overflowed : ℕ → Option ℕ → Bool → Bool
overflowed v None dirty = dirty
overflowed v (Some k) dirty = nat_lt v k || dirty

abbrev pub blacken : State → ℕ → State
blacken s v =
    cond (is_black (s.cells.colour v)) s (cond (has_room s.cache)
    (with_cache (with_cells s (coloured s.cells v Black)) (put_into s.cache v))
    (with_collector (with_cells s (coloured s.cells v Grey)) (with_dirty s.collector (overflowed v s.collector.scanned s.collector.dirty))))

abbrev pub blacken_if : State → Option ℕ → State
blacken_if s None = s
blacken_if s (Some v) = blacken s v

abbrev pub with_hand : State → Option Hand → State
with_hand s h = with_collector s (record { status = s.collector.status; phase = s.collector.phase; swept = s.collector.swept; scanned = s.collector.scanned; dirty = s.collector.dirty; stage = s.collector.stage; next = s.collector.next; looked = s.collector.looked; hand = h })

abbrev pub with_looked : State → Bool → State
with_looked s x = with_collector s (record { status = s.collector.status; phase = s.collector.phase; swept = s.collector.swept; scanned = s.collector.scanned; dirty = s.collector.dirty; stage = s.collector.stage; next = s.collector.next; looked = x; hand = s.collector.hand })

-- the hand at its next link, or empty after the last
abbrev pub next_hand : ℕ → ℕ → ℕ → Option Hand
next_hand L x i = cond (nat_lt (i + 1) L) (Some (record { cell = x; link = i + 1 })) None

-- where there is something to trace, a turn of it; the others otherwise
abbrev pub tracing : State → Option Hand → Outcome → Outcome
tracing s (Some h) others = works (with_hand (blacken_if s (s.cells.link h.cell h.link)) (next_hand s.links h.cell h.link))
tracing s None others =
    cond (has_member s.cache)
    (works (with_hand (with_cache s (taken_from s.cache)) (Some (record { cell = s.cache.manner.choice s.cache.members; link = 0 }))))
    others

abbrev pub after_sync : Status → Status
after_sync Async = Async
after_sync Sync1 = Sync1
after_sync Sync2 = Async

-- Rest: asks for Sync1
abbrev pub rest : State → Outcome
rest s = works (with_collector s (record { status = Sync1; phase = s.collector.phase; swept = s.collector.swept; scanned = s.collector.scanned; dirty = s.collector.dirty; stage = Clear; next = s.collector.next; looked = s.collector.looked; hand = s.collector.hand }))

-- Clear: once all agree, asks for Sync2 and begins to mark
abbrev pub clearing : State → Outcome
clearing s =
    cond (all_agree s)
    (works (with_collector s (record { status = Sync2; phase = Sync1; swept = Before; scanned = s.collector.scanned; dirty = s.collector.dirty; stage = Mark; next = 0; looked = s.collector.looked; hand = s.collector.hand })))
    (waits s)

-- Mark: on to the next phase, or trace, or the next directory cell, or on to Scan, or wait
abbrev pub next_phase : State → State
next_phase s = with_collector s (record { status = after_sync s.collector.status; phase = s.collector.status; swept = s.collector.swept; scanned = s.collector.scanned; dirty = s.collector.dirty; stage = s.collector.stage; next = s.collector.next; looked = s.collector.looked; hand = s.collector.hand })

abbrev pub with_next : State → ℕ → State
with_next s j = with_collector s (record { status = s.collector.status; phase = s.collector.phase; swept = s.collector.swept; scanned = s.collector.scanned; dirty = s.collector.dirty; stage = s.collector.stage; next = j; looked = s.collector.looked; hand = s.collector.hand })

abbrev pub scan_from : State → Bool → ℕ → State
scan_from s dirty k = with_collector s (record { status = s.collector.status; phase = s.collector.phase; swept = s.collector.swept; scanned = Some k; dirty = dirty; stage = Scan; next = s.collector.next; looked = false; hand = s.collector.hand })

abbrev pub marking : State → Outcome
marking s =
    cond (not (same_status s.collector.phase s.collector.status) && all_agree s) (works (next_phase s))
    (tracing s s.collector.hand
    (cond (nat_lt s.collector.next s.directory) (works (with_next (blacken s s.collector.next) (s.collector.next + 1)))
    (cond (same_status s.collector.phase Async) (works (scan_from s false 0)) (waits s))))

-- Scan: trace, or look at the cell at scanned, or on to the next cell; at n, once more if dirty, or on to Sweep
abbrev pub looking : State → ℕ → State
looking s k = with_looked (cond (is_grey (s.cells.colour k)) (blacken s k) s) true

abbrev pub sweep_from : State → State
sweep_from s = with_collector s (record { status = s.collector.status; phase = s.collector.phase; swept = At 0; scanned = None; dirty = s.collector.dirty; stage = Sweep; next = s.collector.next; looked = false; hand = s.collector.hand })

abbrev pub scanning : State → Option ℕ → Outcome
scanning s None = waits s
scanning s (Some k) =
    tracing s s.collector.hand
    (cond (nat_lt k s.cells.size)
    (cond s.collector.looked (works (scan_from s s.collector.dirty (k + 1))) (works (looking s k)))
    (cond s.collector.dirty (works (scan_from s false 0)) (works (sweep_from s))))

-- Sweep: Black and Grey become White, White becomes Blue and free; then the next cell, or back to Rest
abbrev pub swept : State → ℕ → Colour → State
swept s k Blue = with_looked s true
swept s k White = with_looked (with_free (with_cells s (coloured s.cells k Blue)) (put_into s.free k)) true
swept s k Grey = with_looked (with_cells s (coloured s.cells k White)) true
swept s k Black = with_looked (with_cells s (coloured s.cells k White)) true

abbrev pub sweep_to : State → Swept → Stage → State
sweep_to s place stage = with_collector s (record { status = s.collector.status; phase = s.collector.phase; swept = place; scanned = s.collector.scanned; dirty = s.collector.dirty; stage = stage; next = s.collector.next; looked = false; hand = s.collector.hand })

abbrev pub sweeping : State → Swept → Outcome
sweeping s Before = waits s
sweeping s (At k) =
    cond s.collector.looked
    (cond (nat_lt (k + 1) s.cells.size) (works (sweep_to s (At (k + 1)) Sweep)) (accepted 2 (sweep_to s Past Rest)))
    (works (swept s k (s.cells.colour k)))
sweeping s Past = waits s

abbrev pub by_stage : State → Stage → Outcome
by_stage s Rest = rest s
by_stage s Clear = clearing s
by_stage s Mark = marking s
by_stage s Scan = scanning s s.collector.scanned
by_stage s Sweep = sweeping s s.collector.swept

-- before the set up the collector waits
abbrev pub collect : State → Outcome
collect s = cond (s.directory == 0) (waits s) (by_stage s s.collector.stage)
