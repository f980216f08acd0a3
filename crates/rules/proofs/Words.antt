-- The words that the invariant of a run is told in. They look at the parts of a state that they need, so that a turn which
-- leaves a part alone leaves them alone.
use Rattle.std.proofs.Common.{◌≡◌, ℕ, ◌<◌, ◌≤◌, Bool, true, false, ◌≢◌, ◌⊎◌, length, Some, None, Option}
use Rattle.cells.specs.declared.Colour.{Colour}
use Rattle.cells.specs.declared.Colour.TheVariants.{Blue, White, Grey, Black}
use Rattle.cells.specs.Memory.{Cells}
use Rattle.bags.specs.Holding.{Hold, copies}
use Rattle.rules.specs.declared.Status.TheVariants.{Sync1}
use Rattle.rules.specs.declared.Stage.TheVariants.{Mark, Scan}
use Rattle.rules.specs.declared.Swept.TheVariants.{At}
use Rattle.rules.specs.declared.Collector.{Collector}
use Rattle.rules.specs.declared.Work.TheVariants.{Making}
use Rattle.rules.specs.State.{Task, State}
use Rattle.rules.specs.Reach.{From, Names}

-- x is being made
pub data MadeBy (tasks : ℕ → Option Task) (x : ℕ) : Type 0 where
  made_by : (m : ℕ) (settled : Bool) {t : Task} → tasks m ≡ Some t → t.work ≡ Some (Making x settled) → MadeBy tasks x

abbrev pub is_shaded : Colour → Bool
is_shaded Blue = false
is_shaded White = false
is_shaded Grey = true
is_shaded Black = true

-- the sweep is past x
pub data PassedBy (co : Collector) (x : ℕ) : Type 0 where
  behind : {k : ℕ} → co.swept ≡ At k → x < k → PassedBy co x
  looked_at : co.swept ≡ At x → co.looked ≡ true → PassedBy co x

-- the collector has a cell to trace from
pub data Traces (co : Collector) (cache : Hold) : Type 0 where
  in_hand : co.hand ≢ None → Traces co cache
  in_cache : 0 < length cache.members → Traces co cache

-- the hand is at cell x and has link i still to follow
pub data Holding (co : Collector) (x i : ℕ) : Type 0 where
  ahead_of : {j : ℕ} → co.hand ≡ Some (record { cell = x; link = j }) → j ≤ i → Holding co x i

-- over the cells, the collector with its cache, the number d of directory cells, and what is being made
module _ (m : Cells) (cache : Hold) (co : Collector) (d : ℕ) (made : ℕ → Type 0) where
  -- shaded, and not being made
  abbrev pub KeptOf : ℕ → Type 0
  KeptOf x = (is_shaded (m.colour x) ≡ true) × (¬ (made x))

  -- cells that the marking will still start from
  pub data PendingOf (c : ℕ) : Type 0 where
    cached : 0 < copies cache.members c → PendingOf c
    grey_in_mark : co.stage ≡ Mark → KeptOf c → m.colour c ≡ Grey → PendingOf c
    in_directory : co.stage ≡ Mark → co.next ≤ c → c < d → m.colour c ≢ Black → PendingOf c
    ahead : {k : ℕ} → co.stage ≡ Scan → co.scanned ≡ Some k → k < c → KeptOf c → m.colour c ≡ Grey → PendingOf c
    at_scan : co.stage ≡ Scan → co.scanned ≡ Some c → co.looked ≡ false → KeptOf c → m.colour c ≡ Grey → PendingOf c
    dirty : co.stage ≡ Scan → co.dirty ≡ true → KeptOf c → m.colour c ≡ Grey → PendingOf c

  -- a field that is not cut leads from x to c, which is not Black, nor the cell at scanned that Scan has looked at
  pub record FollowsOf (Cut : ℕ → ℕ → Bool) (x c : ℕ) : Type 0 where
    pub link : ℕ
    pub names : m.link x link ≡ Some c
    pub uncut : Cut x link ≡ false
    pub not_black : m.colour c ≢ Black
    pub not_at_scan : ¬ ((co.stage ≡ Scan) × (co.scanned ≡ Some c) × Traces co cache)

  -- what the marking is still to blacken starts at pending cells and at what the hand follows
  pub data TraceRoot (Cut : ℕ → ℕ → Bool) (c : ℕ) : Type 0 where
    pending : PendingOf c → TraceRoot Cut c
    by_hand : (x : ℕ) (f : FollowsOf Cut x c) → Holding co x f.link → TraceRoot Cut c

  -- found already, or still to be found
  abbrev pub MarkedOf : (ℕ → ℕ → Bool) → ℕ → Type 0
  MarkedOf Cut c = KeptOf c ⊎ From (TraceRoot Cut) (FollowsOf Cut) c

-- the same words of a state
abbrev pub Made : State → ℕ → Type 0
Made s = MadeBy s.tasks

abbrev pub Shaded : State → ℕ → Type 0
Shaded s x = is_shaded (s.cells.colour x) ≡ true

abbrev pub Kept : State → ℕ → Type 0
Kept s = KeptOf s.cells s.cache s.collector s.directory (Made s)

abbrev pub Passed : State → ℕ → Type 0
Passed s = PassedBy s.collector

abbrev pub Busy : State → Type 0
Busy s = Traces s.collector s.cache

abbrev pub InHand : State → ℕ → ℕ → Type 0
InHand s = Holding s.collector

abbrev pub Pending : State → ℕ → Type 0
Pending s = PendingOf s.cells s.cache s.collector s.directory (Made s)

abbrev pub Follows : State → (ℕ → ℕ → Bool) → ℕ → ℕ → Type 0
Follows s = FollowsOf s.cells s.cache s.collector s.directory (Made s)

abbrev pub TracedRoot : State → (ℕ → ℕ → Bool) → ℕ → Type 0
TracedRoot s = TraceRoot s.cells s.cache s.collector s.directory (Made s)

-- what the marking is still to blacken
abbrev pub Traced : State → (ℕ → ℕ → Bool) → ℕ → Type 0
Traced s Cut = From (TracedRoot s Cut) (Follows s Cut)

abbrev pub Marked : State → (ℕ → ℕ → Bool) → ℕ → Type 0
Marked s = MarkedOf s.cells s.cache s.collector s.directory (Made s)

-- what a task or the collector can touch next: the directory, registers, kept cells, what a cell being made names, and all that
-- these lead to
pub data UsedRootOf (m : Cells) (tasks : ℕ → Option Task) (d c : ℕ) : Type 0 where
  directory : c < d → UsedRootOf m tasks d c
  register : (k j : ℕ) {t : Task} → tasks k ≡ Some t → t.registers j ≡ Some c → UsedRootOf m tasks d c
  kept : (is_shaded (m.colour c) ≡ true) × (¬ (MadeBy tasks c)) → UsedRootOf m tasks d c
  filled : {x : ℕ} (i : ℕ) → MadeBy tasks x → m.link x i ≡ Some c → UsedRootOf m tasks d c

abbrev pub UsedRoot : State → ℕ → Type 0
UsedRoot s = UsedRootOf s.cells s.tasks s.directory

abbrev pub Used : State → ℕ → Type 0
Used s = From (UsedRoot s) (Names s.cells)

-- the first half of marking, in which a task that has replied may still write what another has not seen
abbrev pub FirstHalf : State → Type 0
FirstHalf s = (s.collector.stage ≡ Mark) × (s.collector.phase ≡ Sync1)

-- the second half: every task has seen the marking begin
pub data SecondHalfOf (co : Collector) : Type 0 where
  mark : co.stage ≡ Mark → co.phase ≢ Sync1 → SecondHalfOf co
  scan : co.stage ≡ Scan → SecondHalfOf co

abbrev pub SecondHalf : State → Type 0
SecondHalf s = SecondHalfOf s.collector
