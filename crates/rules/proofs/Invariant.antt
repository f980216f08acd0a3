-- What is to last from moment to moment of a run, and carries its three promises.
use Rattle.std.proofs.Common.{◌≡◌, ℕ, ◌+◌, ◌<◌, ◌≤◌, Bool, true, false, ◌≢◌, ◌⊎◌, length, Some, None, Option}
use Rattle.cells.specs.declared.Colour.TheVariants.{Blue, White, Black}
use Rattle.cells.specs.Memory.{Sound as SoundMemory}
use Rattle.bags.specs.Holding.{copies, Fair}
use Rattle.rules.specs.declared.Status.TheVariants.{Async, Sync2}
use Rattle.rules.specs.declared.Stage.TheVariants.{Rest, Clear, Mark, Scan, Sweep}
use Rattle.rules.specs.declared.Step.{Step}
use Rattle.rules.specs.declared.Step.TheVariants.{Grey as GreyStep, Warn, Store}
use Rattle.rules.specs.declared.Work.{Work}
use Rattle.rules.specs.declared.Work.TheVariants.{Change, Making}
use Rattle.rules.specs.declared.Hand.{Hand}
use Rattle.rules.specs.State.{Task, State}
use Rattle.rules.proofs.Accounts.{Account}
use Rattle.rules.proofs.Places.{Places}
use Rattle.rules.proofs.Words.{Made, Shaded, Kept, Passed, Used, Busy, FirstHalf, SecondHalf, InHand, Marked}

-- a task that makes a cell has one less in its pool
abbrev pub taken : Option Work → ℕ
taken None = 0
taken (Some (Change x i y step)) = 0
taken (Some (Making x settled)) = 1

-- sizes and numbers: nothing lies outside the table, the slots or the registers, and each free cell is held once
pub record Structure (s : State) : Type 0 where
  pub some : 0 < s.directory
  pub within : s.directory ≤ s.cells.size
  pub memory : SoundMemory s.links s.cells
  pub links : 1 ≤ s.links
  pub free_fair : Fair s.free.manner
  pub cache_fair : Fair s.cache.manner
  pub free_room : s.cells.size ≤ s.free.room + s.directory
  pub cache_room : 0 < s.cache.room
  pub slots : (m : ℕ) → 8 ≤ m → s.tasks m ≡ None
  pub registers : (m j : ℕ) (t : Task) → s.tasks m ≡ Some t → 8 ≤ j → t.registers j ≡ None
  pub pools : (m : ℕ) (t : Task) → s.tasks m ≡ Some t → length t.pool + taken t.work ≤ 4
  pub account : Account s

-- what stage, statuses, sweep, scan, hand and cache can be together
pub record Control (s : State) : Type 0 where
  pub places : Places s.collector.stage s.collector.status s.collector.phase s.collector.swept s.collector.scanned s.cells.size
  pub nothing_traced : s.collector.stage ≢ Mark → s.collector.stage ≢ Scan → ¬ (Busy s)
  pub statuses : (m : ℕ) (t : Task) → s.tasks m ≡ Some t → (t.status ≡ s.collector.status) ⊎ (t.status ≡ s.collector.phase)
  pub scan_looked : s.collector.stage ≡ Scan → Busy s → (k : ℕ) → s.collector.scanned ≡ Some k → (k < s.cells.size) × (s.collector.looked ≡ true) × Kept s k

-- unfinished changes and makings
pub record Works (s : State) : Type 0 where
  pub cell_held : (m x i : ℕ) (y : Option ℕ) (step : Step) (t : Task) → s.tasks m ≡ Some t → t.work ≡ Some (Change x i y step) → (j : ℕ) × (t.registers j ≡ Some x)
  pub value_held : (m x i c : ℕ) (step : Step) (t : Task) → s.tasks m ≡ Some t → t.work ≡ Some (Change x i (Some c) step) → (j : ℕ) × (t.registers j ≡ Some c)
  pub link_there : (m x i : ℕ) (y : Option ℕ) (step : Step) (t : Task) → s.tasks m ≡ Some t → t.work ≡ Some (Change x i y step) → i < s.links
  pub grey_step : (m x i : ℕ) (y : Option ℕ) (t : Task) → s.tasks m ≡ Some t → t.work ≡ Some (Change x i y GreyStep) → t.status ≢ Async
  pub warn_step : (m x i old : ℕ) (y : Option ℕ) (t : Task) → s.tasks m ≡ Some t → t.work ≡ Some (Change x i y (Warn old)) → t.status ≡ Async
  pub made_apart : (x : ℕ) → Made s x → (s.directory ≤ x) × (x < s.cells.size) × (s.cells.colour x ≢ Blue)
  pub made_once : (m k x : ℕ) (a b : Bool) (t u : Task) → s.tasks m ≡ Some t → t.work ≡ Some (Making x a) → s.tasks k ≡ Some u → u.work ≡ Some (Making x b) → m ≡ k

-- what can be touched is neither free nor being made
abbrev pub Safe : State → Type 0
Safe s = (c : ℕ) → Used s c → (c < s.cells.size) × (s.cells.colour c ≢ Blue) × (¬ (Made s c))

-- the colours of cells being made
pub record NewCells (s : State) : Type 0 where
  pub unsettled : (m x : ℕ) (t : Task) → s.tasks m ≡ Some t → t.work ≡ Some (Making x false) → t.status ≢ Async → s.cells.colour x ≡ Black
  pub settled : (m x : ℕ) (t : Task) → s.tasks m ≡ Some t → t.work ≡ Some (Making x true) → t.status ≢ Async → s.cells.colour x ≡ White
  pub in_mark : (m x : ℕ) (a : Bool) (t : Task) → s.tasks m ≡ Some t → t.work ≡ Some (Making x a) → t.status ≡ Async → s.collector.stage ≡ Mark → s.cells.colour x ≡ Black
  pub in_scan : (m x : ℕ) (a : Bool) (t : Task) → s.tasks m ≡ Some t → t.work ≡ Some (Making x a) → t.status ≡ Async → s.collector.stage ≡ Scan → s.cells.colour x ≡ Black

-- x is being made and not settled
abbrev pub Unsettled : State → ℕ → Type 0
Unsettled s x = (m : ℕ) × ((t : Task) × ((s.tasks m ≡ Some t) × (t.work ≡ Some (Making x false))))

-- the collector's own cells, and what the sweep has done
pub record Sweeps (s : State) : Type 0 where
  pub cached : (c : ℕ) → 0 < copies s.cache.members c → Kept s c
  pub in_hand : (h : Hand) → s.collector.hand ≡ Some h → Kept s h.cell × (h.link < s.links)
  pub rest_black : s.collector.stage ≡ Rest → (x : ℕ) → s.cells.colour x ≡ Black → Unsettled s x
  pub clear_black : s.collector.stage ≡ Clear → (x : ℕ) → s.cells.colour x ≡ Black → Unsettled s x
  pub behind : s.collector.stage ≡ Sweep → (x : ℕ) → Passed s x → s.cells.colour x ≡ Black → Unsettled s x
  pub ahead_used : s.collector.stage ≡ Sweep → (x : ℕ) → Used s x → s.cells.colour x ≡ White → Passed s x
  pub ahead_made : s.collector.stage ≡ Sweep → (x : ℕ) → Made s x → s.cells.colour x ≡ White → Passed s x
  pub new_value : (m x i c : ℕ) (t : Task) → s.tasks m ≡ Some t → t.work ≡ Some (Change x i (Some c) Store) → t.status ≢ Async → Shaded s c
  pub directory : s.collector.stage ≡ Mark → (c : ℕ) → c < s.collector.next → c < s.directory → Shaded s c

-- the first half of marking: a Black cell names shaded cells, but for the links that are still to be followed
pub record MarksFirst (s : State) : Type 0 where
  pub black_to_shaded : (x i c : ℕ) → Kept s x → s.cells.colour x ≡ Black → ¬ (0 < copies s.cache.members x) → ¬ (InHand s x i) → s.cells.link x i ≡ Some c → Shaded s c
  pub changed_link : (m x i c : ℕ) (y : Option ℕ) (step : Step) (t : Task) → s.tasks m ≡ Some t → t.work ≡ Some (Change x i y step) → t.status ≡ Sync2 → s.cells.link x i ≡ Some c → Shaded s c

-- the second half: what is found or still to be found is closed under links, over the fields that were cut
pub record MarksSecond (s : State) (Cut : ℕ → ℕ → Bool) : Type 0 where
  pub closed : (x i c : ℕ) → Marked s Cut x → s.cells.link x i ≡ Some c → Marked s Cut c
  pub registers : (m j c : ℕ) (t : Task) → s.tasks m ≡ Some t → t.status ≡ Async → t.registers j ≡ Some c → Marked s Cut c
  pub filled : (m x i c : ℕ) (a : Bool) (t : Task) → s.tasks m ≡ Some t → t.status ≡ Async → t.work ≡ Some (Making x a) → s.cells.link x i ≡ Some c → Marked s Cut c
  pub directory : (c : ℕ) → c < s.directory → Marked s Cut c
  pub cut_names : (x i c : ℕ) → Cut x i ≡ true → s.cells.link x i ≡ Some c → Marked s Cut c
  pub cut_cell : (x i : ℕ) → Cut x i ≡ true → (s.cells.colour x ≢ Blue) × (¬ (Made s x))
  pub sync_cut : (m x i : ℕ) (y : Option ℕ) (step : Step) (t : Task) → s.tasks m ≡ Some t → t.work ≡ Some (Change x i y step) → t.status ≡ Sync2 → Cut x i ≡ true
  pub store_cut : (m x i : ℕ) (y : Option ℕ) (t : Task) → s.tasks m ≡ Some t → t.work ≡ Some (Change x i y Store) → Cut x i ≡ true
  pub warn_cut : (m x i old : ℕ) (y : Option ℕ) (t : Task) → s.tasks m ≡ Some t → t.work ≡ Some (Change x i y (Warn old)) → (Cut x i ≡ true) ⊎ ((s.cells.link x i ≡ Some old) × Shaded s old)

pub record Invariant (s : State) : Type 0 where
  pub structure : Structure s
  pub control : Control s
  pub works : Works s
  pub safe : Safe s
  pub new_cells : NewCells s
  pub sweeps : Sweeps s
  pub first_half : FirstHalf s → MarksFirst s
  pub Cut : ℕ → ℕ → Bool
  pub second_half : SecondHalf s → MarksSecond s Cut
