-- Runs of calls from a set up, and what is to hold at every moment of each.
use Rattle.std.specs.Prelude.{◌≡◌, ℕ, zero, suc, ◌+◌, ◌<◌, ◌≤◌, List, [], ◌∷◌, length, Ok, Option, ◌≢◌}
use Rattle.cells.specs.declared.Colour.TheVariants.{Blue}
use Rattle.cells.specs.Memory.{Sound as SoundMemory}
use Rattle.bags.specs.Holding.{copies, Sound as SoundBag}
use Rattle.rules.specs.declared.Stage.TheVariants.{Rest}
use Rattle.rules.specs.declared.Call.{Call}
use Rattle.rules.specs.declared.Call.TheVariants.{Collect}
use Rattle.rules.specs.State.{Task, State, accepted}
use Rattle.rules.specs.Pools.{pool_in}
use Rattle.rules.specs.SettingUp.{set_up}
use Rattle.rules.specs.Turns.{rule_of}
use Rattle.rules.specs.Reach.{InReach}

-- the number of those below n of which P holds is k
pub data Number (P : ℕ → Type 0) : ℕ → ℕ → Type 0 where
  none : Number P 0 0
  one : {n k : ℕ} → P n → Number P n k → Number P (suc n) (suc k)
  skip : {n k : ℕ} → ¬ (P n) → Number P n k → Number P (suc n) k

-- the moments of a run: its first state, and the state after each call
abbrev pub moments : State → List Call → List State
moments s [] = s ∷ []
moments s (c ∷ cs) = s ∷ moments (rule_of c s).after cs

abbrev pub AtEach : (State → Type 0) → List State → Type 0
AtEach P [] = Unit {0}
AtEach P (s ∷ ss) = P s × AtEach P ss

-- no cell in reach is free
abbrev pub NoneFreed : State → Type 0
NoneFreed s = Number (λ c. InReach s c × (s.cells.colour c ≡ Blue)) s.cells.size 0

-- how many cells the pools of the first k slots hold, and how many copies of c
abbrev pub pooled : ℕ → (ℕ → Option Task) → ℕ
pooled zero tasks = 0
pooled (suc k) tasks = length (pool_in (tasks k)) + pooled k tasks

abbrev pub copies_pooled : ℕ → (ℕ → Option Task) → ℕ → ℕ
copies_pooled zero tasks c = 0
copies_pooled (suc k) tasks c = copies (pool_in (tasks k)) c + copies_pooled k tasks c

-- free list and pools together have as many members as there are free cells, and hold each of these exactly once
pub record HeldOnce (s : State) : Type 0 where
  pub total : Number (λ c. s.cells.colour c ≡ Blue) s.cells.size (length s.free.members + pooled 8 s.tasks)
  pub once : (c : ℕ) → c < s.cells.size → s.cells.colour c ≡ Blue → copies s.free.members c + copies_pooled 8 s.tasks c ≡ 1

-- these calls from s end with the k-th return of the collector
pub data ToReturn : ℕ → State → List Call → Type 0 where
  last : {s : State} → (rule_of Collect s).answer ≡ Ok 2 → ToReturn 1 s (Collect ∷ [])
  returned : {k : ℕ} {s : State} {cs : List Call} → (rule_of Collect s).answer ≡ Ok 2 → ToReturn k (rule_of Collect s).after cs → ToReturn (suc k) s (Collect ∷ cs)
  goes : {k : ℕ} {s : State} {c : Call} {cs : List Call} → (c ≡ Collect → (rule_of c s).answer ≢ Ok 2) → ToReturn k (rule_of c s).after cs → ToReturn k s (c ∷ cs)

-- where the collector leaves Rest and returns twice, each cell that is out of reach as it leaves has been free
abbrev pub GarbageFreed : State → Type 0
GarbageFreed s =
    (calls : List Call) → s.collector.stage ≡ Rest → ToReturn 2 s (Collect ∷ calls)
    → Number (λ c. (¬ (InReach s c)) × AtEach (λ t. ¬ (t.cells.colour c ≡ Blue)) (moments s (Collect ∷ calls))) s.cells.size 0

pub record Sound (s : State) : Type 0 where
  pub none_freed : NoneFreed s
  pub garbage_freed : GarbageFreed s
  pub held_once : HeldOnce s

-- every list of calls from s is sound at every moment
abbrev pub Lawful : State → Type 0
Lawful s = (calls : List Call) → AtEach Sound (moments s calls)

-- a state as an accepted set up leaves it, over any cell memory and any two bags that keep their meaning
pub record JustSetUp (s : State) : Type 0 where
  pub before : State
  pub d : ℕ
  pub accepts : set_up d before ≡ accepted 0 s
  pub memory : SoundMemory before.links before.cells
  pub few : (1 ≤ before.links) × (before.links ≤ 8)
  pub free : SoundBag before.free
  pub cache : SoundBag before.cache

abbrev pub LawOfRuns : Type 0
LawOfRuns = (s : State) → JustSetUp s → Lawful s
