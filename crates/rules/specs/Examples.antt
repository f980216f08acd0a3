-- The worked examples of the rules, as one statement about the definitions.
use Rattle.std.specs.Prelude.{◌≡◌, ℕ, zero, suc, ◌+◌, ◌<◌, ◌≤◌, Bool, true, false, cond, List, [], ◌∷◌, length, Some, None, Ok, Err, Option, Result, ◌==◌}
use Rattle.cells.specs.declared.Colour.TheVariants.{White, Grey, Black}
use Rattle.cells.specs.Stretch.{cells_in_bytes, bytes_coloured, bytes_linked}
use Rattle.bags.specs.Holding.{has_room}
use Rattle.bags.specs.Rounds.{empty_ring}
use Rattle.rules.specs.declared.Status.TheVariants.{Async, Sync1}
use Rattle.rules.specs.declared.Swept.{Swept}
use Rattle.rules.specs.declared.Swept.TheVariants.{Before, At, Past}
use Rattle.rules.specs.declared.Refusal.{Refusal}
use Rattle.rules.specs.declared.Refusal.TheVariants.{MemorySize, DirectorySize}
use Rattle.rules.specs.State.{State, accepted, refused}
use Rattle.rules.specs.SettingUp.{begun, fit_bags, resting, set_up}
use Rattle.rules.specs.Greying.{is_black}
use Rattle.rules.specs.Changes.{settled_colour, warned}
use Rattle.rules.specs.Collecting.{blacken, collect}

-- one directory cell whose link 0, of L, names the cell itself; no task, and a cache of 32 places
abbrev pub loop : ℕ → State
loop L = record {
  cells = record { size = 1; colour = λ c. White; link = λ c i. cond (c == 0) (cond (i == 0) (Some 0) None) None };
  links = L;
  free = empty_ring;
  cache = empty_ring;
  directory = 1;
  tasks = λ m. None;
  collector = resting;
}

abbrev pub is_return : Result ℕ Refusal → Bool
is_return (Ok k) = k == 2
is_return (Err e) = false

abbrev pub later : Option ℕ → Option ℕ
later None = None
later (Some k) = Some (suc k)

-- the number of the first collect, of at most so many, that answers 2
abbrev pub first_return : ℕ → State → Option ℕ
first_return zero s = None
first_return (suc most) s = cond (is_return (collect s).answer) (Some 1) (later (first_return most (collect s).after))

-- cell 0 of twelve bytes Grey, with links 1 and empty
abbrev pub grey_in_bytes : List ℕ → List ℕ
grey_in_bytes bytes = bytes_linked (bytes_linked (bytes_coloured bytes 0 Grey) 0 0 (Some 1)) 0 1 None

pub record WorkedExamples : Type 0 where
  -- set up at its limits
  pub cells_4096 : (s : State) (d : ℕ) → s.cells.size ≡ 4096 → 0 < d → d ≤ 64 → fit_bags s d ≡ true → set_up d s ≡ accepted 0 (begun s d)
  pub cells_4097 : (s : State) (d : ℕ) → s.cells.size ≡ 4097 → set_up d s ≡ refused MemorySize s
  pub directory_64 : (s : State) → s.cells.size ≡ 64 → fit_bags s 64 ≡ true → set_up 64 s ≡ accepted 0 (begun s 64)
  pub directory_none : (s : State) → 0 < s.cells.size → s.cells.size ≤ 4096 → set_up 0 s ≡ refused DirectorySize s
  pub directory_65 : (s : State) → 0 < s.cells.size → s.cells.size ≤ 4096 → set_up 65 s ≡ refused DirectorySize s
  pub directory_past_all : (s : State) → 0 < s.cells.size → s.cells.size ≤ 4096 → set_up (s.cells.size + 1) s ≡ refused DirectorySize s
  -- settling cell 5
  pub settle_above : settled_colour Async (At 4) 5 ≡ Black
  pub settle_at : settled_colour Async (At 5) 5 ≡ Grey
  pub settle_below : settled_colour Async (At 6) 5 ≡ White
  pub settle_unswept : settled_colour Async Before 5 ≡ Black
  pub settle_swept : settled_colour Async Past 5 ≡ White
  pub settle_sync : (swept : Swept) → settled_colour Sync1 swept 5 ≡ White
  -- the warning about cell 5
  pub warn_above : (dirty : Bool) → warned 5 (Some 4) dirty ≡ dirty
  pub warn_unscanned : (dirty : Bool) → warned 5 None dirty ≡ dirty
  pub warn_at : (dirty : Bool) → warned 5 (Some 5) dirty ≡ true
  -- blackening cell 3 while the cache is full
  pub overflow_at : (s : State) → is_black (s.cells.colour 3) ≡ false → has_room s.cache ≡ false → s.collector.scanned ≡ Some 3 → (blacken s 3).collector.dirty ≡ s.collector.dirty
  pub overflow_passed : (s : State) → is_black (s.cells.colour 3) ≡ false → has_room s.cache ≡ false → s.collector.scanned ≡ Some 4 → (blacken s 3).collector.dirty ≡ true
  -- a cycle of 12 + L turns, so 16 on board and 14 on byte memory
  pub cycle : (L : ℕ) → 1 ≤ L → L ≤ 8 → first_return 20 (loop L) ≡ Some (12 + L)
  pub cycle_board : first_return 20 (loop 4) ≡ Some 16
  pub cycle_bytes : first_return 20 (loop 2) ≡ Some 14
  -- the byte layout
  pub twelve_bytes : (bytes : List ℕ) → length bytes ≡ 12 → cells_in_bytes bytes ≡ 2
  pub grey_bytes : (a b c d e f g h i j k l : ℕ) → grey_in_bytes (a ∷ b ∷ c ∷ d ∷ e ∷ f ∷ g ∷ h ∷ i ∷ j ∷ k ∷ l ∷ []) ≡ 2 ∷ 0 ∷ 1 ∷ 255 ∷ 255 ∷ f ∷ g ∷ h ∷ i ∷ j ∷ k ∷ l ∷ []
