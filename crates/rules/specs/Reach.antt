-- Which cells are in reach: the directory, what registers of present tasks hold, cells being made, and what a link of a cell in reach names.
use Rattle.std.specs.Prelude.{◌≡◌, ℕ, ◌<◌, Bool, Some}
use Rattle.cells.specs.Memory.{Cells}
use Rattle.rules.specs.declared.Work.TheVariants.{Making}
use Rattle.rules.specs.State.{Task, State}

-- a root, or at the end of a way from one
pub data From (root : ℕ → Type 0) (edge : ℕ → ℕ → Type 0) : ℕ → Type 0 where
  start : {c : ℕ} → root c → From root edge c
  along : {x c : ℕ} → From root edge x → edge x c → From root edge c

pub data Root (s : State) (c : ℕ) : Type 0 where
  directory : c < s.directory → Root s c
  register : (m j : ℕ) {t : Task} → s.tasks m ≡ Some t → t.registers j ≡ Some c → Root s c
  making : (m : ℕ) (settled : Bool) {t : Task} → s.tasks m ≡ Some t → t.work ≡ Some (Making c settled) → Root s c

-- a link of cell x names cell c
abbrev pub Names : Cells → ℕ → ℕ → Type 0
Names m x c = (i : ℕ) × (m.link x i ≡ Some c)

abbrev pub InReach : State → ℕ → Type 0
InReach s = From (Root s) (Names s.cells)
