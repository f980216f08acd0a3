-- The numbers of the refusals.
use Rattle.std.specs.Prelude.{ℕ}
use Rattle.rules.specs.declared.Refusal.{Refusal}
use Rattle.rules.specs.declared.Refusal.TheVariants.{MemorySize, DirectorySize, NoSuchSlot, NoSuchRegister, NoSuchLink, NoSuchDirectoryCell, UnfitBags, NoTask, SlotTaken, WorkUnfinished, StatusBehind, RegisterEmpty, PoolEmpty, PoolFull, FreeListEmpty, PoolNotEmpty, NothingToCarryOn, NoSuchMaking, NotSettled}

abbrev pub refusal_number : Refusal → ℕ
refusal_number MemorySize = 1
refusal_number DirectorySize = 2
refusal_number NoSuchSlot = 3
refusal_number NoSuchRegister = 4
refusal_number NoSuchLink = 5
refusal_number NoSuchDirectoryCell = 6
refusal_number UnfitBags = 10
refusal_number NoTask = 11
refusal_number SlotTaken = 12
refusal_number WorkUnfinished = 13
refusal_number StatusBehind = 14
refusal_number RegisterEmpty = 15
refusal_number PoolEmpty = 16
refusal_number PoolFull = 17
refusal_number FreeListEmpty = 18
refusal_number PoolNotEmpty = 19
refusal_number NothingToCarryOn = 20
refusal_number NoSuchMaking = 21
refusal_number NotSettled = 22
