-- What each line of a script is answered, and what it makes of the symbol memory.
use Rattle.std.specs.Prelude.{◌≡◌, ℕ, ◌%◌, Ok, Err, Result, slice_index}
use Rattle.cells.specs.declared.CellMemory.{Ghosts as MemoryGhosts}
use Rattle.cells.specs.declared.Colour.{Colour}
use Rattle.cells.specs.declared.MemoryRefusal.{MemoryRefusal}
use Rattle.cells.specs.Codes.{code_of, memory_refusal_number}
use Rattle.cells.specs.Memory.{colour_at}
use Rattle.bags.specs.declared.Bag.{Ghosts as BagGhosts}
use Rattle.rules.specs.Refusals.{refusal_number}
use Rattle.rules.specs.State.{State, Outcome}
use Rattle.rules.specs.Tasks.{enter, leave, point, move, clear, load}
use Rattle.rules.specs.Pools.{reserve, give_back}
use Rattle.rules.specs.Changes.{change, carry_on}
use Rattle.rules.specs.Handshake.{launch, cooperate}
use Rattle.rules.specs.Collecting.{collect}
use Rattle.console.specs.Building.{build}
use Rattle.script.specs.declared.LineRefusal.{LineRefusal}
use Rattle.script.specs.declared.Request.{Request}
use Rattle.script.specs.declared.words.Verb.{Verb}
use Rattle.script.specs.declared.words.Verb.TheVariants.{Enter, Launch, Leave, Point, Move, Clear, Load, Reserve, Back, Build, Change, Go, Coop, Collect, Colour as ColourOf}
use Rattle.script.specs.Lines.{refusal_number as line_refusal_number}
use Rattle.symbols.specs.declared.parts.Symbols.{Symbols}
use Rattle.symbols.specs.Views.{state_of, Same}

-- a reply: the answer or the number of the refusal, and the state afterwards
pub record Reply : Type 0 where
  pub answer : Result ℕ ℕ
  pub after : State

-- an answer with its refusal as a number
abbrev pub numbered : {E : Type 0} → (E → ℕ) → Result ℕ E → Result ℕ ℕ
numbered number (Ok k) = Ok k
numbered number (Err e) = Err (number e)

abbrev pub told : Outcome → Reply
told o = record { answer = numbered refusal_number o.answer; after = o.after }

abbrev pub coloured : Result Colour MemoryRefusal → Result ℕ ℕ
coloured (Ok x) = Ok (code_of x)
coloured (Err e) = Err (memory_refusal_number e)

-- one call a verb, on the numbers after the word; a mask is told modulo 256, and the reader lets no other pass
abbrev pub called : Verb → ℕ → ℕ → ℕ → ℕ → State → Reply
called Enter a b c d s = told (enter a s)
called Launch a b c d s = told (launch a b (c % 256) s)
called Leave a b c d s = told (leave a s)
called Point a b c d s = told (point a b c s)
called Move a b c d s = told (move a b c s)
called Clear a b c d s = told (clear a b s)
called Load a b c d s = told (load a b c d s)
called Reserve a b c d s = told (reserve a s)
called Back a b c d s = told (give_back a s)
called Build a b c d s = told (build a b c s)
called Change a b c d s = told (change a b c d s)
called Go a b c d s = told (carry_on a s)
called Coop a b c d s = told (cooperate a s)
called Collect a b c d s = told (collect s)
called ColourOf a b c d s = record { answer = coloured (colour_at s.cells a); after = s }

abbrev pub reply_to : Result Request LineRefusal → State → Reply
reply_to (Ok q) s = called q.verb (slice_index q.numbers 0) (slice_index q.numbers 1) (slice_index q.numbers 2) (slice_index q.numbers 3) s
reply_to (Err e) s = record { answer = Err (line_refusal_number e); after = s }

module _ {M F C : Type 0} (m : MemoryGhosts M) (f : BagGhosts F) (c : BagGhosts C) where
  -- a line that took h to h' was answered r
  pub record Replies (line : Result Request LineRefusal) (h h' : Symbols M F C) (r : Result ℕ ℕ) : Type 0 where
    pub result : record { answer = r; after = state_of m f c h' } ≡ reply_to line (state_of m f c h)
    pub lent : Same m f c h h'
