-- Where a reader stands in its text.
use Rattle.std.specs.Prelude.{◌≡◌, ℕ, ◌+◌, true, false, List, drop, Option, Result, MatchOption}
use Rattle.script.specs.declared.LineRefusal.{LineRefusal}
use Rattle.script.specs.declared.Request.{Request}
use Rattle.script.specs.declared.reader.Reader.{Reader}
use Rattle.script.specs.Lines.{ended, line_of, line_size, request_of}

-- what is left to read
abbrev pub rest : Reader → List ℕ
rest r = drop r.place r.text.now

-- the reader has read n more bytes of the same text
pub record Moved (n : ℕ) (old new : Reader) : Type 0 where
  pub text : new.text.now ≡ old.text.now
  pub place : new.place ≡ old.place + n

-- the reader was asked for the next line: at the end there is none, and before it the line is read to its end
abbrev pub ReadsLine : Reader → Option (Result Request LineRefusal) → Reader → Type 0
ReadsLine old line new = MatchOption line
    ((ended (rest old) ≡ true) × (new ≡ old))
    (λ asked. (ended (rest old) ≡ false) × (asked ≡ request_of (line_of (rest old))) × Moved (line_size (rest old)) old new)
