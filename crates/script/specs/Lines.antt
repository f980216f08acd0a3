-- The language of the scripts: a line is a word and then numbers, each after one space.
use Rattle.std.specs.Prelude.{ℕ, zero, suc, ◌+◌, ◌-◌, ◌*◌, min, Bool, true, false, cond, ◌&&◌, ◌||◌, List, [], ◌∷◌, ◌++◌, length, take, drop, replicate, Some, None, Ok, Err, Option, Result, ◌==◌, nat_le, slice_index}
use Rattle.std.specs.Char.{is_ascii_digit}
use Rattle.std.specs.List.{position_or_len}
use Rattle.script.specs.declared.LineRefusal.{LineRefusal}
use Rattle.script.specs.declared.LineRefusal.TheVariants.{UnknownWord, BadNumbers}
use Rattle.script.specs.declared.Request.{Request}
use Rattle.script.specs.declared.words.Verb.{Verb}
use Rattle.script.specs.declared.words.Verb.TheVariants.{Launch}
use Rattle.script.specs.Verbs.{verb_of, arity_of}

abbrev pub refusal_number : LineRefusal → ℕ
refusal_number UnknownWord = 7
refusal_number BadNumbers = 8

-- no line is left where no byte is left
abbrev pub ended : List ℕ → Bool
ended [] = true
ended (b ∷ bs) = false

-- how many bytes come before the first `stop`, the line feed or the end
abbrev pub before : ℕ → List ℕ → ℕ
before stop text = position_or_len (λ b. b == stop || b == 10) text

-- a line goes up to its line feed, which the last one may lack
abbrev pub line_of : List ℕ → List ℕ
line_of text = take (before 10 text) text

-- what it takes of the text, the line feed too
abbrev pub line_size : List ℕ → ℕ
line_size text = min (length text) (before 10 text + 1)

-- a word goes up to the space, the line feed or the end, and may be empty
abbrev pub word_size : List ℕ → ℕ
word_size text = before 32 text

abbrev pub word_of : List ℕ → List ℕ
word_of text = take (word_size text) text

-- what digits write after those that wrote n
abbrev pub decimal_after : ℕ → List ℕ → Option ℕ
decimal_after n [] = Some n
decimal_after n (b ∷ bs) = cond (is_ascii_digit b) (decimal_after (n * 10 + (b - 48)) bs) None

abbrev pub up_to : ℕ → Option ℕ → Option ℕ
up_to most None = None
up_to most (Some n) = cond (nat_le n most) (Some n) None

-- one to five digits, and at most 65535
abbrev pub number_of : List ℕ → Option ℕ
number_of word = cond (nat_le 1 (length word) && nat_le (length word) 5) (up_to 65535 (decimal_after 0 word)) None

-- the next byte is a space
abbrev pub spaced : List ℕ → Bool
spaced [] = false
spaced (b ∷ bs) = b == 32

-- the number that stands after one space
abbrev pub number_at : List ℕ → Option ℕ
number_at text = cond (spaced text) (number_of (word_of (drop 1 text))) None

-- what is read of the text for it: the space and the word after it, or nothing where there is no space
abbrev pub number_size : List ℕ → ℕ
number_size text = cond (spaced text) (1 + word_size (drop 1 text)) 0

-- a number and then the others
abbrev pub and_then : Option ℕ → Option (List ℕ) → Option (List ℕ)
and_then None others = None
and_then (Some n) None = None
and_then (Some n) (Some ns) = Some (n ∷ ns)

-- exactly so many numbers, each after one space, and then the end
abbrev pub numbers_of : ℕ → List ℕ → Option (List ℕ)
numbers_of zero text = cond (ended text) (Some []) None
numbers_of (suc count) text = and_then (number_at text) (numbers_of count (drop (number_size text) text))

-- four places, of which those not used are 0
abbrev pub filled : Option (List ℕ) → Option (List ℕ)
filled None = None
filled (Some ns) = Some (ns ++ replicate (4 - length ns) 0)

-- a mask has eight bits; other numbers may be any that a reader reads
abbrev pub fitting_numbers : Verb → List ℕ → Bool
fitting_numbers Launch numbers = nat_le (slice_index numbers 2) 255
fitting_numbers _ numbers = true

abbrev pub asked : Verb → Option (List ℕ) → Result Request LineRefusal
asked verb None = Err BadNumbers
asked verb (Some numbers) = cond (fitting_numbers verb numbers) (Ok (record { verb = verb; numbers = numbers })) (Err BadNumbers)

-- what a line asks for that begins with a verb, if it does
abbrev pub asked_by : Option Verb → List ℕ → Result Request LineRefusal
asked_by None line = Err UnknownWord
asked_by (Some verb) line = asked verb (filled (numbers_of (arity_of verb) (drop (word_size line) line)))

-- what a line asks for; the word is judged before the numbers
abbrev pub request_of : List ℕ → Result Request LineRefusal
request_of line = asked_by (verb_of (word_of line)) line
