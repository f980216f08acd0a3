-- The words of a script, each with its text and how many numbers follow it.
use Rattle.std.specs.Prelude.{ℕ, List, [], ◌∷◌, codes, find, Option}
use Rattle.std.specs.Str.{bytes_eq}
use Rattle.script.specs.declared.words.Verb.{Verb}
use Rattle.script.specs.declared.words.Verb.TheVariants.{Enter, Launch, Leave, Point, Move, Clear, Load, Reserve, Back, Build, Change, Go, Coop, Collect, Colour}

abbrev pub text_of : Verb → List ℕ
text_of Enter = codes "enter"
text_of Launch = codes "launch"
text_of Leave = codes "leave"
text_of Point = codes "point"
text_of Move = codes "move"
text_of Clear = codes "clear"
text_of Load = codes "load"
text_of Reserve = codes "reserve"
text_of Back = codes "back"
text_of Build = codes "build"
text_of Change = codes "change"
text_of Go = codes "go"
text_of Coop = codes "coop"
text_of Collect = codes "collect"
text_of Colour = codes "colour"

-- how many numbers follow the word
abbrev pub arity_of : Verb → ℕ
arity_of Enter = 1
arity_of Launch = 3
arity_of Leave = 1
arity_of Point = 3
arity_of Move = 3
arity_of Clear = 2
arity_of Load = 4
arity_of Reserve = 1
arity_of Back = 1
arity_of Build = 3
arity_of Change = 4
arity_of Go = 1
arity_of Coop = 1
arity_of Collect = 0
arity_of Colour = 1

abbrev pub verbs : List Verb
verbs = Enter ∷ Launch ∷ Leave ∷ Point ∷ Move ∷ Clear ∷ Load ∷ Reserve ∷ Back ∷ Build ∷ Change ∷ Go ∷ Coop ∷ Collect ∷ Colour ∷ []

-- the first with the text
abbrev pub verb_of : List ℕ → Option Verb
verb_of word = find (λ verb. bytes_eq word (text_of verb)) verbs
