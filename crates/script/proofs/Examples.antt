-- Each verb is known by its text; what some lines ask for, and where some texts are cut: all by computation.
use Rattle.std.proofs.Common.{◌≡◌, ℕ, true, false, [], ◌∷◌, ◌++◌, drop, Some, Ok, Err, codes, Result, refl}
use Rattle.script.specs.declared.LineRefusal.{LineRefusal}
use Rattle.script.specs.declared.LineRefusal.TheVariants.{UnknownWord, BadNumbers}
use Rattle.script.specs.declared.Request.{Request}
use Rattle.script.specs.declared.words.Verb.{Verb}
use Rattle.script.specs.declared.words.Verb.TheVariants.{Enter, Launch, Leave, Point, Move, Clear, Load, Reserve, Back, Build, Change, Go, Coop, Collect, Colour}
use Rattle.script.specs.Lines.{ended, line_of, line_size, request_of}
use Rattle.script.specs.Verbs.{text_of, verb_of}

verb_of_its_text : (verb : Verb) → verb_of (text_of verb) ≡ Some verb
verb_of_its_text Enter = refl
verb_of_its_text Launch = refl
verb_of_its_text Leave = refl
verb_of_its_text Point = refl
verb_of_its_text Move = refl
verb_of_its_text Clear = refl
verb_of_its_text Load = refl
verb_of_its_text Reserve = refl
verb_of_its_text Back = refl
verb_of_its_text Build = refl
verb_of_its_text Change = refl
verb_of_its_text Go = refl
verb_of_its_text Coop = refl
verb_of_its_text Collect = refl
verb_of_its_text Colour = refl

abbrev asks : Verb → ℕ → ℕ → ℕ → ℕ → Result Request LineRefusal
asks verb a b c d = Ok (record { verb = verb; numbers = a ∷ b ∷ c ∷ d ∷ [] })

one_number : request_of (codes "enter 0") ≡ asks Enter 0 0 0 0
one_number = refl

three_numbers : request_of (codes "point 12 1 65535") ≡ asks Point 12 1 65535 0
three_numbers = refl

four_numbers : request_of (codes "load 1 2 3 00004") ≡ asks Load 1 2 3 4
four_numbers = refl

no_numbers : request_of (codes "collect") ≡ asks Collect 0 0 0 0
no_numbers = refl

widest_mask : request_of (codes "launch 0 1 255") ≡ asks Launch 0 1 255 0
widest_mask = refl

mask_above_limit : request_of (codes "launch 0 1 256") ≡ Err BadNumbers
mask_above_limit = refl

no_word : request_of [] ≡ Err UnknownWord
no_word = refl

space_before_word : request_of (codes " enter 0") ≡ Err UnknownWord
space_before_word = refl

capital_letter : request_of (codes "Enter 0") ≡ Err UnknownWord
capital_letter = refl

unknown_word_before_bad_numbers : request_of (codes "entre 65536") ≡ Err UnknownWord
unknown_word_before_bad_numbers = refl

number_missing : request_of (codes "clear 1") ≡ Err BadNumbers
number_missing = refl

number_too_many : request_of (codes "enter 0 1") ≡ Err BadNumbers
number_too_many = refl

number_above_limit : request_of (codes "enter 65536") ≡ Err BadNumbers
number_above_limit = refl

six_digits : request_of (codes "enter 000001") ≡ Err BadNumbers
six_digits = refl

two_spaces : request_of (codes "enter  0") ≡ Err BadNumbers
two_spaces = refl

trailing_space : request_of (codes "enter 0 ") ≡ Err BadNumbers
trailing_space = refl

carriage_return : request_of (codes "enter 0" ++ 13 ∷ []) ≡ Err BadNumbers
carriage_return = refl

no_digit : request_of (codes "enter 1x") ≡ Err BadNumbers
no_digit = refl

-- the second line begins after the line feed of the first
first_line : line_of (codes "enter 0" ++ 10 ∷ codes "leave 0") ≡ codes "enter 0"
first_line = refl

second_line : drop (line_size (codes "enter 0" ++ 10 ∷ codes "leave 0")) (codes "enter 0" ++ 10 ∷ codes "leave 0") ≡ codes "leave 0"
second_line = refl

-- after the last line nothing is left, with and without a line feed at its end
no_line_feed_at_end : ended (drop (line_size (codes "enter 0")) (codes "enter 0")) ≡ true
no_line_feed_at_end = refl

line_feed_at_end : ended (drop (line_size (codes "enter 0" ++ 10 ∷ [])) (codes "enter 0" ++ 10 ∷ [])) ≡ true
line_feed_at_end = refl

empty_line_between : ended (drop (line_size (codes "enter 0" ++ 10 ∷ 10 ∷ [])) (codes "enter 0" ++ 10 ∷ 10 ∷ [])) ≡ false
empty_line_between = refl
