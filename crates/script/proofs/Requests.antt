-- What a line asks for, once its word is known and its numbers are read.
use Rattle.std.proofs.Common.{◌≡◌, ℕ, true, false, cond, List, Some, None, Ok, Err, Option, drop, sym, ap, ◌∙◌}
use Rattle.std.specs.Option.{ok_or}
use Rattle.std.proofs.lemmas.Bool.{cond-true, cond-false}
use Rattle.script.specs.declared.LineRefusal.{LineRefusal}
use Rattle.script.specs.declared.LineRefusal.TheVariants.{UnknownWord, BadNumbers}
use Rattle.script.specs.declared.reader.Reader.{Reader}
use Rattle.script.specs.declared.words.Verb.{Verb}
use Rattle.script.specs.Lines.{word_of, word_size, numbers_of, filled, asked, asked_by, fitting_numbers, request_of}
use Rattle.script.specs.Places.{rest, Moved}
use Rattle.script.specs.Verbs.{verb_of, arity_of}
use Rattle.script.proofs.Places.{rest_moved}

known_verb : (found : Option Verb) (verb : Verb) → Ok verb ≡ ok_or found UnknownWord → found ≡ Some verb
known_verb None verb is = cc
known_verb (Some other) verb is = cc

asked_with : (verb : Verb) (read : Option (List ℕ)) (numbers : List ℕ) → Ok numbers ≡ ok_or read BadNumbers → asked verb read ≡ cond (fitting_numbers verb numbers) (Ok (record { verb = verb; numbers = numbers })) (Err BadNumbers)
asked_with verb None numbers is = cc
asked_with verb (Some others) numbers is =
    let same : others ≡ numbers = cc in
    ap (λ ns. cond (fitting_numbers verb ns) (Ok (record { verb = verb; numbers = ns })) (Err BadNumbers)) same

pub asked_fitting : (verb : Verb) (read : Option (List ℕ)) (numbers : List ℕ) → Ok numbers ≡ ok_or read BadNumbers → fitting_numbers verb numbers ≡ true → asked verb read ≡ Ok (record { verb = verb; numbers = numbers })
asked_fitting verb read numbers is fits = asked_with verb read numbers is ∙ cond-true (fitting_numbers verb numbers) _ _ fits

pub asked_unfit : (verb : Verb) (read : Option (List ℕ)) (numbers : List ℕ) → Ok numbers ≡ ok_or read BadNumbers → fitting_numbers verb numbers ≡ false → asked verb read ≡ Err BadNumbers
asked_unfit verb read numbers is fits = asked_with verb read numbers is ∙ cond-false (fitting_numbers verb numbers) _ _ fits

pub asked_without : (verb : Verb) (read : Option (List ℕ)) (refusal : LineRefusal) → Err refusal ≡ ok_or read BadNumbers → asked verb read ≡ Err refusal
asked_without verb None refusal is = cc
asked_without verb (Some others) refusal is = cc

pub request_by_verb : (line word : List ℕ) (start after : Reader) (verb : Verb) → start.text.now ≡ line → start.place ≡ 0 → word ≡ word_of (rest start) → Ok verb ≡ ok_or (verb_of word) UnknownWord → Moved (word_size (rest start)) start after → request_of line ≡ asked verb (filled (numbers_of (arity_of verb) (rest after)))
request_by_verb line word start after verb text place begins known moved =
    let whole : rest start ≡ line = ap (λ p. drop p start.text.now) place ∙ text in
    let follows : rest after ≡ drop (word_size line) line = rest_moved moved ∙ ap (λ bs. drop (word_size bs) bs) whole in
    ap (λ o. asked_by o line) (ap (λ bs. verb_of (word_of bs)) (sym whole) ∙ ap verb_of (sym begins) ∙ known_verb (verb_of word) verb known)
    ∙ ap (λ bs. asked verb (filled (numbers_of (arity_of verb) bs))) (sym follows)
