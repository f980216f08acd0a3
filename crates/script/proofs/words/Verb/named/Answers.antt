-- A verb with another text is passed over.
use Rattle.std.proofs.Common.{◌≡◌, ℕ, ◌+◌, ◌<◌, false, List, length, get_or, drop, sym, ap, ◌∙◌}
use Rattle.std.specs.Prelude.{find}
use Rattle.std.specs.Str.{bytes_eq}
use Rattle.std.proofs.lemmas.List.{at_drop_more}
use Rattle.std.proofs.lemmas.Bool.{cond-false}
use Rattle.script.specs.declared.words.Verb.{Verb}
use Rattle.script.specs.Verbs.{text_of, verbs}
use Rattle.script.proofs.words.Verb.named.Goals as goal

other_passed_over : (word : List ℕ) (vs : List Verb) (i : ℕ) (d : Verb) → i < length vs → bytes_eq word (text_of (get_or vs i d)) ≡ false
    → find (λ verb. bytes_eq word (text_of verb)) (drop (i + 1) vs) ≡ find (λ verb. bytes_eq word (text_of verb)) (drop i vs)
other_passed_over word vs i d inside other = sym (at_drop_more (find (λ verb. bytes_eq word (text_of verb))) vs i d inside ∙ cond-false _ _ _ other)

pub loop-verb-preserved : goal.loop-verb-preserved
loop-verb-preserved c =
    let word = c.args.word.now in
    other_passed_over word verbs c.loop-verb.verb-index _ c.loop-verb-test.true (ap (bytes_eq word) (sym c.text.ensures) ∙ sym c.if-eq.ensures) ∙ c.loop-verb.invariant
