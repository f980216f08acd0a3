-- The verbs that are left hold the one that is looked for, if there is one.
use Rattle.std.proofs.Common.{◌≡◌, drop}
use Rattle.std.specs.Prelude.{find}
use Rattle.std.specs.Str.{bytes_eq}
use Rattle.script.specs.Verbs.{text_of, verbs, verb_of}
use Rattle.script.proofs.words.Verb.named.Given as goal

abbrev pub invariant-loop-verb : goal.invariant-loop-verb
invariant-loop-verb l = find (λ verb. bytes_eq l.word (text_of verb)) (drop l.verb-index verbs) ≡ verb_of l.word
