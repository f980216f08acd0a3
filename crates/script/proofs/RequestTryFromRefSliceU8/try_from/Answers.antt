-- The word names the verb, and the numbers are those of what follows it.
use Rattle.std.proofs.Common.{Err, sym, ap, ◌∙◌}
use Rattle.std.specs.Option.{ok_or}
use Rattle.std.proofs.lemmas.Result.{err_from_is_err_and}
use Rattle.script.specs.declared.LineRefusal.TheVariants.{BadNumbers}
use Rattle.script.specs.Lines.{numbers_of, filled}
use Rattle.script.specs.Places.{rest}
use Rattle.script.proofs.Requests.{asked_fitting, asked_unfit, asked_without, request_by_verb}
use Rattle.script.proofs.RequestTryFromRefSliceU8.try_from.Goals as goal

pub returns-in_err-numbers : goal.returns-in_err-numbers
returns-in_err-numbers c =
    let asks = request_by_verb c.args.line.now _ _ _ c.in_ok-verb.verb c.new-reader.ensures.text c.new-reader.ensures.place c.word.ensures.text c.in_ok-verb.ensures c.word.ensures.moved in
    let refused = c.in_err-numbers.ensures ∙ ap (λ n. ok_or (filled (numbers_of n (rest c.word.new.self))) BadNumbers) c.arity.ensures in
    let p = err_from_is_err_and c.from_residual-in_err-numbers.result c.from_residual-in_err-numbers.ensures.1 in
    p.1 ∙ ap Err p.2 ∙ sym (asks ∙ asked_without _ _ _ refused)

pub returns-then-not-fits : goal.returns-then-not-fits
returns-then-not-fits c =
    let asks = request_by_verb c.args.line.now _ _ _ c.in_ok-verb.verb c.new-reader.ensures.text c.new-reader.ensures.place c.word.ensures.text c.in_ok-verb.ensures c.word.ensures.moved in
    let read = c.in_ok-numbers.ensures ∙ ap (λ n. ok_or (filled (numbers_of n (rest c.word.new.self))) BadNumbers) c.arity.ensures in
    sym (asks ∙ asked_unfit _ _ _ read (sym c.if-not-fits.ensures))

pub returns : goal.returns
returns c =
    let asks = request_by_verb c.args.line.now _ _ _ c.in_ok-verb.verb c.new-reader.ensures.text c.new-reader.ensures.place c.word.ensures.text c.in_ok-verb.ensures c.word.ensures.moved in
    let read = c.in_ok-numbers.ensures ∙ ap (λ n. ok_or (filled (numbers_of n (rest c.word.new.self))) BadNumbers) c.arity.ensures in
    sym (asks ∙ asked_fitting _ _ _ read (sym c.if-not-fits.ensures))
