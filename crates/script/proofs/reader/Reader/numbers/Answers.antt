-- Each turn reads one more number, and what is left must be nothing.
use Rattle.std.proofs.Common.{◌≡◌, ℕ, ◌≤◌, length, take, replicate, Some, None, Err, sym, ap, ◌∙◌, arith}
use Rattle.std.specs.Option.{ok_or}
use Rattle.std.proofs.lemmas.List.{length-take-le}
use Rattle.std.proofs.lemmas.Result.{err_from_is_err_and}
use Rattle.script.specs.declared.LineRefusal.TheVariants.{BadNumbers}
use Rattle.script.specs.Lines.{number_at, numbers_of, filled}
use Rattle.script.specs.Places.{rest}
use Rattle.script.proofs.Numbers.{none_read, read_one_more, refused_by_number, all_read}
use Rattle.script.proofs.Places.{rest_moved}
use Rattle.script.proofs.reader.Reader.numbers.Goals as goal

places : (count : ℕ) → count ≤ 4 → length {A = ℕ} (take count (replicate 4 0)) ≡ count
places count few = length-take-le count (replicate 4 0) few

pub loop-number-init : goal.loop-number-init
loop-number-init c = none_read _ _ _

pub returns-in_err-number : goal.returns-in_err-number
returns-in_err-number c =
    let told = c.in_err-number.ensures.number in
    let none : number_at (rest c.loop-number.self) ≡ None = grind arith in
    let p = err_from_is_err_and c.from_residual.result c.from_residual.ensures.1 in
    let bad : p.0 ≡ BadNumbers = grind arith in
    p.1 ∙ ap Err bad ∙ sym (ap (λ o. ok_or (filled o) BadNumbers) (refused_by_number c.loop-number.invariant (omega (arith, places c.args.count c.requires)) none))

pub loop-number-preserved : goal.loop-number-preserved
loop-number-preserved c =
    let told = c.in_ok-number.ensures.number in
    let some : number_at (rest c.loop-number.self) ≡ Some c.in_ok-number.field-0 = grind arith in
    let all = places c.args.count c.requires in
    read_one_more c.loop-number.invariant _ _ (omega (arith, all)) (c.loop-number.auto.number-items ∙ all) some (rest_moved c.in_ok-number.ensures.moved)

pub returns : goal.returns
returns c =
    let all = places c.args.count c.requires in
    let read = all_read c.loop-number.invariant (omega (arith, all)) (c.loop-number.auto.number-items ∙ all) in
    let told = c.then_some.ensures in
    let same : c.then_some.result ≡ filled (numbers_of c.args.count (rest c.args.self.now)) = rw c.at_end.ensures at told ∙ sym read in
    c.ok_or.ensures.value ∙ ap (λ o. ok_or o BadNumbers) same
