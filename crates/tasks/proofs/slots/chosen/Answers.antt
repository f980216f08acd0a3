use Rattle.std.proofs.Common.{rules, get_or, None, arith}
use Rattle.tasks.specs.Masks.{choice}
use Rattle.tasks.proofs.Made.{made_at}
use Rattle.tasks.proofs.Masking.{chosen_all}
use Rattle.tasks.proofs.slots.chosen.Goals as goal

pub returns : goal.returns
returns c =
    let mask = c.args.mask in
    let row = c.args.registers in
    let made = c.from_fn.ensures.items in
    chosen_all mask row c.from_fn.result (omega arith) made.long
    (λ k below. made_at _ _ 8 (choice mask (λ j. get_or row j None)) _ (λ i y q inside called. search rules) 8 0 (omega arith) made.each k None (omega arith) (omega arith))
