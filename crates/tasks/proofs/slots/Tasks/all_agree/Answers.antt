use Rattle.std.proofs.Common.{sym, ap, ◌∙◌, arith}
use Rattle.std.proofs.lemmas.List.{take_all}
use Rattle.std.specs.List.{list_all}
use Rattle.rules.specs.Collecting.{agrees}
use Rattle.tasks.specs.Parts.{slot_of}
use Rattle.tasks.proofs.Agreeing.{first_agree}
use Rattle.tasks.proofs.slots.Tasks.all_agree.Goals as goal

pub returns : goal.returns
returns c =
    let q = c.args.status in
    let slots = c.args.self.now.slots in
    c.all_agree_in.ensures ∙ sym (ap (list_all (λ slot. agrees q (slot_of slot))) (take_all 8 slots (omega arith))) ∙ first_agree q slots 8 (omega arith)
