use Rattle.std.proofs.Common.{ℕ, List, Some, None, slice_index_or, ap, rules}
use Rattle.tasks.specs.Parts.{with_scrapped}
use Rattle.tasks.proofs.Writing.{slot_changed}
use Rattle.tasks.proofs.slots.Tasks.scrap.Goals as goal

pub returns-in-Some : goal.returns-in-Some
returns-in-Some c =
    let t = c.in-Some.maker in
    slot_changed c.args.self.now.slots c.args.m _ t _ (λ s. with_scrapped s c.args.x) c.args.self.now.eight (search rules) (search rules) c.in-Some.is
    (ap (λ (p : List ℕ). Some (record { status = t.status; registers = λ j. slice_index_or t.registers j None; pool = p; work = None })) c.add.ensures)
