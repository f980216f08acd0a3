use Rattle.std.proofs.Common.{ℕ, List, Some, None, Option, ap, ◌∙◌, ap₂}
use Rattle.cells.specs.Memory.{at}
use Rattle.tasks.specs.Masks.{choice}
use Rattle.tasks.specs.Parts.{tasks_of}
use Rattle.tasks.proofs.Masking.{choice_chosen}
use Rattle.tasks.proofs.slots.Tasks.launch.Goals as goal

pub returns : goal.returns
returns c =
    let tasks = tasks_of c.args.self.now in
    let mask = c.args.mask in
    c.put.ensures
    ∙ ap₂ (λ (rs : ℕ → Option ℕ) (pool : List ℕ). at c.args.p (Some (record { status = c.args.status; registers = rs; pool = pool; work = None })) tasks)
    (c.chosen.ensures ∙ ap (choice mask) c.registers.ensures ∙ choice_chosen mask (tasks c.args.m)) c.new.ensures
