use Rattle.std.proofs.Common.{◌≡◌, Ok, sym, ap, ◌∙◌}
use Rattle.rules.specs.declared.Work.TheVariants.{Making}
use Rattle.rules.specs.State.{has_slot}
use Rattle.rules.specs.Changes.{carry_on_checks, carrying, owed}
use Rattle.rules.proofs.States.{passed}
use Rattle.tasks.specs.Parts.{tasks_of}
use Rattle.turns.specs.Parts.{state_with}
use Rattle.turns.proofs.Checked.{told, owed_asked}
use Rattle.turns.proofs.parts.Control.carry_on.Goals as goal

pub returns-in-Making : goal.returns-in-Making
returns-in-Making g c =
    let k = c.args.self.now in
    let m = g.M.CellMemory in
    let work = c.in_ok-cell.field-0 in
    let slot = told (has_slot k.directory c.args.m) _ c.args.m c.in_ok-m.m c.in_ok-m.ensures in
    let due : Ok work ≡ carry_on_checks k.directory (tasks_of k.tasks) c.args.m =
    c.in_ok-cell.ensures ∙ ap (λ j. owed (tasks_of k.tasks j)) slot.1 ∙ owed_asked k.directory (tasks_of k.tasks) c.args.m slot.0 in
    record {
      result = λ free cache.
          let s = state_with k (m.means c.args.memory.now) m.links free cache in
          c.settle.ensures.result free cache
          ∙ ap (λ j. carrying s j (Making c.in-Making.cell c.in-Making.settled)) slot.1
          ∙ ap (carrying s c.args.m) (sym c.in-Making.is)
          ∙ passed s (carry_on_checks k.directory (tasks_of k.tasks) c.args.m) (carrying s c.args.m) work due;
      rest = c.settle.ensures.rest;
    }
