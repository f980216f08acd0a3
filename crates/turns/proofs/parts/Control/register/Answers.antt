use Rattle.std.proofs.Common.{rules}
use Rattle.rules.specs.State.{has_slot, is_register}
use Rattle.tasks.specs.Parts.{tasks_of, task_of}
use Rattle.turns.proofs.Checked.{told, present}
use Rattle.turns.proofs.parts.Control.register.Goals as goal

pub returns : goal.returns
returns c =
    let k = c.args.self.now in
    let slot = told (has_slot k.directory c.args.m) _ c.args.m c.in_ok-m.m c.in_ok-m.ensures in
    let from = told (is_register c.args.j) _ c.args.j c.in_ok-j.j c.in_ok-j.ensures in
    let task = present (tasks_of k.tasks c.in_ok-m.m) (task_of c.in_ok-present.field-0.now) c.in_ok-present.ensures.value in
    search rules
