use Rattle.std.proofs.Common.{rules}
use Rattle.rules.specs.State.{has_slot, is_register}
use Rattle.tasks.specs.Parts.{tasks_of, task_of}
use Rattle.turns.proofs.Checked.{told, idle}
use Rattle.turns.proofs.parts.Control.move_register.Goals as goal

pub returns : goal.returns
returns c = λ cells links free cache.
    let k = c.args.self.now in
    let slot = told (has_slot k.directory c.args.m) _ c.args.m c.in_ok-m.m c.in_ok-m.ensures in
    let from = told (is_register c.args.a) _ c.args.a c.in_ok-a.a c.in_ok-a.ensures in
    let to = told (is_register c.args.b) _ c.args.b c.in_ok-b.b c.in_ok-b.ensures in
    let task = idle (tasks_of k.tasks c.in_ok-m.m) (task_of c.in_ok-idle.field-0.now) c.in_ok-idle.ensures.value in
    search rules
