use Rattle.std.proofs.Common.{rules, nat_lt}
use Rattle.rules.specs.State.{has_slot, is_register}
use Rattle.tasks.specs.Parts.{tasks_of, task_of}
use Rattle.turns.proofs.Checked.{told, idle}
use Rattle.turns.proofs.parts.Control.change.Goals as goal

pub returns-in_err-task : goal.returns-in_err-task
returns-in_err-task g c =
    let k = c.args.self.now in
    let slot = told (has_slot k.directory c.args.m) _ c.args.m c.in_ok-m.m c.in_ok-m.ensures in
    let link = told (nat_lt c.args.i g.M.CellMemory.links) _ c.args.i c.in_ok-i.i c.in_ok-i.ensures in
    let from = told (is_register c.args.a) _ c.args.a c.in_ok-a.a c.in_ok-a.ensures in
    let to = told (is_register c.args.b) _ c.args.b c.in_ok-b.b c.in_ok-b.ensures in
    search rules

pub returns-in_err-cell : goal.returns-in_err-cell
returns-in_err-cell g c =
    let k = c.args.self.now in
    let slot = told (has_slot k.directory c.args.m) _ c.args.m c.in_ok-m.m c.in_ok-m.ensures in
    let link = told (nat_lt c.args.i g.M.CellMemory.links) _ c.args.i c.in_ok-i.i c.in_ok-i.ensures in
    let from = told (is_register c.args.a) _ c.args.a c.in_ok-a.a c.in_ok-a.ensures in
    let to = told (is_register c.args.b) _ c.args.b c.in_ok-b.b c.in_ok-b.ensures in
    let task = idle (tasks_of k.tasks c.in_ok-m.m) (task_of c.in_ok-task.task.now) c.in_ok-task.ensures.value in
    search rules

pub returns : goal.returns
returns g c =
    let k = c.args.self.now in
    let slot = told (has_slot k.directory c.args.m) _ c.args.m c.in_ok-m.m c.in_ok-m.ensures in
    let link = told (nat_lt c.args.i g.M.CellMemory.links) _ c.args.i c.in_ok-i.i c.in_ok-i.ensures in
    let from = told (is_register c.args.a) _ c.args.a c.in_ok-a.a c.in_ok-a.ensures in
    let to = told (is_register c.args.b) _ c.args.b c.in_ok-b.b c.in_ok-b.ensures in
    let task = idle (tasks_of k.tasks c.in_ok-m.m) (task_of c.in_ok-task.task.now) c.in_ok-task.ensures.value in
    search rules
