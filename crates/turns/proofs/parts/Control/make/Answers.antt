use Rattle.std.proofs.Common.{◌≡◌, None, sym, ap, ◌∙◌, rules}
use Rattle.rules.specs.State.{has_slot}
use Rattle.tasks.specs.Parts.{tasks_of, task_of}
use Rattle.tasks.specs.Pools.{newest, pool_of}
use Rattle.turns.proofs.Checked.{told, idle, nothing_to_make}
use Rattle.turns.proofs.parts.Control.make.Goals as goal

pub returns-in_err-x : goal.returns-in_err-x
returns-in_err-x g c =
    let k = c.args.self.now in
    let t = c.in_ok-idle.field-0.now in
    let slot = told (has_slot k.directory c.args.m) _ c.args.m c.in_ok-m.m c.in_ok-m.ensures in
    let found = idle (tasks_of k.tasks c.in_ok-m.m) (task_of t) c.in_ok-idle.ensures.value in
    let none : newest (pool_of t.pool) ≡ None = search rules in
    let checks = nothing_to_make k.directory (tasks_of k.tasks) c.args.m (task_of t) slot.0 (ap (tasks_of k.tasks) (sym slot.1) ∙ found.0) found.1 none in
    search rules
