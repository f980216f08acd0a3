use Rattle.std.proofs.Common.{◌≡◌, cond, Some, sym, ap, ◌∙◌}
use Rattle.std.proofs.lemmas.Bool.{cond-false}
use denote.Enum.Bare.{same_false}
use Rattle.rules.specs.contracts.Status.{the_type}
use Rattle.rules.specs.State.{accepted, has_slot}
use Rattle.rules.specs.Greying.{same_status}
use Rattle.rules.specs.Handshake.{cooperate_checks, replying}
use Rattle.rules.proofs.States.{passed}
use Rattle.tasks.specs.Parts.{tasks_of, task_of}
use Rattle.turns.specs.Parts.{state_with}
use Rattle.turns.proofs.Checked.{told, idle, status_found}
use Rattle.turns.proofs.Statuses.{other_status}
use Rattle.turns.proofs.parts.Control.cooperate.Goals as goal

pub returns : goal.returns
returns g c =
    let k = c.args.self.now in
    let m = g.M.CellMemory in
    let slot = told (has_slot k.directory c.args.m) _ c.args.m c.in_ok-m.m c.in_ok-m.ensures in
    let task = c.in_ok-status.field-0.now in
    let found = idle (tasks_of k.tasks c.in_ok-m.m) (task_of task) c.in_ok-status.ensures.value in
    record {
      result = λ free cache.
          let s = state_with k (m.means c.args.memory.now) m.links free cache in
          let here : tasks_of k.tasks c.args.m ≡ Some (task_of task) = ap (tasks_of k.tasks) (sym slot.1) ∙ found.0 in
          c.reply.ensures.result free cache
          ∙ ap (λ j. accepted 1 (replying s j task.status)) slot.1
          ∙ sym (cond-false _ (accepted 0 s) (accepted 1 (replying s c.args.m task.status)) (other_status _ _ (same_false the_type _ _ (sym c.if-eq.ensures))))
          ∙ passed s (cooperate_checks k.directory (tasks_of k.tasks) c.args.m) (λ q. cond (same_status q s.collector.status) (accepted 0 s) (accepted 1 (replying s c.args.m q))) task.status
          (status_found k.directory (tasks_of k.tasks) c.args.m (task_of task) slot.0 here found.1);
      rest = c.reply.ensures.rest;
    }
