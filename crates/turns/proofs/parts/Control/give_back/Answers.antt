use Rattle.std.proofs.Common.{◌≡◌, [], length, Ok, Some, sym, ap, ◌∙◌, arith}
use Rattle.rules.specs.State.{accepted, has_slot, with_task, with_free}
use Rattle.rules.specs.Pools.{give_back_checks, pool_in, puts, with_pool_of}
use Rattle.rules.proofs.States.{passed}
use Rattle.tasks.specs.Parts.{task_of, tasks_of}
use Rattle.turns.specs.Moves.{returning}
use Rattle.turns.specs.Parts.{state_with}
use Rattle.turns.proofs.Checked.{told, idle, pool_told}
use Rattle.turns.proofs.Returning.{returned, one_returned, all_returned}
use Rattle.turns.proofs.parts.Control.give_back.Goals as goal

pub loop-k-preserved : goal.loop-k-preserved
loop-k-preserved g c =
    let k = c.args.self.now in
    let m = c.in_ok-m.m in
    let found = idle (tasks_of k.tasks m) (task_of c.in_ok-idle.field-0.now) c.in_ok-idle.ensures.value in
    let size : c.len-held.result ≡ length (pool_in (tasks_of k.tasks m)) = c.len-held.ensures.value ∙ ap (λ o. length (pool_in o)) (sym found.0) in
    record {
      state = λ cells links cache.
          let s = state_with k cells links (g.F.Bag.means c.args.free.now) cache in
          c.return_one.ensures.state cells links cache ∙ ap (returning m) (c.loop-k.invariant.state cells links cache) ∙ one_returned s m c.loop-k._k (omega (arith, size));
      rest = c.return_one.ensures.rest ∙ c.loop-k.invariant.rest;
    }

pub returns-clause-answer : goal.returns-clause-answer
returns-clause-answer g c =
    let k = c.args.self.now in
    let m = c.in_ok-m.m in
    let task = task_of c.in_ok-idle.field-0.now in
    let held = c.len-held.result in
    let slot = told (has_slot k.directory c.args.m) _ c.args.m m c.in_ok-m.ensures in
    let found = idle (tasks_of k.tasks m) task c.in_ok-idle.ensures.value in
    let here : tasks_of k.tasks c.args.m ≡ Some task = ap (tasks_of k.tasks) (sym slot.1) ∙ found.0 in
    let size : held ≡ length (pool_in (tasks_of k.tasks m)) = c.len-held.ensures.value ∙ ap (λ o. length (pool_in o)) (sym found.0) in
    let end : c.loop-k._k ≡ length (pool_in (tasks_of k.tasks m)) = omega (arith, size) in
    let checks : Ok held ≡ give_back_checks k.directory (tasks_of k.tasks) c.args.m = ap Ok c.len-held.ensures.value ∙ pool_told k.directory (tasks_of k.tasks) c.args.m task slot.0 here found.1 in
    record {
      result = λ cells links cache.
          let s = state_with k cells links (g.F.Bag.means c.args.free.now) cache in
          ap (accepted held) (c.loop-k.invariant.state cells links cache ∙ ap (returned s m) end ∙ all_returned s m)
          ∙ ap (λ j. accepted held (with_free (with_task s j (with_pool_of [] (s.tasks j))) (puts s.free (pool_in (s.tasks j))))) slot.1
          ∙ passed s (give_back_checks k.directory (tasks_of k.tasks) c.args.m) (λ n. accepted n (with_free (with_task s c.args.m (with_pool_of [] (s.tasks c.args.m))) (puts s.free (pool_in (s.tasks c.args.m))))) held checks;
      rest = c.loop-k.invariant.rest;
    }
