use Rattle.std.proofs.Common.{◌≡◌, length, Ok, ap, ◌∙◌, arith}
use Rattle.rules.specs.State.{accepted, by, has_slot}
use Rattle.rules.specs.Pools.{reserving, reserve_checks}
use Rattle.rules.proofs.States.{passed}
use Rattle.rules.proofs.Checked.{reserve_checked}
use Rattle.tasks.specs.Parts.{tasks_of}
use Rattle.turns.specs.Moves.{drawing, reservable_of}
use Rattle.turns.specs.Parts.{state_with}
use Rattle.turns.proofs.Checked.{told, reserve_asked}
use Rattle.turns.proofs.Drawing.{one_drawn}
use Rattle.turns.proofs.parts.Control.reserve.Goals as goal

pub loop-k-preserved : goal.loop-k-preserved
loop-k-preserved g c =
    let k = c.args.self.now in
    let m = c.in_ok-m.m in
    let tasks = tasks_of k.tasks in
    let free = g.F.Bag.means c.args.free.now in
    let wanted = c.in_ok-wanted.wanted in
    let slot = told (has_slot k.directory c.args.m) _ c.args.m m c.in_ok-m.ensures in
    let checks : Ok wanted ≡ reserve_checks k.directory (length free.members) tasks m =
    c.in_ok-wanted.ensures.checks ∙ ap (λ n. reservable_of n (tasks m)) c.count.ensures ∙ reserve_asked k.directory (length free.members) tasks m (ap (has_slot k.directory) slot.1 ∙ slot.0) in
    let found = reserve_checked k.directory (length free.members) tasks m wanted checks in
    let fair = (g.F.Bag.sound c.args.free.now).fair in
    record {
      state = λ cells links cache.
          let s = state_with k cells links free cache in
          c.draw.ensures.state cells links cache ∙ ap (drawing m) (c.loop-k.invariant.state cells links cache) ∙ one_drawn s m wanted found fair c.loop-k._k (omega arith);
      rest = c.draw.ensures.rest ∙ c.loop-k.invariant.rest;
    }

pub returns-clause-answer : goal.returns-clause-answer
returns-clause-answer g c =
    let k = c.args.self.now in
    let m = c.in_ok-m.m in
    let tasks = tasks_of k.tasks in
    let free = g.F.Bag.means c.args.free.now in
    let wanted = c.in_ok-wanted.wanted in
    let slot = told (has_slot k.directory c.args.m) _ c.args.m m c.in_ok-m.ensures in
    let checks : Ok wanted ≡ reserve_checks k.directory (length free.members) tasks m =
    c.in_ok-wanted.ensures.checks ∙ ap (λ n. reservable_of n (tasks m)) c.count.ensures ∙ reserve_asked k.directory (length free.members) tasks m (ap (has_slot k.directory) slot.1 ∙ slot.0) in
    let end : c.loop-k._k ≡ wanted = omega arith in
    record {
      result = λ cells links cache.
          let s = state_with k cells links free cache in
          ap (accepted wanted) (c.loop-k.invariant.state cells links cache ∙ ap (reserving s m) end)
          ∙ passed s (reserve_checks k.directory (length free.members) tasks m) (λ n. accepted n (reserving s m n)) wanted checks
          ∙ ap (λ j. by s (reserve_checks k.directory (length free.members) tasks j) (λ n. accepted n (reserving s j n))) slot.1;
      rest = c.loop-k.invariant.rest;
    }
