use Rattle.std.proofs.Common.{rules, ◌≡◌, ap, ◌∙◌, arith}
use Rattle.rules.specs.declared.Collector.{Collector}
use Rattle.rules.specs.State.{Outcome, accepted}
use Rattle.rules.specs.Collecting.{collect}
use Rattle.rules.specs.TurnNumbers.{turn_number}
use Rattle.tasks.specs.Parts.{tasks_of}
use Rattle.collecting.specs.Gathering.{gathered, scan_on, state_of_parts}
use Rattle.collecting.proofs.Untraced.{scan_is_collect}
use Rattle.collecting.proofs.collect.Goals as goal

pub returns-in-Scan-None-default-2-clause-turn : goal.returns-in-Scan-None-default-2-clause-turn
returns-in-Scan-None-default-2-clause-turn g c =
    let m = g.M.CellMemory in
    let free = g.F.Bag.means c.args.free.now in
    let d = c.args.directory in
    let tasks = tasks_of c.args.tasks.now in
    let marker = c.new-in-Scan-None-default-2.result in
    let lent = c.new-in-Scan-None-default-2.ensures in
    let at : g.row.M.Denot → g.row.C.Denot → Collector → Outcome = λ memory cache collector. scan_on (state_of_parts (m.means memory) m.links free (g.C.Bag.means cache) d tasks collector) collector.scanned in
    let s = gathered m g.F.Bag g.C.Bag c.args.memory.now c.args.free.now c.args.cache.now d tasks c.args.collector.now in
    let after = c.scan.new.self in
    let turn : accepted (turn_number c.scan.result) (state_of_parts (m.means after.memory.now) m.links free (g.C.Bag.means after.cache.now) d tasks after.collector.now) ≡ collect s =
    c.scan.ensures.state free d tasks
    ∙ ap (λ x. at x marker.cache.now marker.collector.now) lent.memory ∙ ap (λ x. at c.args.memory.now x marker.collector.now) lent.cache
    ∙ ap (at c.args.memory.now c.args.cache.now) lent.collector
    ∙ scan_is_collect s (λ e. omega arith) c.in-Scan-None-default-2.is-0 c.in-Scan-None-default-2.is-1 (omega arith) (search rules) in
    search rules
