use Rattle.std.proofs.Common.{None, ap, ◌∙◌, arith}
use Rattle.cells.specs.Memory.{Cells, linked}
use Rattle.cellwork.proofs.Emptying.{one_emptied}
use Rattle.cellwork.proofs.links.empty_links.Goals as goal

pub loop-i-preserved : goal.loop-i-preserved
loop-i-preserved g c =
    let memory = g.M.CellMemory in
    let x = c.args.x in
    let i = c.loop-i.i in
    record {
      after = c.set_link.ensures.after ∙ ap (λ (m : Cells). linked memory.links m x i None) c.loop-i.invariant.after
          ∙ one_emptied memory.links (memory.means c.args.memory.now) (memory.sound c.args.memory.now) x i (omega arith);
      rest = c.set_link.ensures.rest ∙ c.loop-i.invariant.rest;
    }
