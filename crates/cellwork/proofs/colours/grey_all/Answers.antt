use Rattle.std.proofs.Common.{ℕ, get_or, None, Option, sym, ap, ◌∙◌, add-one}
use Rattle.cells.specs.Memory.{Cells}
use Rattle.rules.specs.Greying.{greyed_if, greyed_to}
use Rattle.cellwork.proofs.colours.grey_all.Goals as goal

pub loop-v-preserved : goal.loop-v-preserved
loop-v-preserved g c =
    let held : ℕ → Option ℕ = λ j. get_or c.args.registers j None in
    let i = c.loop-v.v-index in
    record {
      after = c.grey.ensures.after ∙ ap (λ (m : Cells). greyed_if m (held i)) c.loop-v.invariant.after ∙ ap (λ k. greyed_to k (g.M.CellMemory.means c.args.memory.now) held) (sym (add-one i));
      rest = c.grey.ensures.rest ∙ c.loop-v.invariant.rest;
    }
