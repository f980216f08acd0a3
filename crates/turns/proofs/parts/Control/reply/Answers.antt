use Rattle.std.proofs.Common.{ℕ, cond, Option, ap, ◌∙◌, ap₂}
use Rattle.cells.specs.Memory.{Cells}
use Rattle.rules.specs.declared.Status.TheVariants.{Sync2}
use Rattle.rules.specs.State.{Task, accepted}
use Rattle.rules.specs.Greying.{greyed_to, same_status}
use Rattle.turns.proofs.parts.Control.reply.Goals as goal

pub returns : goal.returns
returns g c =
    let m = g.M.CellMemory in
    let k = c.args.self.now in
    let before = m.means c.args.memory.now in
    record {
      result = λ free cache.
          ap₂ (λ (cells : Cells) (tasks : ℕ → Option Task). accepted 1 (record { cells = cells; links = m.links; free = free; cache = cache; directory = k.directory; tasks = tasks; collector = k.collector }))
          (c.grey_reply.ensures.after ∙ ap (λ (held : ℕ → Option ℕ). cond (same_status c.args.status Sync2) (greyed_to 8 before held) before) c.registers.ensures)
          c.set_status.ensures;
      rest = c.grey_reply.ensures.rest;
    }
