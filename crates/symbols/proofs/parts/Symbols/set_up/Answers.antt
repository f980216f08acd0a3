use Rattle.std.proofs.Common.{◌≡◌, sym, ap, ◌∙◌, arith}
use Rattle.rules.specs.State.{State, accepted}
use Rattle.rules.specs.SettingUp.{begun, set_up_checks}
use Rattle.rules.proofs.States.{passed}
use Rattle.tasks.specs.Parts.{tasks_of}
use Rattle.symbols.specs.Laying.{laying}
use Rattle.symbols.specs.Views.{state_of}
use Rattle.symbols.proofs.LayingOut.{one_laid, laid_begun}
use Rattle.symbols.proofs.Lawfulness.{set_up_lawful}
use Rattle.symbols.proofs.Loans.{same_then}
use Rattle.symbols.proofs.parts.Symbols.set_up.Goals as goal

pub loop-x-preserved : goal.loop-x-preserved
loop-x-preserved g c =
    let s = state_of g.M.CellMemory g.F.Bag g.C.Bag c.args.self.now in
    let d = c.args.d in
    let x = c.loop-x.x in
    record {
      state = c.lay.ensures.state ∙ ap (λ (t : State). laying t d x) c.loop-x.invariant.state ∙ one_laid s d x (omega arith);
      lent = same_then g.M.CellMemory g.F.Bag g.C.Bag c.loop-x.invariant.lent c.lay.ensures.lent;
    }

pub returns : goal.returns
returns g c =
    let m = g.M.CellMemory in
    let s = state_of m g.F.Bag g.C.Bag c.args.self.now in
    let d = c.args.d in
    let control = c.new-self.result in
    let all : c.loop-x.x ≡ s.cells.size = omega arith in
    let begins =
    ap (accepted 0) (laid_begun s (state_of m g.F.Bag g.C.Bag c.loop-x.self) d control.directory c.loop-x.x (tasks_of control.tasks) control.collector
    (m.sound c.args.self.now.memory.now) c.loop-x.invariant.state all c.new-self.ensures.directory c.new-self.ensures.tasks c.new-self.ensures.collector)
    ∙ passed s (set_up_checks d s) (λ _. accepted 0 (begun s d)) tt c.in_ok-check_set_up.ensures in
    record {
      rule = record {
        result = begins;
        lent = record {
          memory = c.loop-x.invariant.lent.memory;
          free = c.loop-x.invariant.lent.free;
          cache = c.loop-x.invariant.lent.cache;
          spare = c.loop-x.invariant.lent.spare;
          free_spare = c.loop-x.invariant.lent.free_spare;
          cache_spare = c.loop-x.invariant.lent.cache_spare;
        };
      };
      law = set_up_lawful m g.met.M.CellMemory.few g.F.Bag g.C.Bag c.args.self.now d _ (sym begins);
    }
