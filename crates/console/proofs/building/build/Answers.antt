use Rattle.std.proofs.Common.{◌≡◌, ℕ, Ok, Err, Result, sym, ◌∙◌, ap₂}
use Rattle.cells.specs.declared.Colour.TheVariants.{Black}
use Rattle.cells.specs.Memory.{coloured}
use Rattle.rules.specs.declared.Refusal.{Refusal}
use Rattle.rules.specs.State.{accepted, has_slot, in_slot, with_cells, with_task}
use Rattle.rules.specs.Makings.{begin_making, make_checks, unlinked}
use Rattle.rules.proofs.Checked.{need_passed, idle_passed}
use Rattle.rules.proofs.States.{passed}
use Rattle.symbols.specs.Views.{state_of}
use Rattle.symbols.proofs.Loans.{same_then}
use Rattle.console.specs.Building.{build_checks, built}
use Rattle.console.proofs.Built.{asked_registers, answered, build_found, built_of, err_is_no_ok, finished, found_by}
use Rattle.console.proofs.building.build.Goals as goal

pub returns-in-Ok : goal.returns-in-Ok
returns-in-Ok g c =
    let view = state_of g.M.CellMemory g.F.Bag g.C.Bag in
    let s = view c.args.symbols.now in
    let m = c.args.m in
    let ticket = c.in_ok-ticket.ticket in
    let registers = asked_registers s.directory s.tasks m c.args.a c.args.b c.max.result _ c.max.ensures c.in_ok-register.ensures in
    let begins = λ (y : ℕ). with_cells (with_task s m (in_slot (begin_making y) (s.tasks m))) (unlinked (coloured s.cells y Black) y) in
    let checks = found_by s (make_checks s.directory s.tasks m) begins ticket.cell (view c.make.new.self) c.in_ok-ticket.ensures.does.result in
    let x = ticket.cell in
    let end = built_of s (view c.make.new.self) (view c.carry_on.new.self) (view c.fill.new.self) (view c.finish.new.self) m c.args.b c.args.a x ticket.slot _ _ _ _ c.in_ok-ticket.ensures.does.result c.carry_on.ensures.result c.fill.ensures.result c.finish.ensures.does.result c.in_ok-ticket.ensures.slot in
    record {
      result =
          ap₂ accepted c.cell-cell.ensures end
          ∙ passed s (build_checks s.directory s.tasks m c.args.b c.args.a) (λ y. accepted y (built m c.args.b c.args.a y s)) x (build_found s.directory s.tasks m c.args.b c.args.a x registers.0 registers.1 registers.2 checks);
      lent =
          same_then g.M.CellMemory g.F.Bag g.C.Bag
          (same_then g.M.CellMemory g.F.Bag g.C.Bag (same_then g.M.CellMemory g.F.Bag g.C.Bag c.in_ok-ticket.ensures.does.lent c.carry_on.ensures.lent) c.fill.ensures.lent)
          c.finish.ensures.does.lent;
    }

pub returns-in-Err : goal.returns-in-Err
returns-in-Err g c =
    let view = state_of g.M.CellMemory g.F.Bag g.C.Bag in
    let s = view c.args.symbols.now in
    let m = c.args.m in
    let ticket = c.in_ok-ticket.ticket in
    let registers = asked_registers s.directory s.tasks m c.args.a c.args.b c.max.result _ c.max.ensures c.in_ok-register.ensures in
    let begins = λ (y : ℕ). with_cells (with_task s m (in_slot (begin_making y) (s.tasks m))) (unlinked (coloured s.cells y Black) y) in
    let checks = found_by s (make_checks s.directory s.tasks m) begins ticket.cell (view c.make.new.self) c.in_ok-ticket.ensures.does.result in
    let x = ticket.cell in
    let passes = need_passed (has_slot s.directory m) _ _ x (sym checks) in
    let task = idle_passed (s.tasks m) _ x passes.1 in
    let ends = finished s m c.args.b c.args.a x task.0 registers.0 task.1.0 checks registers.1 in
    let told = answered s (view c.make.new.self) (view c.carry_on.new.self) (view c.fill.new.self) (view c.finish.new.self) m c.args.b c.args.a x ticket.slot _ _ _ _ c.in_ok-ticket.ensures.does.result c.carry_on.ensures.result c.fill.ensures.result c.in-Err.ensures.does.result c.in_ok-ticket.ensures.slot in
    let wrong : ◌≡◌ {A = Result ℕ Refusal} (Err c.in-Err.field-0.refusal) (Ok 0) = told ∙ ends in
    absurd (err_is_no_ok wrong)
