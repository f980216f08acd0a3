use Rattle.std.proofs.Common.{ℕ, Option, Some, ap, rules}
use Rattle.rules.specs.Tasks.{with_held}
use Rattle.tasks.specs.Pools.{pool_of}
use Rattle.tasks.proofs.Writing.{register_written, slot_changed}
use Rattle.tasks.proofs.slots.Tasks.hold.Goals as goal

pub returns-in-Some : goal.returns-in-Some
returns-in-Some c =
    let t = c.in-Some.holder in
    slot_changed c.args.self.now.slots c.args.m _ t _ (λ s. with_held s c.args.b c.args.v) c.args.self.now.eight (search rules) (search rules) c.in-Some.is
    (ap (λ (rs : ℕ → Option ℕ). Some (record { status = t.status; registers = rs; pool = pool_of t.pool; work = t.work })) (register_written t.registers c.args.b _ _ (search rules) (search rules) (search rules)))
