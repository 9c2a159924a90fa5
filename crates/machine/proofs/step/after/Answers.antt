use Rattle.std.proofs.Common.{sym, subst}
use Rattle.machine.specs.Laws.{Leaves}
use Rattle.machine.proofs.Laws.{left_leaves}
use Rattle.machine.proofs.step.after.Goals as goal

pub returns-clause-bytes : goal.returns-clause-bytes
returns-clause-bytes c = subst (Leaves c.args.operation c.args.cpu.now c.args.before) (sym c.leave.ensures) (left_leaves c.args.operation c.args.cpu.now c.args.before)
