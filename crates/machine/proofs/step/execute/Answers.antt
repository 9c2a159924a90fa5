use Rattle.std.proofs.Common.{sym, subst}
use Rattle.machine.specs.Laws.{Frame}
use Rattle.machine.proofs.Laws.{stepped_frame}
use Rattle.machine.proofs.step.execute.Goals as goal

pub returns-clause-frame : goal.returns-clause-frame
returns-clause-frame c = subst (Frame c.args.operation c.args.got c.args.cpu) (sym c.perform.ensures) (stepped_frame c.args.cpu c.args.operation c.args.got)
