use Rattle.std.proofs.Common.{arith}
use Rattle.runner.proofs.label.label.Goals as goal
use Rattle.runner.proofs.Labels.{label_more}

pub loop-line-preserved : goal.loop-line-preserved
loop-line-preserved c = label_more c.args.rows.now c.loop-line.rows c.requires.openings (omega arith) c.loop-line.invariant (omega arith) c.with_line.result _ c.with_line.ensures
