use Rattle.std.proofs.Common.{arith}
use Rattle.lexer.proofs.Split.{lines_length}
use Rattle.assembler.proofs.labels.Labels.scan.Goals as goal

pub loop-i-init-derived : goal.loop-i-init-derived
loop-i-init-derived c = grind (arith, lines_length c.args.text.now)
