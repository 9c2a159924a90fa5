use Rattle.std.proofs.Common.{sym, ◌∙◌}
use Rattle.encoding.proofs.Inverse.{decoded_only}
use Rattle.encoding.proofs.instruction.Instruction.decode.Goals as goal

pub returns-clause-only : goal.returns-clause-only
returns-clause-only c = λ o e. decoded_only _ o (sym c.read.ensures ∙ e)
