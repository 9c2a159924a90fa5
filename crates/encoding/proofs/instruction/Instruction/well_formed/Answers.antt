use Rattle.std.proofs.Common.{◌∙◌}
use Rattle.encoding.proofs.Formed.{formed_is}
use Rattle.encoding.proofs.instruction.Instruction.well_formed.Goals as goal

pub returns : goal.returns
returns c = c.is_readable.ensures ∙ formed_is c.args.self
