use Rattle.std.proofs.Common.{arith, rules}
use Rattle.std.proofs.Output.{has_written_append, has_written_of_eq}
use Rattle.printer.proofs.Back.{printed_more}
use Rattle.printer.proofs.listing.ListingDisplay.fmt.Goals as goal

pub loop-instruction-preserved : goal.loop-instruction-preserved
loop-instruction-preserved g c =
    λ plain.
    has_written_of_eq _ _ _ _ _ (printed_more c.args.self.now.0.now c.loop-instruction.instruction-index (record { first = 0; second = 0 }) (omega arith))
    (has_written_append _ _ _ _ _ _ (c.loop-instruction.invariant plain) (search rules))
