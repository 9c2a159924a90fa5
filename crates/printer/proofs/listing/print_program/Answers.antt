use Rattle.std.proofs.Common.{rules}
use Rattle.printer.proofs.Back.{printed_assembles}
use Rattle.printer.proofs.listing.print_program.Goals as goal

pub returns : goal.returns
returns c = record { bytes = search rules; back = printed_assembles }
