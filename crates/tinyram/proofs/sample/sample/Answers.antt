use Rattle.std.proofs.Common.{rules}
use Rattle.tinyram.proofs.Logged.{sample_log}
use Rattle.tinyram.proofs.sample.sample.Goals as goal

pub returns : goal.returns
returns c = record { program = search rules; log = sample_log }
