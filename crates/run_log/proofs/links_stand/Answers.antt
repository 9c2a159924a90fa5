use Rattle.run_log.proofs.links_stand.Goals as goal
use Rattle.run_log.proofs.Sound.{sound, unique}
use Rattle.run_log.proofs.Complete.{complete}
use Rattle.run_log.proofs.Tests.{decided, sample}
use Rattle.run_log.proofs.Worded.{worded}

pub returns : goal.returns
returns c = record { sound = sound; complete = complete; unique = unique; decided = decided; worded = worded; sample = sample }
