use Rattle.std.proofs.Common.{rules}
use Rattle.std.proofs.iter.runs.Made.{chains}
use Rattle.runner.proofs.limits.check_form.Goals as goal

pub returns-in-Some : goal.returns-in-Some
returns-in-Some c = search (rules, chains)

pub returns-in-None : goal.returns-in-None
returns-in-None c = search (rules, chains)
