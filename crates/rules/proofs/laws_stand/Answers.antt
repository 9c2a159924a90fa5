use Rattle.rules.proofs.Acceptance.{acceptance, advancing}
use Rattle.rules.proofs.Dossiers.{existence, uniqueness}
use Rattle.rules.proofs.laws_stand.Goals as goal

pub returns : goal.returns
returns c = record { acceptance = acceptance; advancing = advancing; existence = existence; uniqueness = uniqueness }
