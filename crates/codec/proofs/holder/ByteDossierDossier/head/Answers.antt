use Rattle.codec.proofs.Meant.{made_meaning}
use Rattle.codec.proofs.holder.ByteDossierDossier.head.Goals as goal

pub returns-clause-made : goal.returns-clause-made
returns-clause-made c = made_meaning c.args.self.now.bytes.now c.requires.0
