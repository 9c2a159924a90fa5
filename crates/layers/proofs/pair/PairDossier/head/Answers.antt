use Rattle.layers.proofs.Agree.{made_pair}
use Rattle.layers.proofs.pair.PairDossier.head.Goals as goal

pub returns-clause-made : goal.returns-clause-made
returns-clause-made g c = made_pair (g.A.Dossier.meaning c.args.self.now.first) (g.B.Dossier.meaning c.args.self.now.second) c.requires.2.first c.requires.2.second
