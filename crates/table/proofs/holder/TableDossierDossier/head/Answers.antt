use Rattle.table.proofs.Counted.{made_tables}
use Rattle.table.proofs.holder.TableDossierDossier.head.Goals as goal

pub returns-clause-made : goal.returns-clause-made
returns-clause-made c =
    let d = c.args.self.now in
    made_tables d.bound d.program.now d.primary.now d.cells.now d.rows.now c.requires.0
