use Rattle.findings.proofs.tables.part.Given as goal

abbrev pub invariant-loop-place : goal.invariant-loop-place
invariant-loop-place g l = g.D.Dossier.rule l.dossier
