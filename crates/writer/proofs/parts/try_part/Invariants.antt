use Rattle.std.proofs.Common.{◌≡◌, drop}
use Rattle.writer.specs.Write.{first_fault}
use Rattle.writer.proofs.parts.try_part.Given as goal

abbrev pub invariant-loop-place : goal.invariant-loop-place
invariant-loop-place g l =
    let part = g.R.ListedRecord in
    g.D.Dossier.rule l.dossier ×
    (g.D.Dossier.meaning l.dossier ≡ g.D.Dossier.meaning l.initial.dossier) ×
    (first_fault part.PART l.place (drop l.place (part.list (g.D.Dossier.meaning l.initial.dossier))) ≡ first_fault part.PART 0 (part.list (g.D.Dossier.meaning l.initial.dossier)))
