use Rattle.std.proofs.Common.{sym, ap, ◌∙◌, subst}
use Rattle.rules.specs.Course.{closing}
use Rattle.rules.specs.Laws.{Closes}
use Rattle.rules.proofs.Acceptance.{acceptance}
use Rattle.checking.proofs.checking.Checking.close.Goals as goal

pub returns-clause-law : goal.returns-clause-law
returns-clause-law g c =
    let m = c.args.self.dossier in
    λ cs e. subst (Closes m cs) (sym (c.new.ensures.outcome ∙ ap closing e)) (acceptance m c.head.ensures.made cs)
