use Rattle.std.proofs.Common.{◌≡◌, Ok, ◌∙◌, ap, rules}
use Rattle.rules.specs.Course.{advance_answer}
use Rattle.rules.proofs.Acceptance.{advancing}
use Rattle.checking.proofs.checking.Checking.advance.Goals as goal

pub returns-in_err-admit-clause-law : goal.returns-in_err-admit-clause-law
returns-in_err-admit-clause-law g c = λ cs e genuine one l.
    let s = c.args.self.now in
    let answer : c.from_residual.result ≡ advance_answer s.dossier s.progress c.args.k = search rules in
    answer ∙ ap (λ p. advance_answer s.dossier p c.args.k) e ∙ advancing s.dossier c.head.ensures.made genuine cs c.args.k one l

pub returns-clause-law : goal.returns-clause-law
returns-clause-law g c = λ cs e genuine one l.
    let s = c.args.self.now in
    let answer : Ok c.map_or.result ≡ advance_answer s.dossier s.progress c.args.k = search rules in
    answer ∙ ap (λ p. advance_answer s.dossier p c.args.k) e ∙ advancing s.dossier c.head.ensures.made genuine cs c.args.k one l
