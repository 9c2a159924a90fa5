use Rattle.std.proofs.Common.{◌≡◌, [], ◌∷◌, sym, subst, rules}
use Rattle.rules.specs.declared.call.Call.TheVariants.{Advance}
use Rattle.rules.specs.Course.{begun, after, left, closing}
use Rattle.rules.proofs.Acceptance.{acceptance, all_at_once}
use Rattle.rules.proofs.Dossiers.{existence, uniqueness}
use Rattle.checking.specs.Laws.{AcceptsGenuine}
use Rattle.checking.proofs.calls.check_all.Goals as goal

pub returns-clause-law : goal.returns-clause-law
returns-clause-law g c =
    let m = g.D.Dossier.meaning c.args.dossier in
    let said : c.close.result.outcome ≡ closing (after m (Advance (left (begun m)) ∷ [])) = search rules in
    subst (AcceptsGenuine m) (sym said) (all_at_once m c.begin-checking.ensures.made)

pub returns-clause-acceptance : goal.returns-clause-acceptance
returns-clause-acceptance g c = acceptance

pub returns-clause-existence : goal.returns-clause-existence
returns-clause-existence g c = existence

pub returns-clause-uniqueness : goal.returns-clause-uniqueness
returns-clause-uniqueness g c = uniqueness
