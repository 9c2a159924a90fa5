use Rattle.std.proofs.Common.{ℕ, ◌+◌, add-one, sym, ◌∙◌, eqb, rules}
use Rattle.std.proofs.lemmas.Iterator.{YieldsList-from_slice}
use Rattle.std.proofs.lemmas.Iterator.Consumers.{YieldsList-from_enumerate}
use Rattle.std.proofs.lemmas.Iterator.Search.{all_from_yields_List}
use Rattle.dossier.specs.declared.record.Row.{Row}
use Rattle.dossier.specs.declared.record.Row.TheVariants.{Plain}
use Rattle.run_log.specs.Log.{zeroed}
use Rattle.run_log.specs.Rules.{link_finding}
use Rattle.run_log.proofs.Each.{no_finding_each}
use Rattle.run_log.proofs.links.Log.rows_keep.Goals as goal

pub returns : goal.returns
returns c =
    let rs = c.args.self.rows.now in
    let f : ℕ → Row → ℕ = λ i r. link_finding zeroed rs c.args.self.lines.now (i + 1) r in
    let rows = YieldsList-from_enumerate {s = c.enumerate.result} (YieldsList-from_slice rs (search rules)) (search rules) in
    let e = all_from_yields_List (λ p. eqb (f p.0 p.1) 0) _ _ c.all.result c.all.ensures.ran rows (λ x b q k. search rules) in
    let d = no_finding_each f rs Plain in (
      λ t i l. rw add-one at (d.0 (sym e ∙ t) i l),
      λ h. e ∙ d.1 (λ i l. rw add-one (h i l)),
    )
