use Rattle.std.proofs.Common.{ℕ, eqb, rules}
use Rattle.std.proofs.lemmas.Iterator.{YieldsList-from_slice}
use Rattle.std.proofs.lemmas.Iterator.Adapters.{serves_from_places}
use Rattle.std.proofs.lemmas.Iterator.Consumers.{YieldsList-from_enumerate}
use Rattle.std.proofs.lemmas.Iterator.Search.{all_from_yields_List}
use Rattle.dossier.specs.declared.record.Line.{Line}
use Rattle.run_log.specs.Rules.{line_finding}
use Rattle.run_log.proofs.Each.{no_finding_each, placed}
use Rattle.run_log.proofs.links.Log.lines_keep.Goals as goal

pub returns : goal.returns
returns c =
    let ls = c.args.self.lines.now in
    let f : ℕ → Line → ℕ = λ j l. line_finding c.args.self.rows.now ls j in
    let lines = YieldsList-from_enumerate {s = c.enumerate.result} (YieldsList-from_slice ls (search rules)) (search rules) in
    let e = all_from_yields_List (λ p. eqb (f p.0 p.1) 0) _ _ c.all.result c.all.ensures.ran lines (λ x b q k. search rules) in
    rw e (no_finding_each f ls (record { cell = 0; step = 0 }))

pub all-requires-clause-callable : goal.all-requires-clause-callable
all-requires-clause-callable c =
    let ls = c.args.self.lines.now in
    let lines = YieldsList-from_enumerate {s = c.enumerate.result} (YieldsList-from_slice ls (search rules)) (search rules) in
    serves_from_places lines (λ x q r. search rules) (λ x k l e. let z = placed ls (record { cell = 0; step = 0 }) k (x.0, x.1.now) l e in search rules)
