use Rattle.std.proofs.Common.{◌≤◌, is_some, sym, ap, ◌∙◌, arith}
use Rattle.rules.specs.declared.progress.Progress.{Progress}
use Rattle.checking.proofs.Taking.{taking_stays, taking_more, took_taken}
use Rattle.checking.proofs.checking.Checking.take_units.Goals as goal

pub returns-then-is_some-clause-progress : goal.returns-then-is_some-clause-progress
returns-then-is_some-clause-progress g c =
    let s = c.args.self.now in
    let at = c.loop.invariant.1 in
    let few : c.loop.counter ≤ c.args.k = omega arith in
    let some = ap (λ (q : Progress). is_some q.finding) (sym at) ∙ sym c.is_some.ensures ∙ c.if-is_some.true in
    at ∙ sym (taking_stays s.dossier s.progress c.loop.counter c.args.k few some)

pub loop-preserved : goal.loop-preserved
loop-preserved g c =
    let s = c.args.self.now in
    let q = c.loop.self in
    let r = c.take.new.self.progress in
    let inv = c.loop.invariant in
    let most = took_taken q.dossier q.progress r c.take.ensures.progress in (
      c.take.ensures.same ∙ inv.0,
      taking_more s.dossier q.dossier s.progress q.progress r c.loop.counter inv.0 inv.1 (sym c.is_some.ensures ∙ c.if-is_some.false) c.take.ensures.progress,
      omega arith,
    )
