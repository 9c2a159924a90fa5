use Rattle.std.proofs.Common.{sym, ap, ◌∙◌, subst}
use Rattle.rules.specs.declared.call.Call.TheVariants.{Advance}
use Rattle.rules.specs.declared.progress.Progress.{Progress}
use Rattle.rules.specs.Course.{after_from, closing}
use Rattle.rules.specs.Laws.{Closes}
use Rattle.rules.proofs.Acceptance.{acceptance}
use Rattle.checking.proofs.Made.{one_made, all_made}
use Rattle.checking.proofs.calls.run_calls.Goals as goal

pub loop-call-preserved : goal.loop-call-preserved
loop-call-preserved g c =
    let m = c.begin-checking.result.dossier in
    let n = c.loop-call.checking.dossier in
    let calls = c.args.calls.now in
    let inv = c.loop-call.invariant in (
      c.make.ensures.same ∙ inv.0,
      one_made m n (after_from m c.begin-checking.result.progress calls) c.loop-call.checking.progress c.make.new.checking.progress calls c.loop-call.call-index (Advance 0) c.loop-call-test.true inv.0 c.make.ensures.progress inv.1,
    )

pub returns : goal.returns
returns g c =
    let m = g.D.Dossier.meaning c.args.dossier in
    let made = all_made m c.begin-checking.result.dossier c.loop-call.checking.progress c.begin-checking.result.progress c.args.calls.now c.loop-call.call-index c.loop-call-test.false c.loop-call.auto.call-index-end c.begin-checking.ensures.same c.begin-checking.ensures.progress c.loop-call.invariant.1 in
    let said = c.close.ensures.outcome ∙ ap closing made in
    record {
      outcome = said;
      head = c.close.ensures.head ∙ ap (λ (x : Progress). x.head) made;
      law = subst (Closes m c.args.calls.now) (sym said) (acceptance m c.begin-checking.ensures.made c.args.calls.now);
    }
