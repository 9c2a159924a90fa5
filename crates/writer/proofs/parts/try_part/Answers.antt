use Rattle.std.proofs.Common.{◌<◌, length, Err, sym, ap, ◌∙◌, arith}
use Rattle.std.specs.List.{slice_get}
use Rattle.std.proofs.lemmas.Result.{err_from_is_err_and}
use Rattle.dossier.specs.Meaning.{Meaning, item_answer}
use Rattle.writer.proofs.Faults.{part_length, fault_here, fault_later, fault_none}
use Rattle.writer.proofs.parts.try_part.Goals as goal

pub returns-in_err-ask : goal.returns-in_err-ask
returns-in_err-ask g c =
    let long = part_length (g.D.Dossier.meaning c.args.dossier.now) c.args.head g.R.ListedRecord.count g.R.Record.numbers (g.R.ListedRecord.list (g.D.Dossier.meaning c.args.dossier.now)) c.requires.under (g.met.R.ListedRecord.listed (g.D.Dossier.meaning c.args.dossier.now) c.requires.under.made) in
    let p = err_from_is_err_and c.from_residual.result c.from_residual.ensures.1 in
    let told = c.in_err-ask.ensures in
    let inv = c.loop-place.invariant in
    let place = c.loop-place.place in
    let m = g.D.Dossier.meaning c.args.dossier.now in
    let xs = g.R.ListedRecord.list m in
    let within : place < length xs = omega (arith, c.count-place-end.ensures, long) in
    let said = told.answer ∙ ap (λ (x : Meaning). item_answer g.R.ListedRecord.PART place (slice_get (g.R.ListedRecord.list x) place)) inv.1 in
    let fault = fault_here g.R.ListedRecord.PART place place xs c.in_err-ask.field-0.0 within said in
    let same = p.2 in
    record { kept = told.kept; same = told.same ∙ inv.1; answer = p.1 ∙ ap Err same ∙ sym fault ∙ inv.2 }

pub loop-place-preserved : goal.loop-place-preserved
loop-place-preserved g c =
    let long = part_length (g.D.Dossier.meaning c.args.dossier.now) c.args.head g.R.ListedRecord.count g.R.Record.numbers (g.R.ListedRecord.list (g.D.Dossier.meaning c.args.dossier.now)) c.requires.under (g.met.R.ListedRecord.listed (g.D.Dossier.meaning c.args.dossier.now) c.requires.under.made) in
    let told = c.in_ok-ask.ensures in
    let inv = c.loop-place.invariant in
    let place = c.loop-place.place in
    let m = g.D.Dossier.meaning c.args.dossier.now in
    let xs = g.R.ListedRecord.list m in
    let within : place < length xs = omega (arith, c.count-place-end.ensures, long) in
    let said = told.answer ∙ ap (λ (x : Meaning). item_answer g.R.ListedRecord.PART place (slice_get (g.R.ListedRecord.list x) place)) inv.1 in
    (told.kept, told.same ∙ inv.1, fault_later g.R.ListedRecord.PART place place xs c.in_ok-ask.field-0 within said ∙ inv.2)

pub returns : goal.returns
returns g c =
    let long = part_length (g.D.Dossier.meaning c.args.dossier.now) c.args.head g.R.ListedRecord.count g.R.Record.numbers (g.R.ListedRecord.list (g.D.Dossier.meaning c.args.dossier.now)) c.requires.under (g.met.R.ListedRecord.listed (g.D.Dossier.meaning c.args.dossier.now) c.requires.under.made) in
    let inv = c.loop-place.invariant in
    let place = c.loop-place.place in
    let xs = g.R.ListedRecord.list (g.D.Dossier.meaning c.args.dossier.now) in
    record { kept = inv.0; same = inv.1; answer = sym (fault_none g.R.ListedRecord.PART place place xs (omega (arith, c.count-place-end.ensures, long))) ∙ inv.2 }
