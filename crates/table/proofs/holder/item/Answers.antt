use Rattle.std.proofs.Common.{Ok, Err, sym, ap, ◌∙◌, map}
use Rattle.std.specs.List.{slice_get}
use Rattle.dossier.specs.declared.refusal.Refusal.TheVariants.{Past}
use Rattle.dossier.specs.Meaning.{item_answer}
use Rattle.table.specs.Held.{listed}
use Rattle.table.proofs.Answered.{inside, beyond}
use Rattle.table.proofs.holder.item.Goals as goal

pub returns-in-Some : goal.returns-in-Some
returns-in-Some g c = ap (λ p. Err (Past p c.args.place)) c.PART-part.ensures ∙ beyond g.E.Entry.recorded g.E.Record.ListedRecord.PART c.args.head c.args.entries.now c.args.place c.if-place-entries.true

pub returns-in-Some-2 : goal.returns-in-Some-2
returns-in-Some-2 g c =
    ap Ok (c.record.ensures)
    ∙ inside g.E.Entry.recorded g.E.Record.ListedRecord.PART c.in-Some.field-0 c.args.entries.now c.args.place c.index-entries-place.result c.if-place-entries.false c.index-entries-place.is
    ∙ ap (λ h. item_answer g.E.Record.ListedRecord.PART c.args.place (slice_get (listed h (map g.E.Entry.recorded c.args.entries.now)) c.args.place)) (sym c.in-Some.is)
