use Rattle.std.proofs.Common.{◌≡◌, Ok, Result, ◌∙◌, rules}
use Rattle.dossier.specs.declared.record.Head.{Head}
use Rattle.dossier.specs.declared.refusal.Refusal.{Refusal}
use Rattle.layers.proofs.Agree.{agreeing}
use Rattle.layers.proofs.pair.Pair.item.Goals as goal

pub returns-clause-answer : goal.returns-clause-answer
returns-clause-answer g c =
    let kind = g.R.ListedRecord in
    let numbers = g.R.Record.numbers in
    let pair = c.args.self.now in
    let a = g.A.Dossier.meaning pair.first in
    let b = g.B.Dossier.meaning pair.second in
    let pairs = c.requires.2 in
    let listed = g.met.R.ListedRecord.listed in
    let h = c.in_ok-map_err.field-0 in
    let is : ◌≡◌ {A = Result Head Refusal} (Ok h) pair.head = search rules in
    let agree = agreeing numbers kind.PART c.args.place kind.list a b kind.count h (listed a pairs.first) (listed b pairs.second) (is ∙ pairs.both_say) in
    let p = c.PART-part.ensures in
    let x = c.ask-first.ensures.answer in
    let y = c.ask-second.ensures.answer in
    c.common.ensures ∙ cc
