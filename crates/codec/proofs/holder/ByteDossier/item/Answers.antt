use Rattle.std.proofs.Common.{◌≡◌, ◌≤◌, length, Some, None, Option, Err, ap, ◌∙◌, arith, rules}
use Rattle.std.specs.Option.{ok_or}
use Rattle.std.proofs.lemmas.Result.{err_from_is_err_and}
use Rattle.dossier.specs.declared.record.Head.{Head}
use Rattle.dossier.specs.declared.refusal.Refusal.TheVariants.{Past, Unreadable}
use Rattle.codec.proofs.Placed.{refused, no_head, past_end, in_file, found}
use Rattle.codec.proofs.holder.ByteDossier.item.Given as given
use Rattle.codec.proofs.holder.ByteDossier.item.Goals as goal

pub returns-in_err-head : goal.returns-in_err-head
returns-in_err-head g c =
    let kind = g.R.Kind in
    let list = g.R.ListedRecord in
    let none : ◌≡◌ {A = Option Head} None c.args.self.now.head = search rules in
    let told = no_head kind.TAG kind.SIZE kind.parsed list.list list.count g.R.FilePart.start g.met.R.FilePart.placed list.PART c.args.place c.args.self.now.bytes.now (none ∙ c.requires.1) in
    let err = err_from_is_err_and c.from_residual.result c.from_residual.ensures.1 in
    let past : c.in_err-head.field-0.0 ≡ Past c.PART-part.result c.args.place = refused c.args.self.now.head (Past c.PART-part.result c.args.place) c.ok_or.result c.in_err-head.field-0.0 none c.ok_or.ensures.value c.in_err-head.was in
    err.1 ∙ ap Err (err.2 ∙ past ∙ ap (λ p. Past p c.args.place) c.PART-part.ensures) ∙ told

pub returns-then-place-count : goal.returns-then-place-count
returns-then-place-count g c =
    let kind = g.R.Kind in
    let list = g.R.ListedRecord in
    let is : ◌≡◌ {A = Option Head} (Some c.in_ok-head.head) c.args.self.now.head = search rules in
    let told = past_end kind.TAG kind.SIZE kind.parsed list.list list.count g.R.FilePart.start g.met.R.FilePart.placed list.PART c.args.place c.args.self.now.bytes.now c.in_ok-head.head (is ∙ c.requires.1) (omega (arith, c.count.ensures)) in
    ap (λ p. Err (Past p c.args.place)) c.PART-part.ensures ∙ told

-- the field ends within the bytes
within : (g : given.Over) (c : goal.After-field_range g) → c.field_range.result.end ≤ length c.args.self.now.bytes.now
within g c =
    let kind = g.R.Kind in
    let list = g.R.ListedRecord in
    let is : ◌≡◌ {A = Option Head} (Some c.in_ok-head.head) c.args.self.now.head = search rules in
    in_file kind.TAG kind.SIZE kind.parsed list.list list.count g.R.FilePart.start g.met.R.FilePart.placed list.PART c.args.place c.args.self.now.bytes.now c.in_ok-head.head (is ∙ c.requires.1) c.field_range.result.start c.field_range.result.end c.field_range.ensures.start c.field_range.ensures.end (omega (arith, c.count.ensures))

pub slice_bounds-read_field-end : goal.slice_bounds-read_field-end
slice_bounds-read_field-end g c = let w = within g c in omega arith

pub returns : goal.returns
returns g c =
    let kind = g.R.Kind in
    let list = g.R.ListedRecord in
    let is : ◌≡◌ {A = Option Head} (Some c.in_ok-head.head) c.args.self.now.head = search rules in
    let told = found kind.TAG kind.SIZE kind.parsed list.list list.count g.R.FilePart.start g.met.R.FilePart.placed list.PART c.args.place c.args.self.now.bytes.now c.in_ok-head.head (is ∙ c.requires.1) c.field_range.result.start c.field_range.result.end c.field_range.ensures.start c.field_range.ensures.end (omega (arith, c.count.ensures)) c.read_field.result c.read_field.ensures in
    c.ok_or-2.ensures.value ∙ ap (ok_or c.read_field.result) c.unreadable.ensures ∙ ap (λ p. ok_or c.read_field.result (Unreadable (record { part = p; place = c.args.place; layer = 1 }))) c.PART-part.ensures ∙ told
