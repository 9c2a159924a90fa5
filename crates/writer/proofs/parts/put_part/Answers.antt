use Rattle.std.proofs.Common.{◌≡◌, ◌+◌, ◌-◌, ◌*◌, ◌<◌, ◌≤◌, length, take, drop, sym, refl, ap, ◌∙◌, arith}
use borrow.Rule.Slice.PartMut.{put_mid}
use Rattle.std.specs.List.{slice_get}
use Rattle.dossier.specs.Meaning.{Meaning, item_answer}
use Rattle.codec.proofs.Items.{one_on}
use Rattle.writer.specs.Write.{put}
use Rattle.writer.proofs.Faults.{part_length}
use Rattle.writer.proofs.Puts.{field_within, put_more}
use Rattle.writer.proofs.parts.put_part.Goals as goal

pub loop-place-preserved : goal.loop-place-preserved
loop-place-preserved g c =
    let inv = c.loop-place.invariant in
    let place = c.loop-place.place in
    let out = c.loop-place.out in
    let kind = g.R.Kind in
    let part = g.R.ListedRecord in
    let m = g.D.Dossier.meaning c.args.dossier.now in
    let h = c.args.head in
    let xs = part.list m in
    let start = g.R.FilePart.start h in
    let size = 3 + kind.SIZE in
    let at = start + size * place in
    let from = c.field_range.result.start in
    let to = c.field_range.result.end in
    let begins : from ≡ at = c.field_range.ensures.start in
    let ends : to ≡ at + size = let e = c.field_range.ensures.end in omega arith in
    let long = part_length m h part.count g.R.Record.numbers xs c.requires.under (g.met.R.ListedRecord.listed m c.requires.under.made) in
    let within = g.met.R.FilePart.placed.within h in
    let room : at + size ≤ length out = field_within start size size start place (part.count h) c.count-place-end.result (length out) refl refl c.count-place-end.ensures c.loop-place-test.true (omega (arith, c.loop-place.auto.out, c.requires.room, within)) in
    let inside : place < length xs = omega (arith, c.count-place-end.ensures, long) in
    let asked = item_answer part.PART place (slice_get xs place) in
    let ys-is = c.put_item.ensures.bytes ∙ ap (λ (x : Meaning). put kind.TAG kind.SIZE kind.payload (item_answer part.PART place (slice_get (part.list x) place)) (take (to - from) (drop from out))) inv.1 ∙ ap (λ n. put kind.TAG kind.SIZE kind.payload asked (take (to - n) (drop n out))) begins ∙ ap (λ n. put kind.TAG kind.SIZE kind.payload asked (take (n - at) (drop at out))) ends in
    let ys = c.put_item.new.field in
    let put = put_more kind.TAG kind.SIZE g.R.Record.numbers kind.payload kind.parsed g.met.R.Kind.form part.PART place at size (to - from) xs out ys (take start c.args.out.now) refl room inside c.requires.readable inv.2 ys-is in (
      c.put_item.ensures.kept,
      c.put_item.ensures.same ∙ inv.1,
      ap (λ n. take n (put_mid from (to - from) out ys)) (sym (one_on start size size at place refl refl)) ∙ ap (λ n. take (at + size) (put_mid n (to - from) out ys)) begins ∙ put,
    )
