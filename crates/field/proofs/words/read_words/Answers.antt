use Rattle.std.proofs.Common.{rules, ◌*◌, Bool, cond, length, Some, None, sym, refl, ap, ◌∙◌, eq-eqb}
use Rattle.field.specs.Bytes.{word_at, words_at}
use Rattle.field.proofs.ByPlace.{made_by, words_by_place}
use Rattle.field.proofs.words.read_words.Goals as goal

pub returns : goal.returns
returns g c =
    let bs = c.args.bytes.now in
    let made = made_by _ _ (λ i. word_at bs (4 * i)) (λ i y q called. search rules) c.from_fn.result g.row.N c.from_fn.ensures.items in
    ap Some (made ∙ sym (words_by_place bs 0 0 g.row.N refl)) ∙ sym (ap (λ (b : Bool). cond b (Some (words_at bs 0 g.row.N)) None) (eq-eqb (length bs) (4 * g.row.N) c.if-bytes.false))
