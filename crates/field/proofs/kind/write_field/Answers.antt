use Rattle.std.proofs.Common.{◌≡◌, ℕ, ◌+◌, ◌-◌, ◌/◌, ◌%◌, List, length, get_or, set, ap, ◌∙◌, mod-eq_of_lt, arith, length-set}
use Rattle.std.proofs.lemmas.Nat.{div_below}
use Rattle.field.specs.Fields.{field_put}
use Rattle.field.proofs.kind.write_field.Goals as goal

pub returns : goal.returns
returns g c =
    let bs = c.args.field.now in
    let size = c.SIZE-2.result in
    let tag = c.TAG.result in
    let lo = get_or c.to_le_bytes.result 0 0 in
    let hi = get_or c.to_le_bytes.result 1 0 in
    let is-size : size ≡ g.K.Kind.SIZE = c.SIZE-2.ensures in
    let long : length bs ≡ 3 + g.K.Kind.SIZE = omega (arith, c.SIZE.ensures) in
    let rest : length (set (set (set bs 0 tag) 1 lo) 2 hi) - 3 ≡ g.K.Kind.SIZE = simp length-set (omega arith) in
    let low : lo ≡ g.K.Kind.SIZE % 256 = ap (λ (x : List ℕ). get_or x 0 0) c.to_le_bytes.ensures ∙ ap (λ x. x % 256) is-size in
    let high : hi ≡ g.K.Kind.SIZE / 256 = ap (λ (x : List ℕ). get_or x 1 0) c.to_le_bytes.ensures ∙ mod-eq_of_lt (div_below size 256 256 (omega arith) (omega arith)) ∙ ap (λ x. x / 256) is-size in
    field_put g.K.Kind.TAG g.K.Kind.SIZE tag lo hi (length (set (set (set bs 0 tag) 1 lo) 2 hi) - 3) bs (g.K.Kind.payload c.args.item.now) c.write.new.bytes long (g.met.K.Kind.form.long c.args.item.now) c.TAG.ensures low high rest c.write.ensures
