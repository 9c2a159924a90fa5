use Rattle.std.proofs.Common.{◌≡◌, ◌+◌, ◌-◌, ◌*◌, Bool, true, cond, ◌&&◌, eqb, length, get_or, take, drop, None, sym, ap, ◌∙◌, arith, length-drop}
use Rattle.std.proofs.lemmas.List.{take_all}
use Rattle.std.proofs.lemmas.Bool.Decides.{nat_tests}
use Rattle.field.proofs.kind.read_field.Goals as goal

pub returns : goal.returns
returns g c =
    let bs = c.args.field.now in
    let whole : take (length bs - 3) (drop 3 bs) ≡ drop 3 bs = take_all (length bs - 3) (drop 3 bs) (simp length-drop (omega arith)) in
    let len = ap length whole in
    let passes : (eqb (length bs) (3 + g.K.Kind.SIZE) && (eqb (get_or bs 0 0) g.K.Kind.TAG && eqb (get_or bs 1 0 + get_or bs 2 0 * 256) g.K.Kind.SIZE)) ≡ true = let count = length-drop 3 bs in grind (arith, nat_tests) in
    c.read.ensures ∙ ap g.K.Kind.parsed whole ∙ sym (ap (λ (b : Bool). cond b (g.K.Kind.parsed (drop 3 bs)) None) passes)
