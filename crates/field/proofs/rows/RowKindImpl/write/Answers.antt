use Rattle.std.specs.List.{flat_map}
use Rattle.std.proofs.Common.{◌≡◌, ◌-◌, ◌∷◌, length, take, drop, set, ap, ◌∙◌, arith, length-set, length-take-le, length-drop}
use Rattle.dossier.specs.Numbers.{kind_number, row_numbers}
use Rattle.field.specs.Bytes.{bytes_of}
use Rattle.field.specs.Payload.{led}
use Rattle.field.specs.Fields.{filled_is}
use Rattle.field.specs.RowForm.{row_length, led_put}
use Rattle.field.proofs.rows.RowKindImpl.write.Goals as goal

pub returns-then-bytes : goal.returns-then-bytes
returns-then-bytes c =
    let bs = c.args.bytes.now in
    let row = c.args.self.now in
    let kind = c.from.result in
    let words = c.words_of.result in
    let m = length (set bs 0 kind) - 1 in
    let rest = drop 1 (set bs 0 kind) in
    let long = row_length row in
    let same = length-set bs 0 kind in
    let is : kind ∷ words ≡ row_numbers row = ap (λ k. k ∷ words) (c.from.ensures ∙ ap kind_number c.kind.ensures) ∙ c.words_of.ensures in
    let size = ap (λ ns. length (led ns)) is in
    let left = length-drop 1 (set bs 0 kind) in
    let all = length-take-le m rest (omega arith) in
    let room : length (flat_map bytes_of words) ≡ length (take m rest) = omega arith in
    led_put kind m words (row_numbers row) bs c.write_words.new.bytes (omega arith) (omega arith) is (c.write_words.ensures ∙ filled_is (flat_map bytes_of words) (take m rest) room)
