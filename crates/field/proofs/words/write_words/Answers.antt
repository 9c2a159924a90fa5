use Rattle.std.proofs.Common.{◌≡◌, ◌+◌, ◌-◌, ◌*◌, sym, ap, ◌∙◌, arith}
use Rattle.std.specs.List.{flat_map}
use Rattle.std.proofs.lemmas.List.{take_all}
use Rattle.field.specs.Bytes.{bytes_of}
use Rattle.field.specs.Fields.{filled_is}
use Rattle.field.specs.LittleEndian.{words_more}
use Rattle.field.proofs.ByPlace.{length_words, unfilled}
use Rattle.field.proofs.words.write_words.Goals as goal

pub returns-then-bytes-words : goal.returns-then-bytes-words
returns-then-bytes-words c = unfilled (flat_map bytes_of c.args.words.now) c.args.bytes.now (λ same. let n = length_words c.args.words.now in omega arith)

pub loop-i-preserved : goal.loop-i-preserved
loop-i-preserved c =
    let i = c.loop-i.i in
    words_more c.args.words.now c.loop-i.bytes c.copy_from_slice.new.self i (4 * i + 4 - 4 * i) c.loop-i-test.true (omega arith) c.loop-i.invariant (c.copy_from_slice.ensures.after ∙ c.to_le_bytes.ensures)

pub returns : goal.returns
returns c =
    let n = length_words c.args.words.now in
    let whole : c.loop-i.bytes ≡ flat_map bytes_of c.args.words.now = sym (take_all (4 * c.loop-i.i) c.loop-i.bytes (omega arith)) ∙ c.loop-i.invariant ∙ ap (flat_map bytes_of) (take_all c.loop-i.i c.args.words.now (omega arith)) in
    whole ∙ sym (filled_is (flat_map bytes_of c.args.words.now) c.args.bytes.now (omega arith))
