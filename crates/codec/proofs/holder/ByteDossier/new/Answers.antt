use Rattle.std.proofs.Common.{refl, arith}
use Rattle.field.specs.Bytes.{Bytes}
use Rattle.codec.proofs.Laws.{written_form}
use Rattle.codec.proofs.holder.ByteDossier.new.Goals as goal

pub returns : goal.returns
returns c =
    let small : Bytes c.args.bytes.now = λ k h. let b = c.type_inv.bytes k in omega arith in
    record { rule = (small, c.«head_of».ensures); meant = refl; form = written_form c.args.bytes.now small }
