use Rattle.std.proofs.Common.{refl}
use Rattle.word.specs.declared.operator.Comparison.TheVariants.{Equal, Above, AboveOrEqual, Greater, GreaterOrEqual}
use Rattle.encoding.specs.declared.mnemonic.Mnemonic.TheVariants.{Compare}
use Rattle.mnemonics.proofs.Unnamed.{unnamed}
use Rattle.mnemonics.proofs.name.comparing.Goals as goal

pub returns-in_default : goal.returns-in_default
returns-in_default c =
    let d = c.in_default in
    rw (unnamed (Compare Equal) d.not-cmpe, unnamed (Compare Above) d.not-cmpa, unnamed (Compare AboveOrEqual) d.not-cmpae, unnamed (Compare Greater) d.not-cmpg, unnamed (Compare GreaterOrEqual) d.not-cmpge) refl
