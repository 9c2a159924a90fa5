use Rattle.std.proofs.Common.{refl}
use Rattle.word.specs.declared.operator.Arithmetic.TheVariants.{And, Or, Xor, Add, Sub, Mull, Umulh, Smulh, Udiv, Umod, Shl, Shr}
use Rattle.encoding.specs.declared.mnemonic.Mnemonic.TheVariants.{Compute}
use Rattle.mnemonics.proofs.Unnamed.{unnamed}
use Rattle.mnemonics.proofs.name.computing.Goals as goal

pub returns-in_default : goal.returns-in_default
returns-in_default c =
    let d = c.in_default in
    rw (unnamed (Compute And) d.not-and, unnamed (Compute Or) d.not-or, unnamed (Compute Xor) d.not-xor, unnamed (Compute Add) d.not-add, unnamed (Compute Sub) d.not-sub, unnamed (Compute Mull) d.not-mull, unnamed (Compute Umulh) d.not-umulh, unnamed (Compute Smulh) d.not-smulh, unnamed (Compute Udiv) d.not-udiv, unnamed (Compute Umod) d.not-umod, unnamed (Compute Shl) d.not-shl, unnamed (Compute Shr) d.not-shr) refl
