use Rattle.std.proofs.Common.{refl}
use Rattle.word.specs.declared.cell.Size.TheVariants.{Byte, Word}
use Rattle.encoding.specs.declared.operation.Condition.TheVariants.{Always, IfFlag, UnlessFlag}
use Rattle.encoding.specs.declared.mnemonic.Mnemonic.TheVariants.{Not, Move, MoveIfFlag, Jump, Store, Load, Read, Answer}
use Rattle.mnemonics.proofs.Unnamed.{unnamed}
use Rattle.mnemonics.proofs.name.other.Goals as goal

pub returns-in_default : goal.returns-in_default
returns-in_default c =
    let d = c.in_default in
    rw (unnamed Not d.not-not, unnamed Move d.not-mov, unnamed MoveIfFlag d.not-cmov, unnamed (Jump Always) d.not-jmp, unnamed (Jump IfFlag) d.not-cjmp, unnamed (Jump UnlessFlag) d.not-cnjmp, unnamed (Store Byte) d.not-text, unnamed (Store Word) d.not-text-2, unnamed (Load Byte) d.not-text-3, unnamed (Load Word) d.not-text-4, unnamed Read d.not-read, unnamed Answer d.not-answer) refl
