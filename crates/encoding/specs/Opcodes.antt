-- The opcodes: 29 of the 32 numbers of 5 bits.
--   opcode_of m    the opcode of a mnemonic
--   mnemonic_of n  the mnemonic of an opcode, if it has one
-- Assumes nothing.
use Rattle.std.specs.Prelude.{ℕ, List, [], ◌∷◌, Some, None, Option, slice_index_or}
use Rattle.word.specs.declared.operator.Arithmetic.TheVariants.{And, Or, Xor, Add, Sub, Mull, Umulh, Smulh, Udiv, Umod, Shl, Shr}
use Rattle.word.specs.declared.operator.Comparison.TheVariants.{Equal, Above, AboveOrEqual, Greater, GreaterOrEqual}
use Rattle.word.specs.declared.cell.Size.TheVariants.{Byte, Word}
use Rattle.encoding.specs.declared.operation.Condition.TheVariants.{Always, IfFlag, UnlessFlag}
use Rattle.encoding.specs.declared.mnemonic.Mnemonic.{Mnemonic}
use Rattle.encoding.specs.declared.mnemonic.Mnemonic.TheVariants.{Compute, Not, Compare, Move, MoveIfFlag, Jump, Store, Load, Read, Answer}

abbrev pub opcode_of : Mnemonic → ℕ
opcode_of (Compute And) = 0
opcode_of (Compute Or) = 1
opcode_of (Compute Xor) = 2
opcode_of Not = 3
opcode_of (Compute Add) = 4
opcode_of (Compute Sub) = 5
opcode_of (Compute Mull) = 6
opcode_of (Compute Umulh) = 7
opcode_of (Compute Smulh) = 8
opcode_of (Compute Udiv) = 9
opcode_of (Compute Umod) = 10
opcode_of (Compute Shl) = 11
opcode_of (Compute Shr) = 12
opcode_of (Compare Equal) = 13
opcode_of (Compare Above) = 14
opcode_of (Compare AboveOrEqual) = 15
opcode_of (Compare Greater) = 16
opcode_of (Compare GreaterOrEqual) = 17
opcode_of Move = 18
opcode_of MoveIfFlag = 19
opcode_of (Jump Always) = 20
opcode_of (Jump IfFlag) = 21
opcode_of (Jump UnlessFlag) = 22
opcode_of (Store Byte) = 26
opcode_of (Load Byte) = 27
opcode_of (Store Word) = 28
opcode_of (Load Word) = 29
opcode_of Read = 30
opcode_of Answer = 31

-- the opcodes 0 to 31, of which 23, 24 and 25 stand for nothing
abbrev pub mnemonics : List (Option Mnemonic)
mnemonics =
    Some (Compute And) ∷ Some (Compute Or) ∷ Some (Compute Xor) ∷ Some Not
    ∷ Some (Compute Add) ∷ Some (Compute Sub) ∷ Some (Compute Mull) ∷ Some (Compute Umulh)
    ∷ Some (Compute Smulh) ∷ Some (Compute Udiv) ∷ Some (Compute Umod) ∷ Some (Compute Shl)
    ∷ Some (Compute Shr) ∷ Some (Compare Equal) ∷ Some (Compare Above) ∷ Some (Compare AboveOrEqual)
    ∷ Some (Compare Greater) ∷ Some (Compare GreaterOrEqual) ∷ Some Move ∷ Some MoveIfFlag
    ∷ Some (Jump Always) ∷ Some (Jump IfFlag) ∷ Some (Jump UnlessFlag) ∷ None
    ∷ None ∷ None ∷ Some (Store Byte) ∷ Some (Load Byte)
    ∷ Some (Store Word) ∷ Some (Load Word) ∷ Some Read ∷ Some Answer ∷ []

abbrev pub mnemonic_of : ℕ → Option Mnemonic
mnemonic_of n = slice_index_or mnemonics n None
