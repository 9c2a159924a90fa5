-- The names of the 29 instructions.
--   name_of m      the name of a mnemonic
--   mnemonics      the 29: those that compute, those that compare, and the others
--   is_named w m   the name of m is w
--   mnemonic_of w  the mnemonic whose name is w, if there is one
-- Assumes nothing.
use Rattle.std.specs.Prelude.{ℕ, Bool, List, [], ◌∷◌, ◌++◌, codes, Option}
use Rattle.std.specs.List.{find}
use Rattle.std.specs.Str.{bytes_eq}
use Rattle.word.specs.declared.operator.Arithmetic.TheVariants.{And, Or, Xor, Add, Sub, Mull, Umulh, Smulh, Udiv, Umod, Shl, Shr}
use Rattle.word.specs.declared.operator.Comparison.TheVariants.{Equal, Above, AboveOrEqual, Greater, GreaterOrEqual}
use Rattle.word.specs.declared.cell.Size.TheVariants.{Byte, Word}
use Rattle.encoding.specs.declared.operation.Condition.TheVariants.{Always, IfFlag, UnlessFlag}
use Rattle.encoding.specs.declared.mnemonic.Mnemonic.{Mnemonic}
use Rattle.encoding.specs.declared.mnemonic.Mnemonic.TheVariants.{Compute, Not, Compare, Move, MoveIfFlag, Jump, Store, Load, Read, Answer}

abbrev pub name_of : Mnemonic → List ℕ
name_of (Compute And) = codes "and"
name_of (Compute Or) = codes "or"
name_of (Compute Xor) = codes "xor"
name_of Not = codes "not"
name_of (Compute Add) = codes "add"
name_of (Compute Sub) = codes "sub"
name_of (Compute Mull) = codes "mull"
name_of (Compute Umulh) = codes "umulh"
name_of (Compute Smulh) = codes "smulh"
name_of (Compute Udiv) = codes "udiv"
name_of (Compute Umod) = codes "umod"
name_of (Compute Shl) = codes "shl"
name_of (Compute Shr) = codes "shr"
name_of (Compare Equal) = codes "cmpe"
name_of (Compare Above) = codes "cmpa"
name_of (Compare AboveOrEqual) = codes "cmpae"
name_of (Compare Greater) = codes "cmpg"
name_of (Compare GreaterOrEqual) = codes "cmpge"
name_of Move = codes "mov"
name_of MoveIfFlag = codes "cmov"
name_of (Jump Always) = codes "jmp"
name_of (Jump IfFlag) = codes "cjmp"
name_of (Jump UnlessFlag) = codes "cnjmp"
name_of (Store Byte) = codes "store.b"
name_of (Load Byte) = codes "load.b"
name_of (Store Word) = codes "store.w"
name_of (Load Word) = codes "load.w"
name_of Read = codes "read"
name_of Answer = codes "answer"

abbrev pub computing : List Mnemonic
computing =
    Compute And ∷ Compute Or ∷ Compute Xor ∷ Compute Add ∷ Compute Sub ∷ Compute Mull
    ∷ Compute Umulh ∷ Compute Smulh ∷ Compute Udiv ∷ Compute Umod ∷ Compute Shl ∷ Compute Shr ∷ []

abbrev pub comparing : List Mnemonic
comparing = Compare Equal ∷ Compare Above ∷ Compare AboveOrEqual ∷ Compare Greater ∷ Compare GreaterOrEqual ∷ []

abbrev pub others : List Mnemonic
others =
    Not ∷ Move ∷ MoveIfFlag ∷ Jump Always ∷ Jump IfFlag ∷ Jump UnlessFlag
    ∷ Store Byte ∷ Store Word ∷ Load Byte ∷ Load Word ∷ Read ∷ Answer ∷ []

abbrev pub mnemonics : List Mnemonic
mnemonics = (computing ++ comparing) ++ others

abbrev pub is_named : List ℕ → Mnemonic → Bool
is_named w m = bytes_eq (name_of m) w

abbrev pub mnemonic_of : List ℕ → Option Mnemonic
mnemonic_of w = find (is_named w) mnemonics
