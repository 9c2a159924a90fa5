-- The preamble.
--   preamble         the eight instructions
--   same_words a b   the instructions a and b are the same
--   is_proper p      the list p starts with the preamble
-- Assumes nothing.
use Rattle.std.specs.Prelude.{Bool, ◌&&◌, List, [], ◌∷◌, ◌==◌}
use Rattle.std.specs.List.{starts_with}
use Rattle.word.specs.declared.operator.Arithmetic.TheVariants.{Add}
use Rattle.word.specs.declared.cell.Size.TheVariants.{Word}
use Rattle.encoding.specs.declared.operation.Condition.TheVariants.{Always, IfFlag}
use Rattle.encoding.specs.declared.operation.Operand.TheVariants.{Register, Immediate}
use Rattle.encoding.specs.declared.mnemonic.Mnemonic.TheVariants.{Compute, Move, Jump, Store, Read}
use Rattle.encoding.specs.declared.instruction.Instruction.{Instruction}
use Rattle.encoding.specs.Encoding.{packed}

-- each with its destination and its source, 0 where it has none, and its operand
abbrev pub preamble : List Instruction
preamble =
    packed (Store Word) 0 0 (Immediate 0)
    ∷ packed Move 0 0 (Immediate 2147483648)
    ∷ packed Read 1 0 (Immediate 0)
    ∷ packed (Jump IfFlag) 0 0 (Immediate 7)
    ∷ packed (Compute Add) 0 0 (Immediate 1)
    ∷ packed (Store Word) 1 0 (Register 0)
    ∷ packed (Jump Always) 0 0 (Immediate 2)
    ∷ packed (Store Word) 0 0 (Immediate 2147483648)
    ∷ []

abbrev pub same_words : Instruction → Instruction → Bool
same_words a b = a.first == b.first && a.second == b.second

abbrev pub is_proper : List Instruction → Bool
is_proper p = starts_with same_words p preamble
