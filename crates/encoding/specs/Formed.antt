-- When an instruction is well formed.
--   well_formed n  the opcode is one of the 29, the fields that it does not use are 0, the padding is 0,
--                 and a register in the operand is at most 15
-- Assumes nothing.
use Rattle.std.specs.Prelude.{ℕ, Bool, true, false, ◌&&◌, ◌||◌, Some, None, Option, ◌==◌, nat_lt}
use Rattle.encoding.specs.declared.mnemonic.Mnemonic.{Mnemonic}
use Rattle.encoding.specs.declared.mnemonic.Mnemonic.TheVariants as M
use Rattle.encoding.specs.declared.instruction.Instruction.{Instruction}
use Rattle.encoding.specs.Opcodes.{mnemonic_of}
use Rattle.encoding.specs.Encoding.{opcode, immediate, destination, source, padding}

-- stores keep the register that they store in the destination's field
abbrev pub uses_destination : Mnemonic → Bool
uses_destination (M.Compute b) = true
uses_destination M.Not = true
uses_destination (M.Compare b) = false
uses_destination M.Move = true
uses_destination M.MoveIfFlag = true
uses_destination (M.Jump w) = false
uses_destination (M.Store s) = true
uses_destination (M.Load s) = true
uses_destination M.Read = true
uses_destination M.Answer = false

-- comparisons keep their register in the source's field
abbrev pub uses_source : Mnemonic → Bool
uses_source (M.Compute b) = true
uses_source M.Not = false
uses_source (M.Compare b) = true
uses_source M.Move = false
uses_source M.MoveIfFlag = false
uses_source (M.Jump w) = false
uses_source (M.Store s) = false
uses_source (M.Load s) = false
uses_source M.Read = false
uses_source M.Answer = false

-- there is such an instruction, and the fields i and j are 0 where it does not use them
abbrev pub clear : Option Mnemonic → ℕ → ℕ → Bool
clear None i j = false
clear (Some m) i j = (uses_destination m || i == 0) && (uses_source m || j == 0)

abbrev pub well_formed : Instruction → Bool
well_formed n =
    clear (mnemonic_of (opcode n)) (destination n) (source n)
    && (padding n == 0 && (immediate n == 1 || nat_lt n.second 16))
