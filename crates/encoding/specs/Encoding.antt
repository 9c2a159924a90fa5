-- The two words of an instruction. From the top the first holds
--   the opcode     5 bits
--   the immediate  1 bit: 1 if the operand A is a word, 0 if it is a register
--   the destination and the source register, 4 bits each
--   the padding    18 bits
-- and the second holds A.
--   decoded n  what an instruction says, if it is well formed
--   encoded o  the instruction that says o, if the registers that o names are registers
--   meant n    what the machine executes
-- Assumes nothing.
use Rattle.std.specs.Prelude.{ℕ, ◌+◌, ◌*◌, ◌/◌, ◌%◌, ◌^◌, Bool, true, false, cond, ◌&&◌, Some, None, Option, ◌==◌, nat_lt}
use Rattle.std.specs.Option.{unwrap_or}
use Rattle.encoding.specs.declared.mnemonic.Mnemonic.{Mnemonic}
use Rattle.encoding.specs.declared.mnemonic.Mnemonic.TheVariants as M
use Rattle.encoding.specs.declared.operation.Operand.{Operand}
use Rattle.encoding.specs.declared.operation.Operand.TheVariants.{Register, Immediate}
use Rattle.encoding.specs.declared.operation.Operation.{Operation}
use Rattle.encoding.specs.declared.operation.Operation.TheVariants as O
use Rattle.encoding.specs.declared.instruction.Instruction.{Instruction}
use Rattle.encoding.specs.Opcodes.{mnemonic_of, opcode_of}

abbrev pub opcode : Instruction → ℕ
opcode n = n.first / 2 ^ 27

abbrev pub immediate : Instruction → ℕ
immediate n = n.first / 2 ^ 26 % 2

abbrev pub destination : Instruction → ℕ
destination n = n.first / 2 ^ 22 % 16

abbrev pub source : Instruction → ℕ
source n = n.first / 2 ^ 18 % 16

abbrev pub padding : Instruction → ℕ
padding n = n.first % 2 ^ 18

-- READING

-- the operand A: a register's number is at most 15
abbrev pub operand_of : Bool → ℕ → Option Operand
operand_of true n = Some (Immediate n)
operand_of false n = cond (nat_lt n 16) (Some (Register n)) None

-- the operation on the registers i and j, where one that it does not use is 0
abbrev pub arranged : Mnemonic → ℕ → ℕ → Operand → Option Operation
arranged (M.Compute b) i j a = Some (O.Compute b i j a)
arranged M.Not i j a = cond (j == 0) (Some (O.Not i a)) None
arranged (M.Compare b) i j a = cond (i == 0) (Some (O.Compare b j a)) None
arranged M.Move i j a = cond (j == 0) (Some (O.Move i a)) None
arranged M.MoveIfFlag i j a = cond (j == 0) (Some (O.MoveIfFlag i a)) None
arranged (M.Jump w) i j a = cond (i == 0 && j == 0) (Some (O.Jump w a)) None
arranged (M.Store s) i j a = cond (j == 0) (Some (O.Store s i a)) None
arranged (M.Load s) i j a = cond (j == 0) (Some (O.Load s i a)) None
arranged M.Read i j a = cond (j == 0) (Some (O.Read i a)) None
arranged M.Answer i j a = cond (i == 0 && j == 0) (Some (O.Answer a)) None

abbrev pub both : Option Mnemonic → Option Operand → ℕ → ℕ → Option Operation
both None a i j = None
both (Some m) None i j = None
both (Some m) (Some a) i j = arranged m i j a

abbrev pub decoded : Instruction → Option Operation
decoded n =
    cond (padding n == 0)
    (both (mnemonic_of (opcode n)) (operand_of (immediate n == 1) n.second) (destination n) (source n))
    None

-- an ill-formed instruction is taken as `answer 1`
abbrev pub meant : Instruction → Operation
meant n = unwrap_or (decoded n) (O.Answer (Immediate 1))

-- WRITING

abbrev pub immediate_bit : Operand → ℕ
immediate_bit (Register i) = 0
immediate_bit (Immediate n) = 1

abbrev pub operand_word : Operand → ℕ
operand_word (Register i) = i
operand_word (Immediate n) = n

-- a register that is named is one of the 16
abbrev pub named : Operand → Bool
named (Register i) = nat_lt i 16
named (Immediate n) = true

abbrev pub packed : Mnemonic → ℕ → ℕ → Operand → Instruction
packed m i j a =
    record { first = opcode_of m * 2 ^ 27 + immediate_bit a * 2 ^ 26 + i * 2 ^ 22 + j * 2 ^ 18; second = operand_word a }

abbrev pub placed : Mnemonic → ℕ → ℕ → Operand → Option Instruction
placed m i j a = cond (nat_lt i 16 && (nat_lt j 16 && named a)) (Some (packed m i j a)) None

abbrev pub encoded : Operation → Option Instruction
encoded (O.Compute b i j a) = placed (M.Compute b) i j a
encoded (O.Not i a) = placed M.Not i 0 a
encoded (O.Compare b j a) = placed (M.Compare b) 0 j a
encoded (O.Move i a) = placed M.Move i 0 a
encoded (O.MoveIfFlag i a) = placed M.MoveIfFlag i 0 a
encoded (O.Jump w a) = placed (M.Jump w) 0 0 a
encoded (O.Store s i a) = placed (M.Store s) i 0 a
encoded (O.Load s i a) = placed (M.Load s) i 0 a
encoded (O.Read i a) = placed M.Read i 0 a
encoded (O.Answer a) = placed M.Answer 0 0 a
