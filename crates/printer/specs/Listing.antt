-- A program as text.
--   register_text i   a register
--   operand_text a    the operand A
--   operation_text o  an operation as a line
--   line_text n       the line of an instruction, ended by LF; one that is ill formed as the machine takes it
--   printed p         a program: the header, and a line for each instruction
-- Assumes nothing.
use Rattle.std.specs.Prelude.{ℕ, List, [], ◌∷◌, ◌++◌, decimal}
use Rattle.std.specs.List.{flat_map}
use Rattle.encoding.specs.declared.mnemonic.Mnemonic.{Mnemonic}
use Rattle.encoding.specs.declared.mnemonic.Mnemonic.TheVariants as M
use Rattle.encoding.specs.declared.operation.Operand.{Operand}
use Rattle.encoding.specs.declared.operation.Operand.TheVariants.{Register, Immediate}
use Rattle.encoding.specs.declared.operation.Operation.{Operation}
use Rattle.encoding.specs.declared.operation.Operation.TheVariants as O
use Rattle.encoding.specs.declared.instruction.Instruction.{Instruction}
use Rattle.encoding.specs.Encoding.{meant}
use Rattle.mnemonics.specs.Names.{name_of}
use Rattle.assembler.specs.Text.{header}

abbrev pub register_text : ℕ → List ℕ
register_text i = 114 ∷ decimal i

abbrev pub operand_text : Operand → List ℕ
operand_text (Register i) = register_text i
operand_text (Immediate n) = decimal n

-- a comma and a blank, and what follows them
abbrev pub comma : List ℕ → List ℕ
comma rest = 44 ∷ 32 ∷ rest

abbrev pub three_text : Mnemonic → ℕ → ℕ → Operand → List ℕ
three_text m i j a = name_of m ++ (32 ∷ (register_text i ++ comma (register_text j ++ comma (operand_text a))))

abbrev pub two_text : Mnemonic → ℕ → Operand → List ℕ
two_text m i a = name_of m ++ (32 ∷ (register_text i ++ comma (operand_text a)))

abbrev pub store_text : Mnemonic → Operand → ℕ → List ℕ
store_text m a i = name_of m ++ (32 ∷ (operand_text a ++ comma (register_text i)))

abbrev pub one_text : Mnemonic → Operand → List ℕ
one_text m a = name_of m ++ (32 ∷ operand_text a)

abbrev pub operation_text : Operation → List ℕ
operation_text (O.Compute b i j a) = three_text (M.Compute b) i j a
operation_text (O.Not i a) = two_text M.Not i a
operation_text (O.Compare b j a) = two_text (M.Compare b) j a
operation_text (O.Move i a) = two_text M.Move i a
operation_text (O.MoveIfFlag i a) = two_text M.MoveIfFlag i a
operation_text (O.Jump w a) = one_text (M.Jump w) a
operation_text (O.Store s i a) = store_text (M.Store s) a i
operation_text (O.Load s i a) = two_text (M.Load s) i a
operation_text (O.Read i a) = two_text M.Read i a
operation_text (O.Answer a) = one_text M.Answer a

abbrev pub line_text : Instruction → List ℕ
line_text n = operation_text (meant n) ++ (10 ∷ [])

abbrev pub listing : List Instruction → List ℕ
listing p = flat_map line_text p

abbrev pub printed : List Instruction → List ℕ
printed p = header ++ (10 ∷ listing p)
