-- What a line gives once the labels ls are known.
--   settled ls a     the operand a, its label replaced by the number that it stands for
--   resolved ls s    the instruction that s writes, if its label is defined
--   line_gives ls l  what the line l gives: nothing, an instruction, or an undefined label
-- Assumes nothing.
use Rattle.std.specs.Prelude.{ℕ, List, Some, None, Ok, Err, Option, Result}
use Rattle.std.specs.Option.{option_map}
use Rattle.encoding.specs.declared.instruction.Instruction as encoding
use Rattle.encoding.specs.declared.operation.Operand.{Operand}
use Rattle.encoding.specs.declared.operation.Operand.TheVariants.{Register, Immediate}
use Rattle.encoding.specs.Encoding.{placed}
use Rattle.parser.specs.Operands.{ArgumentView, register, integer, named, and_then}
use Rattle.parser.specs.Statements.{StatementView, LineView, line_in}
use Rattle.assembler.specs.declared.resolve.Undefined.{Undefined}
use Rattle.assembler.specs.Labels.{found}

abbrev pub settled : List (List ℕ × ℕ) → ArgumentView → Option Operand
settled ls (register n) = Some (Register n)
settled ls (integer n) = Some (Immediate n)
settled ls (named w place) = option_map Immediate (found w ls)

-- the registers of what was read are registers, so that only a label can be missing
abbrev pub encoded_by : List (List ℕ × ℕ) → StatementView → Option encoding.Instruction
encoded_by ls s = and_then (settled ls s.operand) (placed s.mnemonic s.destination s.source)

abbrev pub undefined : Undefined
undefined = record {}

-- what a line gives: an instruction or none, or a label that is not defined
abbrev pub Given : Type 0
Given = Result (Option encoding.Instruction) Undefined

abbrev pub given : Option encoding.Instruction → Given
given (Some i) = Ok (Some i)
given None = Err undefined

abbrev pub resolved : List (List ℕ × ℕ) → StatementView → Given
resolved ls s = given (encoded_by ls s)

abbrev pub statement_gives : List (List ℕ × ℕ) → Option StatementView → Given
statement_gives ls (Some s) = resolved ls s
statement_gives ls None = Ok None

abbrev pub read_gives : List (List ℕ × ℕ) → Option LineView → Given
read_gives ls (Some l) = statement_gives ls l.statement
read_gives ls None = Ok None

abbrev pub line_gives : List (List ℕ × ℕ) → List ℕ → Given
line_gives ls l = read_gives ls (line_in l)
