-- What a text stands for.
--   assembled text    its instructions, or the refusal: first the header; then line by line what cannot be
--                     read, what defines a label again, what is too many; then an undefined label
--   answer text size  what assembling into a table of that size answers: the length of the program
--   left text out     the table after it
-- Assumes nothing.
use Rattle.std.specs.Prelude.{ℕ, cond, List, ◌++◌, length, drop, Ok, Err, codes, Result, nat_lt}
use Rattle.std.specs.Str.{bytes_eq}
use Rattle.encoding.specs.declared.instruction.Instruction.{Instruction}
use Rattle.lexer.specs.Lines.{lines, first_line, other_lines}
use Rattle.assembler.specs.declared.labels.Labels as declared
use Rattle.assembler.specs.declared.error.AssemblyError.{AssemblyError}
use Rattle.assembler.specs.declared.error.AssemblyError.TheVariants.{Header, TableTooShort}
use Rattle.assembler.specs.Labels.{known, none}
use Rattle.assembler.specs.Scan.{onwards, scanned}
use Rattle.assembler.specs.Program.{program, checked}

abbrev pub header : List ℕ
header = codes "; TinyRAM V=2.000 M=hv W=32 K=16"

-- the lines after the header, of which the first is line 2
abbrev pub body : List (List ℕ) → Result (List Instruction) AssemblyError
body ls = onwards (scanned 2 none ls) (λ k. onwards (checked 2 k.labels ls) (λ _. Ok (program k.labels ls)))

abbrev pub assembled : List ℕ → Result (List Instruction) AssemblyError
assembled text = cond (bytes_eq (first_line text) header) (body (lines (other_lines text))) (Err Header)

-- a program by its length
abbrev pub sized : Result (List Instruction) AssemblyError → Result ℕ AssemblyError
sized r = onwards r (λ p. Ok (length p))

-- the program by the labels that were found
abbrev pub prepared : Result (declared.Labels × ℕ) AssemblyError → List ℕ → Result (List Instruction) AssemblyError
prepared (Ok x) text = Ok (program (known x.0) (lines (other_lines text)))
prepared (Err e) text = Err e

-- how many entries it needs
abbrev pub needed_of : Result (declared.Labels × ℕ) AssemblyError → Result ℕ AssemblyError
needed_of (Ok x) = Ok x.1
needed_of (Err e) = Err e

abbrev pub fitted : ℕ → ℕ → Result ℕ AssemblyError
fitted size needed = cond (nat_lt size needed) (Err (TableTooShort needed)) (Ok needed)

abbrev pub answer : List ℕ → ℕ → Result ℕ AssemblyError
answer text size = onwards (sized (assembled text)) (fitted size)

abbrev pub leaves : Result (List Instruction) AssemblyError → List Instruction → List Instruction
leaves (Ok p) out = cond (nat_lt (length out) (length p)) out (p ++ drop (length p) out)
leaves (Err e) out = out

abbrev pub left : List ℕ → List Instruction → List Instruction
left text out = leaves (assembled text) out
