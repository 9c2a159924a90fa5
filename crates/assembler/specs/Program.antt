-- The program that lines stand for once the labels ls are known.
--   program ls lines   its instructions, in the order of the lines
--   checked n ls lines every label that is an operand is defined, else the first line where one is not
--   overlaid at p out  the table out with the instructions p from place at on
-- Assumes nothing.
use Rattle.std.specs.Prelude.{ℕ, suc, ◌+◌, List, [], ◌∷◌, ◌++◌, length, Some, None, Ok, Err, Result, slice_set}
use Rattle.encoding.specs.declared.instruction.Instruction as encoding
use Rattle.assembler.specs.declared.error.AssemblyError.{AssemblyError}
use Rattle.assembler.specs.declared.error.AssemblyError.TheVariants as error
use Rattle.assembler.specs.Scan.{onwards}
use Rattle.assembler.specs.Resolve.{Given, line_gives}

abbrev pub listed : Given → List encoding.Instruction
listed (Ok (Some i)) = i ∷ []
listed (Ok None) = []
listed (Err e) = []

abbrev pub program : List (List ℕ × ℕ) → List (List ℕ) → List encoding.Instruction
program ls [] = []
program ls (l ∷ lines) = listed (line_gives ls l) ++ program ls lines

-- how many entries a line needs, which is line n
abbrev pub entries : ℕ → Given → Result ℕ AssemblyError
entries n (Ok (Some i)) = Ok 1
entries n (Ok None) = Ok 0
entries n (Err e) = Err (error.Undefined n)

abbrev pub checked : ℕ → List (List ℕ × ℕ) → List (List ℕ) → Result (Unit {0}) AssemblyError
checked n ls [] = Ok tt
checked n ls (l ∷ lines) = onwards (entries n (line_gives ls l)) (λ _. checked (n + 1) ls lines)

-- how many entries the lines need after k
abbrev pub counting : ℕ → ℕ → List (List ℕ × ℕ) → List (List ℕ) → Result ℕ AssemblyError
counting n k ls lines = onwards (checked n ls lines) (λ _. Ok (k + length (program ls lines)))

abbrev pub overlaid : ℕ → List encoding.Instruction → List encoding.Instruction → List encoding.Instruction
overlaid at [] out = out
overlaid at (i ∷ p) out = overlaid (suc at) p (slice_set out at i)
