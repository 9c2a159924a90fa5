-- A small program whose log is worked out: it reads an auxiliary word, stores it in cell 8, loads its lowest byte
-- again, and answers 0 if that is 7.
-- Assumes nothing.
use Rattle.std.specs.Prelude.{◌≡◌, List, [], ◌∷◌}
use Rattle.encoding.specs.declared.instruction.Instruction.{Instruction}
use Rattle.run_log.specs.Sample.{sample_rows, sample_lines}
use Rattle.tinyram.specs.Program.{AcceptsIn, rows_of, lines_of}

-- `read r1, 1`; `store.w 8, r1`; `load.b r2, 8`; `cmpe r2, 7`; `cnjmp 6`; `answer 0`; `answer 1`
abbrev pub sample_program : List Instruction
sample_program =
    record { first = 0xF440_0000; second = 1 }
    ∷ record { first = 0xE440_0000; second = 8 }
    ∷ record { first = 0xDC80_0000; second = 8 }
    ∷ record { first = 0x6C08_0000; second = 7 }
    ∷ record { first = 0xB400_0000; second = 6 }
    ∷ record { first = 0xFC00_0000; second = 0 }
    ∷ record { first = 0xFC00_0000; second = 1 } ∷ []

-- on the auxiliary word 7 the program accepts in 6 steps, with these rows and this line
pub record SampleLog (p : List Instruction) : Type 0 where
  pub accepts : AcceptsIn p [] (7 ∷ []) 6
  pub rows : rows_of p [] (7 ∷ []) 6 ≡ sample_rows
  pub lines : lines_of p [] (7 ∷ []) 6 ≡ sample_lines
