-- Every number of a log is a word of 32 bits, where the program and the tapes are words; and the other way round,
-- rows of words log a run on a tape of words.
--
--   `CpuWords s`   the pc, the registers and the place on the primary tape are words
--
-- Assumes nothing.
use Rattle.std.specs.Prelude.{ℕ, ◌^◌, ◌<◌, List}
use Rattle.encoding.specs.declared.instruction.Instruction.{Instruction}
use Rattle.machine.specs.declared.cpu.Cpu.{Cpu}
use Rattle.machine.specs.State.{register_of}
use Rattle.dossier.specs.Meaning.{Each}
use Rattle.dossier.specs.Numbers.{Words, Fit, instruction_numbers, line_numbers, row_numbers}
use Rattle.dossier.specs.declared.record.Row.{Row}
use Rattle.dossier.specs.declared.record.Line.{Line}
use Rattle.run_log.specs.Words.{Exactly}
use Rattle.tinyram.specs.Program.{cpu_at, rows_of, lines_of, LogsRun, Keeps}

pub record CpuWords (s : Cpu) : Type 0 where
  pub pc : s.pc < 2 ^ 32
  pub registers : (i : ℕ) → register_of s i < 2 ^ 32
  pub place : s.place < 2 ^ 32

pub record InWords (p : List Instruction) (primary aux : List ℕ) : Type 0 where
  pub cpu : (i : ℕ) → CpuWords (cpu_at p primary aux i)
  pub rows : (T : ℕ) → T < 2 ^ 32 → Each (Fit row_numbers) (rows_of p primary aux T)
  pub lines : (T : ℕ) → T < 2 ^ 32 → Each (Fit line_numbers) (lines_of p primary aux T)

abbrev pub ProgramWords : Type 0
ProgramWords = (p : List Instruction) (primary aux : List ℕ) →
    Each (Fit instruction_numbers) p → Words primary → Words aux → InWords p primary aux

-- rows of words and lines keep all rules exactly if on some tape of words they are the log of an accepting run
abbrev pub ProgramDecided : Type 0
ProgramDecided = (p : List Instruction) (primary : List ℕ) (rs : List Row) (ls : List Line) → Each (Fit row_numbers) rs →
    Exactly (Keeps p primary rs ls) ((aux : List ℕ) × Words aux × LogsRun p primary aux rs ls)
