-- The state of the machine but for its memory and its auxiliary tape, and its small changes.
--   start                                       all is 0
--   register_of s i, value_of s a               the word in register i, and the word that an operand stands for
--   holds when f                                whether a jump takes place under the flag f
--   advanced, jumped, written, flagged, passed  one part changed
-- Assumes nothing.
use Rattle.std.specs.Prelude.{ℕ, ◌+◌, ◌%◌, ◌^◌, Bool, true, false, not, replicate, slice_index, slice_set}
use Rattle.encoding.specs.declared.operation.Condition.{Condition}
use Rattle.encoding.specs.declared.operation.Condition.TheVariants.{Always, IfFlag, UnlessFlag}
use Rattle.encoding.specs.declared.operation.Operand.{Operand}
use Rattle.encoding.specs.declared.operation.Operand.TheVariants.{Register, Immediate}
use Rattle.machine.specs.declared.cpu.Cpu.{Cpu}

abbrev pub start : Cpu
start = record { pc = 0; registers = replicate 16 0; flag = false; place = 0 }

abbrev pub register_of : Cpu → ℕ → ℕ
register_of s i = slice_index s.registers i

abbrev pub value_of : Cpu → Operand → ℕ
value_of s (Register i) = register_of s i
value_of s (Immediate n) = n

abbrev pub holds : Condition → Bool → Bool
holds Always f = true
holds IfFlag f = f
holds UnlessFlag f = not f

abbrev pub jumped : Cpu → ℕ → Cpu
jumped s n = record { pc = n; registers = s.registers; flag = s.flag; place = s.place }

-- on to the next instruction
abbrev pub advanced : Cpu → Cpu
advanced s = jumped s ((s.pc + 1) % 2 ^ 32)

-- n in register i
abbrev pub written : Cpu → ℕ → ℕ → Cpu
written s i n = record { pc = s.pc; registers = slice_set s.registers i n; flag = s.flag; place = s.place }

abbrev pub flagged : Cpu → Bool → Cpu
flagged s f = record { pc = s.pc; registers = s.registers; flag = f; place = s.place }

-- past one word of the primary tape, counted as the pc is
abbrev pub passed : Cpu → Cpu
passed s = record { pc = s.pc; registers = s.registers; flag = s.flag; place = (s.place + 1) % 2 ^ 32 }
