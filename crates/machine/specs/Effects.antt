-- The effects of the instructions, the same for a run and for a checking.
--   fetched p pc   the operation of instruction number pc
--   asked o s      what the operation asks of the outside
--   left o s n     what it leaves in the cell that it touches, which held n
--   stepped o g s  the state after it, where g is what it asked for
-- Assumes nothing.
use Rattle.std.specs.Prelude.{ℕ, true, false, cond, List, Some, None, Option, ◌==◌, nat_lt, slice_index_or}
use Rattle.std.specs.Option.{unwrap_or}
use Rattle.word.specs.declared.outcome.Outcome.{Outcome}
use Rattle.word.specs.Arithmetic.{computed, compared, inverted}
use Rattle.word.specs.Cell.{cell_of, loaded, stored}
use Rattle.encoding.specs.declared.operation.Operation.{Operation}
use Rattle.encoding.specs.declared.operation.Operation.TheVariants.{Compute, Not, Compare, Move, MoveIfFlag, Jump, Store, Load, Read, Answer}
use Rattle.encoding.specs.declared.instruction.Instruction.{Instruction}
use Rattle.encoding.specs.Encoding.{meant}
use Rattle.machine.specs.declared.step.Demand.{Demand}
use Rattle.machine.specs.declared.step.Demand.TheVariants.{Nothing, Cell, Primary, Advice, Halt}
use Rattle.machine.specs.declared.cpu.Cpu.{Cpu}
use Rattle.machine.specs.State.{register_of, value_of, holds, advanced, jumped, written, flagged, passed}

-- the two words of `answer 1`
abbrev pub answer_one : Instruction
answer_one = record { first = 0xFC00_0000; second = 1 }

-- past the program stands `answer 1`
abbrev pub fetched : List Instruction → ℕ → Operation
fetched p pc = meant (slice_index_or p pc answer_one)

-- tape 0 is the primary tape, tape 1 the auxiliary tape; every other tape is empty
abbrev pub tape_asked : ℕ → Demand
tape_asked tape = cond (tape == 0) Primary (cond (tape == 1) Advice Nothing)

-- loads and stores ask for the cell that holds the byte at their address
abbrev pub asked : Operation → Cpu → Demand
asked (Compute b i j a) s = Nothing
asked (Not i a) s = Nothing
asked (Compare b j a) s = Nothing
asked (Move i a) s = Nothing
asked (MoveIfFlag i a) s = Nothing
asked (Jump w a) s = Nothing
asked (Store z i a) s = Cell (cell_of (value_of s a))
asked (Load z i a) s = Cell (cell_of (value_of s a))
asked (Read i a) s = tape_asked (value_of s a)
asked (Answer a) s = Halt (value_of s a)

-- only a store changes the cell
abbrev pub left : Operation → Cpu → ℕ → ℕ
left (Compute b i j a) s n = n
left (Not i a) s n = n
left (Compare b j a) s n = n
left (Move i a) s n = n
left (MoveIfFlag i a) s n = n
left (Jump w a) s n = n
left (Store z i a) s n = stored z (value_of s a) (register_of s i) n
left (Load z i a) s n = n
left (Read i a) s n = n
left (Answer a) s n = n

-- a result in register i, and its flag
abbrev pub concluded : Cpu → ℕ → Outcome → Cpu
concluded s i o = advanced (flagged (written s i o.value) o.flag)

-- a word read into register i clears the flag; at the end of a tape 0 is stored and the flag is set
abbrev pub received : Cpu → ℕ → ℕ → Option ℕ → Cpu
received s i tape None = advanced (flagged (written s i 0) true)
received s i tape (Some n) =
    cond (nat_lt tape 2)
    (advanced (flagged (written (cond (tape == 0) (passed s) s) i n) false))
    (advanced (flagged (written s i 0) true))

abbrev pub stepped : Operation → Option ℕ → Cpu → Cpu
stepped (Compute b i j a) g s = concluded s i (computed b (register_of s j) (value_of s a))
stepped (Not i a) g s = concluded s i (inverted (value_of s a))
stepped (Compare b j a) g s = advanced (flagged s (compared b (register_of s j) (value_of s a)))
stepped (Move i a) g s = advanced (written s i (value_of s a))
stepped (MoveIfFlag i a) g s = advanced (cond s.flag (written s i (value_of s a)) s)
stepped (Jump w a) g s = cond (holds w s.flag) (jumped s (value_of s a)) (advanced s)
stepped (Store z i a) g s = advanced s
stepped (Load z i a) g s = advanced (written s i (loaded z (value_of s a) (unwrap_or g 0)))
stepped (Read i a) g s = received s i (value_of s a) g
stepped (Answer a) g s = s
