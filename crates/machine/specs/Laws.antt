-- Laws of one step, over all 29 instructions.
--   Leaves o s n r  a step that leaves r in the cell that it touches, which held n: a store changes the bytes
--                   that it covers and no other byte of memory, and no other operation changes memory
--   Frame o g s r   a step from s to r, given g: what it leaves unchanged, and where the pc goes
-- Assumes nothing.
use Rattle.std.specs.Prelude.{◌≡◌, ℕ, ◌+◌, ◌%◌, ◌^◌, Bool, true, false, cond, Some, None, Option, ◌≢◌}
use Rattle.word.specs.declared.cell.Size.{Size}
use Rattle.word.specs.Cell.{Bytewise}
use Rattle.encoding.specs.declared.operation.Condition.{Condition}
use Rattle.encoding.specs.declared.operation.Operand.{Operand}
use Rattle.encoding.specs.declared.operation.Operation.{Operation}
use Rattle.encoding.specs.declared.operation.Operation.TheVariants.{Compute, Not, Compare, Move, MoveIfFlag, Jump, Store, Load, Read, Answer}
use Rattle.machine.specs.declared.step.Demand.TheVariants.{Primary}
use Rattle.machine.specs.declared.cpu.Cpu.{Cpu}
use Rattle.machine.specs.State.{register_of, value_of, holds}
use Rattle.machine.specs.Effects.{asked}

pub record Leaves (o : Operation) (s : Cpu) (n r : ℕ) : Type 0 where
  pub store : (z : Size) (i : ℕ) (a : Operand) → o ≡ Store z i a → Bytewise z (value_of s a) (register_of s i) n r
  pub other : ((z : Size) (i : ℕ) (a : Operand) → o ≢ Store z i a) → r ≡ n

-- the parts of the state that an operation may change: its destination, the flag,
-- and the pc otherwise than by going on to the next instruction
pub record Changes : Type 0 where
  pub destination : Option ℕ
  pub flag : Bool
  pub control : Bool

abbrev pub changes : Operation → Changes
changes (Compute b i j a) = record { destination = Some i; flag = true; control = false }
changes (Not i a) = record { destination = Some i; flag = true; control = false }
changes (Compare b j a) = record { destination = None; flag = true; control = false }
changes (Move i a) = record { destination = Some i; flag = false; control = false }
changes (MoveIfFlag i a) = record { destination = Some i; flag = false; control = false }
changes (Jump w a) = record { destination = None; flag = false; control = true }
changes (Store z i a) = record { destination = None; flag = false; control = false }
changes (Load z i a) = record { destination = Some i; flag = false; control = false }
changes (Read i a) = record { destination = Some i; flag = true; control = false }
changes (Answer a) = record { destination = None; flag = false; control = true }

abbrev pub following : Cpu → ℕ
following s = (s.pc + 1) % 2 ^ 32

pub record Frame (o : Operation) (g : Option ℕ) (s r : Cpu) : Type 0 where
  -- every register but the destination stays
  pub registers : (k : ℕ) → ((changes o).destination ≢ Some k) → register_of r k ≡ register_of s k
  pub flag : (changes o).flag ≡ false → r.flag ≡ s.flag
  pub next : (changes o).control ≡ false → r.pc ≡ following s
  pub jump : (w : Condition) (a : Operand) → o ≡ Jump w a → r.pc ≡ cond (holds w s.flag) (value_of s a) (following s)
  -- an answer leaves the whole state
  pub answer : (a : Operand) → o ≡ Answer a → r ≡ s
  -- the place on the primary tape stays unless a primary word is asked for and given
  pub place : (asked o s ≡ Primary → g ≡ None) → r.place ≡ s.place
