-- Worked cases of the effects, each a whole step.
-- Assumes nothing.
use Rattle.std.specs.Prelude.{◌≡◌, ℕ, Bool, true, false, None}
use Rattle.word.specs.declared.operator.Arithmetic.{Arithmetic}
use Rattle.word.specs.declared.operator.Arithmetic.TheVariants.{Sub, Smulh, Shl}
use Rattle.word.specs.declared.cell.Size.TheVariants.{Byte}
use Rattle.encoding.specs.declared.operation.Operand.TheVariants.{Immediate}
use Rattle.encoding.specs.declared.operation.Operation.TheVariants.{Compute, Store}
use Rattle.machine.specs.declared.cpu.Cpu.{Cpu}
use Rattle.machine.specs.State.{start, register_of, written}
use Rattle.machine.specs.Effects.{stepped, left}

-- the state after `op r2, r1, a` where register 1 holds x
abbrev pub computing : Arithmetic → ℕ → ℕ → Cpu
computing b x a = stepped (Compute b 2 1 (Immediate a)) None (written start 1 x)

-- it leaves n in register 2, and the flag f
abbrev pub Makes : Arithmetic → ℕ → ℕ → ℕ → Bool → Type 0
Makes b x a n f = (register_of (computing b x a) 2 ≡ n) × ((computing b x a).flag ≡ f)

-- 4294967295 is -1, and 2147483648 is -2147483648, as signed words
pub record Marked : Type 0 where
  pub borrow : Makes Sub 0 1 4294967295 true
  pub negative : Makes Smulh 4294967295 1 2147483648 false
  pub square : Makes Smulh 2147483648 2147483648 1073741824 true
  pub shift : Makes Shl 2147483649 32 0 true
  pub byte : left (Store Byte 1 (Immediate 9)) (written start 1 171) 287454020 ≡ 287484740
