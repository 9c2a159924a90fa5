-- An instruction decodes exactly if it is well formed.
use Rattle.std.proofs.Common.{◌≡◌, ℕ, Bool, true, false, cond, ◌&&◌, ◌||◌, eqb, ltb, is_some, Some, None, Option, refl}
use Rattle.std.proofs.Math.Bool.{and-true, and-false}
use Rattle.encoding.specs.declared.mnemonic.Mnemonic.{Mnemonic}
use Rattle.encoding.specs.declared.mnemonic.Mnemonic.TheVariants as M
use Rattle.encoding.specs.declared.operation.Operand.{Operand}
use Rattle.encoding.specs.declared.operation.Operand.TheVariants.{Register, Immediate}
use Rattle.encoding.specs.declared.instruction.Instruction.{Instruction}
use Rattle.encoding.specs.Opcodes.{mnemonic_of}
use Rattle.encoding.specs.Encoding.{opcode, immediate, destination, source, padding, operand_of, arranged, both, decoded}
use Rattle.encoding.specs.Formed.{clear, well_formed}

some_if : {X : Type 0} (b : Bool) (x : X) → is_some (cond b (Some x) None) ≡ b
some_if true x = refl
some_if false x = refl

placed : (m : Mnemonic) (i j : ℕ) (a : Operand) → is_some (arranged m i j a) ≡ clear (Some m) i j
placed (M.Compute b) i j a = refl
placed M.Not i j a = some_if (eqb j 0) _
placed (M.Compare b) i j a = rw (some_if (eqb i 0), and-true)
placed M.Move i j a = some_if (eqb j 0) _
placed M.MoveIfFlag i j a = some_if (eqb j 0) _
placed (M.Jump w) i j a = some_if (eqb i 0 && eqb j 0) _
placed (M.Store s) i j a = some_if (eqb j 0) _
placed (M.Load s) i j a = some_if (eqb j 0) _
placed M.Read i j a = some_if (eqb j 0) _
placed M.Answer i j a = some_if (eqb i 0 && eqb j 0) _

with_operand : (x : Option Mnemonic) (b : Bool) (t : Bool) (w i j : ℕ) → is_some (both x (cond b (Some (Immediate w)) (cond t (Some (Register w)) None)) i j) ≡ (clear x i j && (b || t))
with_operand None b t w i j = refl
with_operand (Some m) true t w i j = rw (placed m i j (Immediate w), and-true)
with_operand (Some m) false true w i j = rw (placed m i j (Register w), and-true)
with_operand (Some m) false false w i j = rw and-false

operand_is : (b : Bool) (w : ℕ) → operand_of b w ≡ cond b (Some (Immediate w)) (cond (ltb w 16) (Some (Register w)) None)
operand_is true w = refl
operand_is false w = refl

whole : (c : Bool) (x : Option Mnemonic) (b : Bool) (w i j : ℕ) → is_some (cond c (both x (operand_of b w) i j) None) ≡ (clear x i j && (c && (b || ltb w 16)))
whole true x b w i j = rw (operand_is b w, with_operand x b (ltb w 16) w i j)
whole false x b w i j = rw and-false

pub formed_is : (n : Instruction) → is_some (decoded n) ≡ well_formed n
formed_is n = whole (eqb (padding n) 0) (mnemonic_of (opcode n)) (eqb (immediate n) 1) n.second (destination n) (source n)
