-- Opcodes and mnemonics: one for one.
use Rattle.std.proofs.Common.{◌≡◌, ℕ, zero, suc, ◌+◌, Bool, true, false, ◌&&◌, T, eqb, List, [], ◌∷◌, get_or, Some, None, Option, refl, ap, arith, eqb→eq}
use Rattle.word.specs.declared.operator.Arithmetic.TheVariants.{And, Or, Xor, Add, Sub, Mull, Umulh, Smulh, Udiv, Umod, Shl, Shr}
use Rattle.word.specs.declared.operator.Comparison.TheVariants.{Equal, Above, AboveOrEqual, Greater, GreaterOrEqual}
use Rattle.word.specs.declared.cell.Size.TheVariants.{Byte, Word}
use Rattle.encoding.specs.declared.operation.Condition.TheVariants.{Always, IfFlag, UnlessFlag}
use Rattle.encoding.specs.declared.mnemonic.Mnemonic.{Mnemonic}
use Rattle.encoding.specs.declared.mnemonic.Mnemonic.TheVariants.{Compute, Not, Compare, Move, MoveIfFlag, Jump, Store, Load, Read, Answer}
use Rattle.encoding.specs.Opcodes.{mnemonics, mnemonic_of, opcode_of}
use Rattle.std.proofs.lemmas.Option.{none-some}

-- each mnemonic stands at its opcode
pub code_back : (m : Mnemonic) → mnemonic_of (opcode_of m) ≡ Some m
code_back (Compute And) = refl
code_back (Compute Or) = refl
code_back (Compute Xor) = refl
code_back (Compute Add) = refl
code_back (Compute Sub) = refl
code_back (Compute Mull) = refl
code_back (Compute Umulh) = refl
code_back (Compute Smulh) = refl
code_back (Compute Udiv) = refl
code_back (Compute Umod) = refl
code_back (Compute Shl) = refl
code_back (Compute Shr) = refl
code_back Not = refl
code_back (Compare Equal) = refl
code_back (Compare Above) = refl
code_back (Compare AboveOrEqual) = refl
code_back (Compare Greater) = refl
code_back (Compare GreaterOrEqual) = refl
code_back Move = refl
code_back MoveIfFlag = refl
code_back (Jump Always) = refl
code_back (Jump IfFlag) = refl
code_back (Jump UnlessFlag) = refl
code_back (Store Byte) = refl
code_back (Store Word) = refl
code_back (Load Byte) = refl
code_back (Load Word) = refl
code_back Read = refl
code_back Answer = refl

-- no other entry of the table is that mnemonic: one computed test over the table
fits_at : ℕ → Option Mnemonic → Bool
fits_at k None = true
fits_at k (Some m) = eqb (opcode_of m) k

every : ℕ → List (Option Mnemonic) → Bool
every k [] = true
every k (x ∷ xs) = fits_at k x && every (suc k) xs

split : (a b : Bool) → T (a && b) → T a × T b
split true b t = (tt, t)
split false b t = absurd t

table_from : (xs : List (Option Mnemonic)) (i : ℕ) → T (every i xs) → (k : ℕ) (m : Mnemonic) → get_or xs k None ≡ Some m → opcode_of m ≡ i + k
unfolding every fits_at
table_from [] i t k m e = absurd (none-some m e)
table_from (None ∷ xs) i t zero m e = absurd (none-some m e)
table_from (Some x ∷ xs) i t zero m e =
    let same : x ≡ m = cc in
    omega (arith, eqb→eq (opcode_of x) i (split _ _ t).0, ap opcode_of same)
table_from (x ∷ xs) i t (suc k) m e = omega (arith, table_from xs (suc i) (split (fits_at i x) _ t).1 k m e)

pub code_only : (k : ℕ) (m : Mnemonic) → mnemonic_of k ≡ Some m → opcode_of m ≡ k
unfolding every fits_at
code_only k m e = omega (arith, table_from mnemonics 0 tt k m e)
