-- Reading and writing an instruction are inverse to each other.
use Rattle.std.proofs.Common.{◌≡◌, ℕ, ◌+◌, ◌*◌, ◌/◌, ◌%◌, ◌^◌, ◌<◌, Bool, true, false, cond, ◌&&◌, eqb, ltb, Some, None, Option, sym, refl, ap, ◌∙◌, subst, arith, eqb-true}
use Rattle.std.proofs.lemmas.Nat.{shr-shr}
use Rattle.std.proofs.lemmas.Bool.Decides.{nat_tests}
use Rattle.encoding.specs.declared.mnemonic.Mnemonic.{Mnemonic}
use Rattle.encoding.specs.declared.mnemonic.Mnemonic.TheVariants as M
use Rattle.encoding.specs.declared.operation.Operand.{Operand}
use Rattle.encoding.specs.declared.operation.Operand.TheVariants.{Register, Immediate}
use Rattle.encoding.specs.declared.operation.Operation.{Operation}
use Rattle.encoding.specs.declared.operation.Operation.TheVariants as O
use Rattle.encoding.specs.declared.instruction.Instruction.{Instruction}
use Rattle.encoding.specs.Opcodes.{mnemonic_of, opcode_of}
use Rattle.encoding.specs.Encoding.{opcode, immediate, destination, source, padding, operand_of, arranged, both, decoded, immediate_bit, operand_word, named, packed, placed, encoded}
use Rattle.std.proofs.lemmas.Option.{none-some, cond_some}
use Rattle.encoding.proofs.Codes.{code_back, code_only}

-- WHAT IS WRITTEN IS READ

operand_back : (a : Operand) → named a ≡ true → operand_of (eqb (immediate_bit a) 1) (operand_word a) ≡ Some a
operand_back (Register i) h = grind (arith, nat_tests)
operand_back (Immediate n) h = refl

bit_below : (a : Operand) → immediate_bit a < 2
bit_below (Register i) = omega arith
bit_below (Immediate n) = omega arith

module _ (c b i j : ℕ) (hb : b < 2) (hi : i < 16) (hj : j < 16) where
  field_opcode : (c * 2 ^ 27 + b * 2 ^ 26 + i * 2 ^ 22 + j * 2 ^ 18) / 2 ^ 27 ≡ c
  field_opcode = omega arith

  field_immediate : (c * 2 ^ 27 + b * 2 ^ 26 + i * 2 ^ 22 + j * 2 ^ 18) / 2 ^ 26 % 2 ≡ b
  field_immediate = omega arith

  field_destination : (c * 2 ^ 27 + b * 2 ^ 26 + i * 2 ^ 22 + j * 2 ^ 18) / 2 ^ 22 % 16 ≡ i
  field_destination = omega arith

  field_source : (c * 2 ^ 27 + b * 2 ^ 26 + i * 2 ^ 22 + j * 2 ^ 18) / 2 ^ 18 % 16 ≡ j
  field_source = omega arith

  field_padding : (c * 2 ^ 27 + b * 2 ^ 26 + i * 2 ^ 22 + j * 2 ^ 18) % 2 ^ 18 ≡ 0
  field_padding = omega arith

packed_back : (m : Mnemonic) (i j : ℕ) (a : Operand) → i < 16 → j < 16 → named a ≡ true → decoded (packed m i j a) ≡ arranged m i j a
packed_back m i j a hi hj h =
    let hb = bit_below a in
    rw (
      field_padding (opcode_of m) (immediate_bit a) i j hb hi hj,
      field_opcode (opcode_of m) (immediate_bit a) i j hb hi hj,
      field_immediate (opcode_of m) (immediate_bit a) i j hb hi hj,
      field_destination (opcode_of m) (immediate_bit a) i j hb hi hj,
      field_source (opcode_of m) (immediate_bit a) i j hb hi hj,
      code_back m,
      operand_back a h,
    )

and_true : (a b : Bool) → (a && b) ≡ true → (a ≡ true) × (b ≡ true)
and_true true b e = (refl, e)
and_true false b e = let z : ◌≡◌ {A = ℕ} 0 1 = cc in absurd (omega arith)

placed_back : (m : Mnemonic) (i j : ℕ) (a : Operand) (n : Instruction) → placed m i j a ≡ Some n → decoded n ≡ arranged m i j a
placed_back m i j a n e =
    let (t, same) = cond_some (ltb i 16 && (ltb j 16 && named a)) (packed m i j a) n e in
    let (ti, t') = and_true (ltb i 16) _ t in
    let (tj, ta) = and_true (ltb j 16) _ t' in
    let hi : i < 16 = grind (arith, nat_tests) in
    let hj : j < 16 = grind (arith, nat_tests) in
    ap decoded (sym same) ∙ packed_back m i j a hi hj ta

pub encoded_back : (o : Operation) (n : Instruction) → encoded o ≡ Some n → decoded n ≡ Some o
encoded_back (O.Compute b i j a) = placed_back (M.Compute b) i j a
encoded_back (O.Not i a) = placed_back M.Not i 0 a
encoded_back (O.Compare b j a) = placed_back (M.Compare b) 0 j a
encoded_back (O.Move i a) = placed_back M.Move i 0 a
encoded_back (O.MoveIfFlag i a) = placed_back M.MoveIfFlag i 0 a
encoded_back (O.Jump w a) = placed_back (M.Jump w) 0 0 a
encoded_back (O.Store s i a) = placed_back (M.Store s) i 0 a
encoded_back (O.Load s i a) = placed_back (M.Load s) i 0 a
encoded_back (O.Read i a) = placed_back M.Read i 0 a
encoded_back (O.Answer a) = placed_back M.Answer 0 0 a

-- WHAT IS READ WAS WRITTEN

operand_only : (b : Bool) (n : ℕ) (a : Operand) → operand_of b n ≡ Some a → (immediate_bit a ≡ cond b 1 0) × (operand_word a ≡ n) × (named a ≡ true)
operand_only true n a e =
    let same : Immediate n ≡ a = cc in
    subst (λ (x : Operand). (immediate_bit x ≡ 1) × (operand_word x ≡ n) × (named x ≡ true)) same (refl, refl, refl)
operand_only false n a e =
    let (t, same) = cond_some (ltb n 16) (Register n) a e in
    subst (λ (x : Operand). (immediate_bit x ≡ 0) × (operand_word x ≡ n) × (named x ≡ true)) same (refl, refl, t)

opened : (b : Bool) (x : Option Mnemonic) (y : Option Operand) (i j : ℕ) (o : Operation) → cond b (both x y i j) None ≡ Some o
    → (m : Mnemonic) × (a : Operand) × (b ≡ true) × (x ≡ Some m) × (y ≡ Some a) × (arranged m i j a ≡ Some o)
opened true (Some m) (Some a) i j o e = (m, a, refl, refl, refl, e)
opened true (Some m) None i j o e = absurd (none-some o e)
opened true None y i j o e = absurd (none-some o e)
opened false x y i j o e = absurd (none-some o e)

module _ (i j : ℕ) (a : Operand) (o : Operation) where
  -- the source, the destination, or both are not used
  no_source : (m : Mnemonic) (x : Operation) → encoded x ≡ placed m i 0 a → cond (eqb j 0) (Some x) None ≡ Some o → encoded o ≡ placed m i j a
  no_source m x w e =
      let (t, same) = cond_some (eqb j 0) x o e in
      ap encoded (sym same) ∙ w ∙ ap (λ k. placed m i k a) (sym (eqb-true j 0 t))

  no_destination : (m : Mnemonic) (x : Operation) → encoded x ≡ placed m 0 j a → cond (eqb i 0) (Some x) None ≡ Some o → encoded o ≡ placed m i j a
  no_destination m x w e =
      let (t, same) = cond_some (eqb i 0) x o e in
      ap encoded (sym same) ∙ w ∙ ap (λ k. placed m k j a) (sym (eqb-true i 0 t))

  no_register : (m : Mnemonic) (x : Operation) → encoded x ≡ placed m 0 0 a → cond (eqb i 0 && eqb j 0) (Some x) None ≡ Some o → encoded o ≡ placed m i j a
  no_register m x w e =
      let (t, same) = cond_some (eqb i 0 && eqb j 0) x o e in
      let (p, q) = and_true (eqb i 0) (eqb j 0) t in
      ap encoded (sym same) ∙ w ∙ ap (λ k. placed m k 0 a) (sym (eqb-true i 0 p)) ∙ ap (λ k. placed m i k a) (sym (eqb-true j 0 q))

  arranged_only : (m : Mnemonic) → arranged m i j a ≡ Some o → encoded o ≡ placed m i j a
  arranged_only (M.Compute b) e = let same : O.Compute b i j a ≡ o = cc in ap encoded (sym same)
  arranged_only M.Not e = no_source M.Not (O.Not i a) refl e
  arranged_only (M.Compare b) e = no_destination (M.Compare b) (O.Compare b j a) refl e
  arranged_only M.Move e = no_source M.Move (O.Move i a) refl e
  arranged_only M.MoveIfFlag e = no_source M.MoveIfFlag (O.MoveIfFlag i a) refl e
  arranged_only (M.Jump w) e = no_register (M.Jump w) (O.Jump w a) refl e
  arranged_only (M.Store s) e = no_source (M.Store s) (O.Store s i a) refl e
  arranged_only (M.Load s) e = no_source (M.Load s) (O.Load s i a) refl e
  arranged_only M.Read e = no_source M.Read (O.Read i a) refl e
  arranged_only M.Answer e = no_register M.Answer (O.Answer a) refl e

one_bit : (k : ℕ) → k < 2 → cond (eqb k 1) 1 0 ≡ k
one_bit k h = grind (arith, nat_tests)

repacked : (n : Instruction) (m : Mnemonic) (a : Operand) → padding n ≡ 0 → opcode_of m ≡ opcode n → immediate_bit a ≡ immediate n → operand_word a ≡ n.second → packed m (destination n) (source n) a ≡ n
repacked n m a z c b w =
    let f : opcode_of m * 2 ^ 27 + immediate_bit a * 2 ^ 26 + destination n * 2 ^ 22 + source n * 2 ^ 18 ≡ n.first = omega (arith, shr-shr n.first 18 4, shr-shr n.first 22 4, shr-shr n.first 26 1) in
    λ k. record { first = f k; second = w k }

placed_some : (m : Mnemonic) (i j : ℕ) (a : Operand) → i < 16 → j < 16 → named a ≡ true → placed m i j a ≡ Some (packed m i j a)
placed_some m i j a hi hj h = grind (arith, nat_tests)

pub decoded_only : (n : Instruction) (o : Operation) → decoded n ≡ Some o → encoded o ≡ Some n
decoded_only n o e =
    let (m, a, z, x, y, r) = opened (eqb (padding n) 0) (mnemonic_of (opcode n)) (operand_of (eqb (immediate n) 1) n.second) (destination n) (source n) o e in
    let (b, w, h) = operand_only (eqb (immediate n) 1) n.second a y in
    arranged_only (destination n) (source n) a o m r
    ∙ placed_some m (destination n) (source n) a (omega arith) (omega arith) h
    ∙ ap Some (repacked n m a (eqb-true (padding n) 0 z) (code_only (opcode n) m x) (b ∙ one_bit (immediate n) (omega arith)) w)
