-- One step makes words of words.
-- Assumes nothing.
use Rattle.std.proofs.Common.{◌≡◌, ℕ, zero, suc, ◌+◌, ◌-◌, ◌*◌, ◌/◌, ◌%◌, ◌^◌, ◌<◌, ◌≤◌, Bool, true, false, cond, ◌&&◌, eqb, ltb, List, [], ◌∷◌, get_or, set, ℤ, pos, negsuc, ◌*ℤ◌, neg_ℤ, nat_abs, Some, None, Option, unwrap_or, refl, div-le_self, arith, w32, to_z}
use native.Mathlib.Nat.{mod-le}
use lib.Bits.{and_lt, or_lt, xor_lt}
use lib.Signed.{lt_z}
use Rattle.std.proofs.lemmas.Nat.{mul-le}
use Rattle.std.proofs.lemmas.Int.{ints}
use Rattle.std.proofs.lemmas.Bool.{cond_both}
use Rattle.word.specs.declared.cell.Size.{Size}
use Rattle.word.specs.declared.cell.Size.TheVariants.{Byte, Word}
use Rattle.word.specs.declared.operator.Arithmetic.{Arithmetic}
use Rattle.word.specs.declared.operator.Arithmetic.TheVariants.{And, Or, Xor, Add, Sub, Mull, Umulh, Smulh, Udiv, Umod, Shl, Shr}
use Rattle.word.specs.Arithmetic.{computed, inverted}
use Rattle.word.specs.Cell.{bytes_of, word_of, loaded, stored}
use Rattle.encoding.specs.declared.instruction.Instruction.{Instruction}
use Rattle.encoding.specs.declared.mnemonic.Mnemonic.{Mnemonic}
use Rattle.encoding.specs.declared.mnemonic.Mnemonic.TheVariants as M
use Rattle.encoding.specs.declared.operation.Operand.{Operand}
use Rattle.encoding.specs.declared.operation.Operand.TheVariants.{Register, Immediate}
use Rattle.encoding.specs.declared.operation.Operation.{Operation}
use Rattle.encoding.specs.declared.operation.Operation.TheVariants.{Compute, Not, Compare, Move, MoveIfFlag, Jump, Store, Load, Read, Answer}
use Rattle.encoding.specs.Opcodes.{mnemonic_of}
use Rattle.encoding.specs.Encoding.{opcode, immediate, destination, source, padding, operand_of, arranged, both, decoded, meant}
use Rattle.machine.specs.declared.cpu.Cpu.{Cpu}
use Rattle.machine.specs.State.{register_of, value_of, holds, advanced, jumped, written, flagged, passed}
use Rattle.machine.specs.Effects.{received, left, stepped}
use Rattle.tinyram.specs.Words.{CpuWords}
use Rattle.tinyram.proofs.Run.{operand_in}

-- ARITHMETIC

size_neg : (n : ℕ) → nat_abs (neg_ℤ (pos n)) ≡ n
size_neg zero = refl
size_neg (suc n) = refl

size_mul : (p q : ℤ) → nat_abs (p *ℤ q) ≡ nat_abs p * nat_abs q
size_mul (pos a) (pos b) = refl
size_mul (pos a) (negsuc b) = size_neg (a * suc b)
size_mul (negsuc a) (pos b) = size_neg (suc a * b)
size_mul (negsuc a) (negsuc b) = refl

size_signed : (x : ℕ) → x < 2 ^ 32 → nat_abs (to_z w32 x) ≤ 2 ^ 31
size_signed x h = omega (arith, ints)

-- a sign bit, and a size of at most 30 bits
signed_high : (b : Bool) (m : ℕ) → m ≤ 2 ^ 62 → cond b (2 ^ 31) 0 + m / 2 ^ 32 < 2 ^ 32
signed_high true m h = omega arith
signed_high false m h = omega arith

computed_word : (b : Arithmetic) (x a : ℕ) → x < 2 ^ 32 → a < 2 ^ 32 → (computed b x a).value < 2 ^ 32
computed_word And x a p q = and_lt 32 x a p q
computed_word Or x a p q = or_lt 32 x a p q
computed_word Xor x a p q = xor_lt 32 x a p q
computed_word Add x a p q = omega arith
computed_word Sub x a p q = omega arith
computed_word Mull x a p q = omega arith
computed_word Umulh x a p q = omega (arith, mul-le x a (2 ^ 32 - 1) (2 ^ 32 - 1) (omega arith) (omega arith))
computed_word Smulh x a p q =
    let m = mul-le (nat_abs (to_z w32 x)) (nat_abs (to_z w32 a)) (2 ^ 31) (2 ^ 31) (size_signed x p) (size_signed a q) in
    signed_high (lt_z (to_z w32 x *ℤ to_z w32 a) (pos 0)) (nat_abs (to_z w32 x *ℤ to_z w32 a)) (rw (size_mul (to_z w32 x) (to_z w32 a)) m)
computed_word Udiv x a p q = cond_both (eqb a 0) 0 (x / a) (λ n. n < 2 ^ 32) (λ e. omega arith) (λ e. omega (arith, div-le_self x a))
computed_word Umod x a p q = cond_both (eqb a 0) 0 (x % a) (λ n. n < 2 ^ 32) (λ e. omega arith) (λ e. omega (arith, mod-le x a))
computed_word Shl x a p q = cond_both (ltb a 32) ((x * 2 ^ a) % 2 ^ 32) 0 (λ n. n < 2 ^ 32) (λ e. omega arith) (λ e. omega arith)
computed_word Shr x a p q = cond_both (ltb a 32) (x / 2 ^ a) 0 (λ n. n < 2 ^ 32) (λ e. omega (arith, div-le_self x (2 ^ a))) (λ e. omega arith)

-- CELLS

byte_word : (n k : ℕ) → get_or (bytes_of n) k 0 < 2 ^ 32
byte_word n zero = omega arith
byte_word n (suc zero) = omega arith
byte_word n (suc (suc zero)) = omega arith
byte_word n (suc (suc (suc zero))) = omega arith
byte_word n (suc (suc (suc (suc k)))) = omega arith

bytes_word : (n k v : ℕ) → v < 256 → word_of (set (bytes_of n) k v) < 2 ^ 32
bytes_word n zero v h = omega arith
bytes_word n (suc zero) v h = omega arith
bytes_word n (suc (suc zero)) v h = omega arith
bytes_word n (suc (suc (suc zero))) v h = omega arith
bytes_word n (suc (suc (suc (suc k)))) v h = omega arith

loaded_word : (z : Size) (k n : ℕ) → n < 2 ^ 32 → loaded z k n < 2 ^ 32
loaded_word Byte k n h = byte_word n (k % 4)
loaded_word Word k n h = h

stored_word : (z : Size) (k w n : ℕ) → w < 2 ^ 32 → stored z k w n < 2 ^ 32
stored_word Byte k w n h = bytes_word n (k % 4) (w % 256) (omega arith)
stored_word Word k w n h = h

-- INSTRUCTIONS

abbrev pub OperandWord : Operand → Type 0
OperandWord (Register i) = Unit {0}
OperandWord (Immediate n) = n < 2 ^ 32

abbrev Meant : Option Operation → Type 0
Meant None = Unit {0}
Meant (Some o) = OperandWord (operand_in o)

used : (b : Bool) (o : Operation) → OperandWord (operand_in o) → Meant (cond b (Some o) None)
used true o h = h
used false o h = tt

arranged_word : (m : Mnemonic) (i j : ℕ) (a : Operand) → OperandWord a → Meant (arranged m i j a)
arranged_word (M.Compute b) i j a h = h
arranged_word M.Not i j a h = used (eqb j 0) (Not i a) h
arranged_word (M.Compare b) i j a h = used (eqb i 0) (Compare b j a) h
arranged_word M.Move i j a h = used (eqb j 0) (Move i a) h
arranged_word M.MoveIfFlag i j a h = used (eqb j 0) (MoveIfFlag i a) h
arranged_word (M.Jump w) i j a h = used (eqb i 0 && eqb j 0) (Jump w a) h
arranged_word (M.Store z) i j a h = used (eqb j 0) (Store z i a) h
arranged_word (M.Load z) i j a h = used (eqb j 0) (Load z i a) h
arranged_word M.Read i j a h = used (eqb j 0) (Read i a) h
arranged_word M.Answer i j a h = used (eqb i 0 && eqb j 0) (Answer a) h

both_word : (m : Option Mnemonic) (c : Bool) (n i j : ℕ) → n < 2 ^ 32 → Meant (both m (operand_of c n) i j)
both_word None c n i j h = tt
both_word (Some m) true n i j h = arranged_word m i j (Immediate n) h
both_word (Some m) false n i j h =
    cond_both (ltb n 16) (Some (Register n)) None (λ a. Meant (both (Some m) a i j)) (λ e. arranged_word m i j (Register n) tt) (λ e. tt)

known : (o : Option Operation) → Meant o → OperandWord (operand_in (unwrap_or o (Answer (Immediate 1))))
known None h = omega arith
known (Some o) h = h

pub meant_word : (n : Instruction) → n.second < 2 ^ 32 → OperandWord (operand_in (meant n))
meant_word n h =
    known (decoded n) (cond_both (eqb (padding n) 0) (both (mnemonic_of (opcode n)) (operand_of (eqb (immediate n) 1) n.second) (destination n) (source n)) None
    Meant (λ e. both_word (mnemonic_of (opcode n)) (eqb (immediate n) 1) n.second (destination n) (source n) h) (λ e. tt))

-- THE STATE

abbrev pub GivenWord : Option ℕ → Type 0
GivenWord None = Unit {0}
GivenWord (Some n) = n < 2 ^ 32

given_word : (g : Option ℕ) → GivenWord g → unwrap_or g 0 < 2 ^ 32
given_word None h = omega arith
given_word (Some n) h = h

pub value_word : (s : Cpu) (a : Operand) → CpuWords s → OperandWord a → value_of s a < 2 ^ 32
value_word s (Register i) h k = h.registers i
value_word s (Immediate n) h k = k

set_word : (xs : List ℕ) (i n : ℕ) → ((k : ℕ) → get_or xs k 0 < 2 ^ 32) → n < 2 ^ 32 → (k : ℕ) → get_or (set xs i n) k 0 < 2 ^ 32
set_word [] i n h p k = h k
set_word (x ∷ xs) zero n h p zero = p
set_word (x ∷ xs) zero n h p (suc k) = h (suc k)
set_word (x ∷ xs) (suc i) n h p zero = h 0
set_word (x ∷ xs) (suc i) n h p (suc k) = set_word xs i n (λ j. h (suc j)) p k

module _ (s : Cpu) (h : CpuWords s) where
  advanced_words : CpuWords (advanced s)
  advanced_words = record { pc = omega arith; registers = h.registers; place = h.place }

  jumped_words : (n : ℕ) → n < 2 ^ 32 → CpuWords (jumped s n)
  jumped_words n p = record { pc = p; registers = h.registers; place = h.place }

  -- a word and a flag, and on
  concluded_words : (i n : ℕ) (f : Bool) → n < 2 ^ 32 → CpuWords (advanced (flagged (written s i n) f))
  concluded_words i n f p = record { pc = omega arith; registers = set_word s.registers i n h.registers p; place = h.place }

  passed_words : CpuWords (passed s)
  passed_words = record { pc = h.pc; registers = h.registers; place = omega arith }

received_words : (s : Cpu) (i tape : ℕ) (g : Option ℕ) → CpuWords s → GivenWord g → CpuWords (received s i tape g)
received_words s i tape None h k = concluded_words s h i 0 true (omega arith)
received_words s i tape (Some n) h k =
    cond_both (ltb tape 2) (advanced (flagged (written (cond (eqb tape 0) (passed s) s) i n) false)) (advanced (flagged (written s i 0) true)) CpuWords
    (λ e. cond_both (eqb tape 0) (passed s) s (λ r. CpuWords (advanced (flagged (written r i n) false)))
    (λ e. concluded_words (passed s) (passed_words s h) i n false k) (λ e. concluded_words s h i n false k))
    (λ e. concluded_words s h i 0 true (omega arith))

pub stepped_words : (o : Operation) (g : Option ℕ) (s : Cpu) → OperandWord (operand_in o) → GivenWord g → CpuWords s → CpuWords (stepped o g s)
stepped_words (Compute b i j a) g s p k h =
    concluded_words s h i (computed b (register_of s j) (value_of s a)).value (computed b (register_of s j) (value_of s a)).flag
    (computed_word b (register_of s j) (value_of s a) (h.registers j) (value_word s a h p))
stepped_words (Not i a) g s p k h = concluded_words s h i (inverted (value_of s a)).value (inverted (value_of s a)).flag (omega arith)
stepped_words (Compare b j a) g s p k h = record { pc = omega arith; registers = h.registers; place = h.place }
stepped_words (Move i a) g s p k h = concluded_words s h i (value_of s a) s.flag (value_word s a h p)
stepped_words (MoveIfFlag i a) g s p k h =
    cond_both s.flag (written s i (value_of s a)) s (λ r. CpuWords (advanced r))
    (λ e. concluded_words s h i (value_of s a) s.flag (value_word s a h p)) (λ e. advanced_words s h)
stepped_words (Jump w a) g s p k h =
    cond_both (holds w s.flag) (jumped s (value_of s a)) (advanced s) CpuWords
    (λ e. jumped_words s h (value_of s a) (value_word s a h p)) (λ e. advanced_words s h)
stepped_words (Store z i a) g s p k h = advanced_words s h
stepped_words (Load z i a) g s p k h =
    concluded_words s h i (loaded z (value_of s a) (unwrap_or g 0)) s.flag (loaded_word z (value_of s a) (unwrap_or g 0) (given_word g k))
stepped_words (Read i a) g s p k h = received_words s i (value_of s a) g h k
stepped_words (Answer a) g s p k h = h

pub left_word : (o : Operation) (s : Cpu) (n : ℕ) → CpuWords s → n < 2 ^ 32 → left o s n < 2 ^ 32
left_word (Compute b i j a) s n h k = k
left_word (Not i a) s n h k = k
left_word (Compare b j a) s n h k = k
left_word (Move i a) s n h k = k
left_word (MoveIfFlag i a) s n h k = k
left_word (Jump w a) s n h k = k
left_word (Store z i a) s n h k = stored_word z (value_of s a) (register_of s i) n (h.registers i)
left_word (Load z i a) s n h k = k
left_word (Read i a) s n h k = k
left_word (Answer a) s n h k = k
