-- The operators on words of 32 bits: the word to store, and the flag.
--   computed by x a   what `op ri, rj, A` makes of [rj] = x and [A] = a
--   inverted a        what `not ri, A` makes of [A] = a
--   compared by x a   the flag that `op ri, A` sets, at [ri] = x and [A] = a
-- Words are numbers below 2 ^ 32; `to_z w32` takes one as signed, by two's complement.
-- Assumes nothing.
use Rattle.std.specs.Prelude.{ℕ, ◌+◌, ◌-◌, ◌*◌, ◌/◌, ◌%◌, ◌^◌, Bool, cond, ◌||◌, ℤ, pos, negsuc, ◌*ℤ◌, ◌==◌, bit_and, bit_or, bit_xor, int_le, int_lt, nat_le, nat_lt, unsigned_abs, Option, is_none}
use Rattle.std.specs.Option.{unwrap_or}
use Rattle.std.proofs.Common.{to_z}
use Rattle.std.specs.Int.{w32}
use Rattle.word.specs.declared.operator.Arithmetic.{Arithmetic}
use Rattle.word.specs.declared.operator.Arithmetic.TheVariants.{And, Or, Xor, Add, Sub, Mull, Umulh, Smulh, Udiv, Umod, Shl, Shr}
use Rattle.word.specs.declared.operator.Comparison.{Comparison}
use Rattle.word.specs.declared.operator.Comparison.TheVariants.{Equal, Above, AboveOrEqual, Greater, GreaterOrEqual}
use Rattle.word.specs.declared.outcome.Outcome.{Outcome}

-- the flag of a bit operation: the result is 0
abbrev pub bitwise : ℕ → Outcome
bitwise n = record { value = n; flag = (n == 0) }

abbrev pub inverted : ℕ → Outcome
inverted a = bitwise (2 ^ 32 - 1 - a)

-- the low 32 bits of G = x + a; the flag is bit 32 of G
abbrev pub added : ℕ → ℕ → Outcome
added x a = record { value = (x + a) % 2 ^ 32; flag = nat_le (2 ^ 32) (x + a) }

-- the low 32 bits of G = x + 2 ^ 32 - a; the flag is 1 less bit 32 of G: a borrow
abbrev pub subtracted : ℕ → ℕ → Outcome
subtracted x a = record { value = (x + 2 ^ 32 - a) % 2 ^ 32; flag = nat_lt (x + 2 ^ 32 - a) (2 ^ 32) }

-- the low 32 bits of the product; the flag: the product is no word
abbrev pub multiplied_low : ℕ → ℕ → Outcome
multiplied_low x a = record { value = (x * a) % 2 ^ 32; flag = nat_le (2 ^ 32) (x * a) }

-- the high 32 bits of the product; the flag: the product is no word
abbrev pub multiplied_high : ℕ → ℕ → Outcome
multiplied_high x a = record { value = (x * a) / 2 ^ 32; flag = nat_le (2 ^ 32) (x * a) }

-- bit 31 is the sign of p, and below it stands |p| divided by 2 ^ 32, rounded down
abbrev pub sign_magnitude : ℤ → ℕ
sign_magnitude p = cond (int_lt p (pos 0)) (2 ^ 31) 0 + unsigned_abs p / 2 ^ 32

-- p is no signed word: it is below - 2 ^ 31, or at least 2 ^ 31
abbrev pub beyond_signed : ℤ → Bool
beyond_signed p = int_lt p (negsuc (2 ^ 31 - 1)) || int_le (pos (2 ^ 31)) p

abbrev pub signed_high : ℕ → ℕ → Outcome
signed_high x a = record { value = sign_magnitude (to_z w32 x *ℤ to_z w32 a); flag = beyond_signed (to_z w32 x *ℤ to_z w32 a) }

-- what a division stores: where it has no result, 0, with the flag
abbrev pub or_zero : Option ℕ → Outcome
or_zero q = record { value = unwrap_or q 0; flag = is_none q }

-- quotient and remainder; both are 0, and the flag is 1, at the divisor 0
abbrev pub divided : ℕ → ℕ → Outcome
divided x a = record { value = cond (a == 0) 0 (x / a); flag = (a == 0) }

abbrev pub reduced : ℕ → ℕ → Outcome
reduced x a = record { value = cond (a == 0) 0 (x % a); flag = (a == 0) }

-- a count of 32 or more leaves nothing; the flag is the top bit of x, whatever the count
abbrev pub shifted_left : ℕ → ℕ → Outcome
shifted_left x a = record { value = cond (nat_lt a 32) ((x * 2 ^ a) % 2 ^ 32) 0; flag = nat_le (2 ^ 31) x }

-- the same to the right; the flag is the lowest bit of x
abbrev pub shifted_right : ℕ → ℕ → Outcome
shifted_right x a = record { value = cond (nat_lt a 32) (x / 2 ^ a) 0; flag = (x % 2 == 1) }

abbrev pub computed : Arithmetic → ℕ → ℕ → Outcome
computed And x a = bitwise (bit_and x a)
computed Or x a = bitwise (bit_or x a)
computed Xor x a = bitwise (bit_xor x a)
computed Add x a = added x a
computed Sub x a = subtracted x a
computed Mull x a = multiplied_low x a
computed Umulh x a = multiplied_high x a
computed Smulh x a = signed_high x a
computed Udiv x a = divided x a
computed Umod x a = reduced x a
computed Shl x a = shifted_left x a
computed Shr x a = shifted_right x a

-- equality, and the orders of unsigned and of signed words
abbrev pub compared : Comparison → ℕ → ℕ → Bool
compared Equal x a = x == a
compared Above x a = nat_lt a x
compared AboveOrEqual x a = nat_le a x
compared Greater x a = int_lt (to_z w32 a) (to_z w32 x)
compared GreaterOrEqual x a = int_le (to_z w32 a) (to_z w32 x)
