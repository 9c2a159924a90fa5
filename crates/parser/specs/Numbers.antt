-- Registers and integers.
--   register_of w  the number of a register from r0 to r15, without leading zeros
--   written n ds   the number that the digits ds write after the number n
--   digits_of w    the value modulo 2^32 of 1 to 10 digits
--   integer_of w   the value modulo 2^32 of an integer: 1 to 10 digits after an optional minus
-- Assumes nothing.
use Rattle.std.specs.Prelude.{ℕ, ◌+◌, ◌-◌, ◌*◌, ◌%◌, ◌^◌, Bool, cond, ◌&&◌, List, [], ◌∷◌, length, Some, None, Option, ◌==◌, slice_index}
use Rattle.std.specs.Option.{option_map}
use Rattle.lexer.specs.declared.class.Class.TheVariants.{Digit}
use Rattle.lexer.specs.Classes.{between, past}
use Rattle.lexer.specs.Tokens.{after_mark}

abbrev pub register_of : List ℕ → Option ℕ
register_of w =
    cond (length w == 2 && slice_index w 0 == 114 && between 48 57 (slice_index w 1)) (Some (slice_index w 1 - 48))
    (cond (length w == 3 && slice_index w 0 == 114 && slice_index w 1 == 49 && between 48 53 (slice_index w 2)) (Some (10 + (slice_index w 2 - 48)))
    None)

abbrev pub written : ℕ → List ℕ → ℕ
written n [] = n
written n (d ∷ ds) = written (10 * n + (d - 48)) ds

abbrev pub numeral : List ℕ → Bool
numeral w = between 1 10 (length w) && length (past Digit w) == 0

abbrev pub digits_of : List ℕ → Option ℕ
digits_of w = cond (numeral w) (Some (written 0 w % 2 ^ 32)) None

abbrev pub negated : Option ℕ → Option ℕ
negated r = option_map (λ n. (2 ^ 32 - n) % 2 ^ 32) r

-- w, of which ds follows a minus, if there is one
abbrev pub signed : List ℕ → Option (List ℕ) → Option ℕ
signed w (Some ds) = negated (digits_of ds)
signed w None = digits_of w

abbrev pub integer_of : List ℕ → Option ℕ
integer_of w = signed w (after_mark 45 w)
