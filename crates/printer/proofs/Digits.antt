-- Registers and integers as they are printed, and what they are read as. Assumes nothing.
use Rattle.std.proofs.Common.{◌≡◌, ℕ, ◌+◌, ◌-◌, ◌/◌, ◌%◌, ◌^◌, ◌<◌, ◌≤◌, Bool, true, cond, List, [], ◌∷◌, ◌++◌, length, Some, None, decimal, refl, ap, ◌∙◌, inl, inr, arith}
use Rattle.std.specs.Char.{is_ascii_digit}
use Rattle.std.specs.Str.{all_ascii_digits}
use Rattle.std.proofs.lemmas.Fmt.{decimal_digit, decimal_step, decimal_nonempty, digits_decimal, digits_value-decimal, length-decimal-le}
use Rattle.std.proofs.lemmas.Bool.{cases_lt}
use Rattle.std.proofs.lemmas.Bool.{and_parts}
use Rattle.std.specs.List.{list_all}
use Rattle.std.proofs.lemmas.List.{append-nil}
use Rattle.std.proofs.lemmas.Bool.Decides.{nat_tests}
use Rattle.lexer.specs.declared.class.Class.TheVariants.{Blank, Word, Digit, Line}
use Rattle.lexer.specs.Classes.{between, belongs, past}
use Rattle.lexer.specs.Tokens.{Register, Integer, kind_of, after_mark}
use Rattle.parser.specs.Numbers.{register_of, written, numeral, signed, integer_of}
use Rattle.parser.proofs.Digits.{own}
use Rattle.printer.proofs.Fronts.{stopped, past_append}

every_digits : (p : ℕ → Bool) → ((c : ℕ) → is_ascii_digit c ≡ true → p c ≡ true) → (ds : List ℕ) → all_ascii_digits ds ≡ true → list_all p ds ≡ true
every_digits p f [] a = refl
every_digits p f (d ∷ ds) a =
    rw (f d ((and_parts (is_ascii_digit d) (all_ascii_digits ds) a).0)) (every_digits p f ds ((and_parts (is_ascii_digit d) (all_ascii_digits ds) a).1))

digit_word : (c : ℕ) → is_ascii_digit c ≡ true → belongs Word c ≡ true
digit_word c h = grind (arith, nat_tests)

digit_line : (c : ℕ) → is_ascii_digit c ≡ true → belongs Line c ≡ true
digit_line c h = grind (arith, nat_tests)

digit_digit : (c : ℕ) → is_ascii_digit c ≡ true → belongs Digit c ≡ true
digit_digit c h = grind (arith, nat_tests)

module _ (n : ℕ) (h : n < 2 ^ 64) where
  pub decimal_word : list_all (belongs Word) (decimal n) ≡ true
  decimal_word = every_digits (belongs Word) digit_word (decimal n) (digits_decimal own n h)

  pub decimal_line : list_all (belongs Line) (decimal n) ≡ true
  decimal_line = every_digits (belongs Line) digit_line (decimal n) (digits_decimal own n h)

-- the kind of what starts with digits, or with a register's letter and digits
register_starts : (ds rest : List ℕ) → 0 < length ds → all_ascii_digits ds ≡ true → kind_of (114 ∷ (ds ++ rest)) ≡ Register
register_starts [] rest h a = absurd (omega arith)
register_starts (d ∷ ds) rest h a = let k : is_ascii_digit d ≡ true = (and_parts (is_ascii_digit d) (all_ascii_digits ds) a).0 in grind (arith, nat_tests)

integer_starts : (ds rest : List ℕ) → 0 < length ds → all_ascii_digits ds ≡ true → kind_of (ds ++ rest) ≡ Integer
integer_starts [] rest h a = absurd (omega arith)
integer_starts (d ∷ ds) rest h a = let k : is_ascii_digit d ≡ true = (and_parts (is_ascii_digit d) (all_ascii_digits ds) a).0 in grind (arith, nat_tests)

integer_bare : (ds rest : List ℕ) → 0 < length ds → all_ascii_digits ds ≡ true → stopped (belongs Blank) (ds ++ rest) ≡ true
integer_bare [] rest h a = absurd (omega arith)
integer_bare (d ∷ ds) rest h a = let k : is_ascii_digit d ≡ true = (and_parts (is_ascii_digit d) (all_ascii_digits ds) a).0 in grind (arith, nat_tests)

module _ (n : ℕ) (rest : List ℕ) (h : n < 2 ^ 64) where
  pub register_kind : kind_of (114 ∷ (decimal n ++ rest)) ≡ Register
  register_kind = register_starts (decimal n) rest (decimal_nonempty n h) (digits_decimal own n h)

  pub integer_kind : kind_of (decimal n ++ rest) ≡ Integer
  integer_kind = integer_starts (decimal n) rest (decimal_nonempty n h) (digits_decimal own n h)

  pub integer_no_blank : stopped (belongs Blank) (decimal n ++ rest) ≡ true
  integer_no_blank = integer_bare (decimal n) rest (decimal_nonempty n h) (digits_decimal own n h)

one_digit : (i : ℕ) → i < 10 → register_of (114 ∷ (48 + i) ∷ []) ≡ Some i
one_digit i h = let k : between 48 57 (48 + i) ≡ true = grind (arith, nat_tests) in rw k (ap Some (omega arith))

two_digits : (i : ℕ) → 10 ≤ i → i < 16 → register_of (114 ∷ 49 ∷ (48 + i % 10) ∷ []) ≡ Some i
two_digits i l h = let k : between 48 53 (48 + i % 10) ≡ true = let m : i % 10 ≡ i - 10 = omega arith in grind (arith, nat_tests) in rw k (ap Some (omega arith))

decimal_two : (i : ℕ) → 10 ≤ i → i < 16 → decimal i ≡ 49 ∷ (48 + i % 10) ∷ []
decimal_two i l h =
    let q : i / 10 ≡ 1 = omega arith in
    decimal_step i l (omega arith) ∙ (rw (q, decimal_digit 1 (omega arith)) refl)

pub register_back : (i : ℕ) → i < 16 → register_of (114 ∷ decimal i) ≡ Some i
register_back i h =
    elim (cases_lt i 10) [
      | inl l ↦ ap (λ ds. register_of (114 ∷ ds)) (decimal_digit i l) ∙ one_digit i l
      | inr l ↦ ap (λ ds. register_of (114 ∷ ds)) (decimal_two i l h) ∙ two_digits i l h
    ]

no_minus : (ds : List ℕ) → 0 < length ds → all_ascii_digits ds ≡ true → after_mark 45 ds ≡ None
no_minus [] h a = absurd (omega arith)
no_minus (d ∷ ds) h a = let k : is_ascii_digit d ≡ true = (and_parts (is_ascii_digit d) (all_ascii_digits ds) a).0 in grind (arith, nat_tests)

all_digits : (ds : List ℕ) → all_ascii_digits ds ≡ true → past Digit ds ≡ []
all_digits ds a = rw append-nil at (past_append Digit ds [] (every_digits (belongs Digit) digit_digit ds a) refl)

is_numeral : (n : ℕ) → n < 2 ^ 32 → numeral (decimal n) ≡ true
is_numeral n h =
    let some = decimal_nonempty n (omega arith) in
    let few = length-decimal-le 10 n (omega arith) (omega arith) (omega arith) in
    let none = ap length (all_digits (decimal n) (digits_decimal own n (omega arith))) in
    grind (arith, nat_tests)

pub integer_back : (n : ℕ) → n < 2 ^ 32 → integer_of (decimal n) ≡ Some n
integer_back n h =
    ap (signed (decimal n)) (no_minus (decimal n) (decimal_nonempty n (omega arith)) (digits_decimal own n (omega arith)))
    ∙ (ap (λ t. cond t (Some (written 0 (decimal n) % 2 ^ 32)) None) (is_numeral n h)
    ∙ ap Some (ap (λ m. m % 2 ^ 32) (digits_value-decimal own n (omega arith)) ∙ omega arith))
