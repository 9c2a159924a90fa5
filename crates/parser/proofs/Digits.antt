-- What `parse` answers at 1 to 10 digits. Assumes nothing.
use Rattle.std.proofs.Common.{◌≡◌, ℕ, ◌+◌, ◌≤◌, Bool, true, false, cond, List, [], ◌∷◌, length, drop, Ok, Result, refl, arith, rules}
use Rattle.std.proofs.Math.Numerals.{one-add}
use Rattle.std.specs.List.{prefix_len}
use Rattle.std.specs.Str.Parse.{ParsesUnsigned}
use Rattle.std.specs.Str.{all_ascii_digits}
use Rattle.std.proofs.lemmas.Str.Parse.{IsNumeralModel, numerals_by_fold, parse_gives, digits_value_short}
use Rattle.std.proofs.lemmas.Bool.Decides.{nat_tests}
use Rattle.lexer.specs.declared.class.Class.TheVariants.{Digit}
use Rattle.lexer.specs.Classes.{belongs, past}
use Rattle.parser.specs.Numbers.{written, numeral}

digits_cons : (b : ℕ) (w : List ℕ) (t : Bool) → belongs Digit b ≡ t → (length (past Digit w) ≡ 0 → all_ascii_digits w ≡ true) → length (drop (cond t (1 + prefix_len (belongs Digit) w) 0) (b ∷ w)) ≡ 0 → all_ascii_digits (b ∷ w) ≡ true
digits_cons b w true h more e = rw (more (rw one-add at e)) (grind (arith, nat_tests))
digits_cons b w false h more e = absurd (omega arith)

digits_all : (w : List ℕ) → length (past Digit w) ≡ 0 → all_ascii_digits w ≡ true
digits_all [] e = refl
digits_all (b ∷ w) e = digits_cons b w (belongs Digit b) refl (digits_all w) e

pub own : IsNumeralModel (λ ds. all_ascii_digits ds ≡ true) (written 0)
own = numerals_by_fold _ (search rules) written (search rules)

pub parsed : (w : List ℕ) {E : Type 0} (r : Result ℕ E) → ParsesUnsigned 64 10 w r → numeral w ≡ true → r ≡ Ok (written 0 w)
parsed w r h n =
    let some : 1 ≤ length w = grind (arith, nat_tests) in
    let few : length w ≤ 10 = grind (arith, nat_tests) in
    let none : length (past Digit w) ≡ 0 = grind (arith, nat_tests) in
    let all = digits_all w none in
    parse_gives own 64 w r h all some (omega (arith, digits_value_short own w 10 all few))
