-- Printed operands are read as they are. Assumes nothing.
use Rattle.std.proofs.Common.{◌≡◌, ℕ, ◌-◌, ◌^◌, ◌<◌, true, List, [], ◌∷◌, ◌++◌, length, Some, decimal, Option, refl, ap, ◌∙◌, subst, arith}
use Rattle.std.specs.List.{list_all}
use Rattle.std.proofs.lemmas.List.{append-nil}
use Rattle.std.proofs.lemmas.Bool.Decides.{nat_tests}
use Rattle.std.specs.Option.{option_map}
use Rattle.encoding.specs.declared.operation.Operand.{Operand}
use Rattle.encoding.specs.declared.operation.Operand.TheVariants as operand
use Rattle.encoding.specs.Encoding as encoding
use Rattle.lexer.specs.declared.class.Class.TheVariants.{Blank, Word}
use Rattle.lexer.specs.Classes.{belongs, front, past}
use Rattle.lexer.specs.Tokens.{Kind, Register, Integer, kind_of, text_of, rest_of}
use Rattle.parser.specs.Numbers.{register_of, integer_of}
use Rattle.parser.specs.Operands.{ArgumentView, register, integer, argument_from, and_then, on_register, on_comma, comma_in, operand_in, register_in}
use Rattle.printer.specs.Listing.{register_text, operand_text, comma}
use Rattle.printer.proofs.Fronts.{stopped, front_append, past_append, past_blank, kind_cons}
use Rattle.printer.proofs.Digits.{decimal_word, register_kind, integer_kind, integer_no_blank, register_back, integer_back}

abbrev pub view_of : Operand → ArgumentView
view_of (operand.Register i) = register i
view_of (operand.Immediate n) = integer n

abbrev read_at : ℕ → Kind → List ℕ → Option (ArgumentView × List ℕ)
read_at place k x = option_map (λ a. (a, rest_of k x)) (argument_from k (text_of k x) place)

module _ (width : ℕ) (bs x w rest : List ℕ) (b : past Blank bs ≡ x) (f : front Word x ≡ w) (r : past Word x ≡ rest) where
  at_kind : (k : Kind) → kind_of x ≡ k → operand_in width bs ≡ read_at (width - length x) k x
  at_kind k e = ap (λ y. read_at (width - length y) (kind_of y) y) b ∙ ap (λ q. read_at (width - length x) q x) e

  as_register : (i : ℕ) → kind_of x ≡ Register → register_of w ≡ Some i → operand_in width bs ≡ Some (register i, rest)
  as_register i k o =
      at_kind Register k
      ∙ (ap (λ t. option_map (λ a. (a, past Word x)) (option_map register (register_of t))) f
      ∙ (ap (λ t. option_map (λ a. (a, t)) (option_map register (register_of w))) r
      ∙ ap (λ t. option_map (λ a. (a, rest)) (option_map register t)) o))

  as_integer : (n : ℕ) → kind_of x ≡ Integer → integer_of w ≡ Some n → operand_in width bs ≡ Some (integer n, rest)
  as_integer n k o =
      at_kind Integer k
      ∙ (ap (λ t. option_map (λ a. (a, past Word x)) (option_map integer (integer_of t))) f
      ∙ (ap (λ t. option_map (λ a. (a, t)) (option_map integer (integer_of w))) r
      ∙ ap (λ t. option_map (λ a. (a, rest)) (option_map integer t)) o))

register_operand : (width i : ℕ) (rest : List ℕ) → i < 16 → stopped (belongs Word) rest ≡ true → operand_in width (32 ∷ (register_text i ++ rest)) ≡ Some (register i, rest)
register_operand width i rest h s =
    let l : i < 2 ^ 64 = omega arith in
    let e : list_all (belongs Word) (register_text i) ≡ true = decimal_word i l in
    as_register width (32 ∷ (register_text i ++ rest)) (register_text i ++ rest) (register_text i) rest (past_blank (register_text i ++ rest) refl) (front_append Word (register_text i) rest e s) (past_append Word (register_text i) rest e s) i (register_kind i rest l) (register_back i h)

integer_operand : (width n : ℕ) (rest : List ℕ) → n < 2 ^ 32 → stopped (belongs Word) rest ≡ true → operand_in width (32 ∷ (decimal n ++ rest)) ≡ Some (integer n, rest)
integer_operand width n rest h s =
    let l : n < 2 ^ 64 = omega arith in
    as_integer width (32 ∷ (decimal n ++ rest)) (decimal n ++ rest) (decimal n) rest (past_blank (decimal n ++ rest) (integer_no_blank n rest l)) (front_append Word (decimal n) rest (decimal_word n l) s) (past_append Word (decimal n) rest (decimal_word n l) s) n (integer_kind n rest l) (integer_back n h)

-- a register that is named is one of the 16, and a word fits
pub operand_back : (width : ℕ) (a : Operand) (rest : List ℕ) → encoding.named a ≡ true → encoding.operand_word a < 2 ^ 32 → stopped (belongs Word) rest ≡ true → operand_in width (32 ∷ (operand_text a ++ rest)) ≡ Some (view_of a, rest)
operand_back width (operand.Register i) rest n h s = register_operand width i rest (let l : i < 16 = grind (arith, nat_tests) in l) s
operand_back width (operand.Immediate m) rest n h s = integer_operand width m rest h s

pub operand_last : (width : ℕ) (a : Operand) → encoding.named a ≡ true → encoding.operand_word a < 2 ^ 32 → operand_in width (32 ∷ operand_text a) ≡ Some (view_of a, [])
operand_last width a n h =
    subst (λ t. operand_in width (32 ∷ t) ≡ Some (view_of a, [])) (append-nil (operand_text a)) (operand_back width a [] n h refl)

pub register_in_lem : (width i : ℕ) (rest : List ℕ) → i < 16 → stopped (belongs Word) rest ≡ true → register_in width (32 ∷ (register_text i ++ rest)) ≡ Some (i, rest)
register_in_lem width i rest h s = ap (λ q. and_then q (λ x. on_register x.0 x.1)) (register_operand width i rest h s)

pub register_last : (width i : ℕ) → i < 16 → register_in width (32 ∷ register_text i) ≡ Some (i, [])
register_last width i h =
    subst (λ t. register_in width (32 ∷ t) ≡ Some (i, [])) (append-nil (register_text i)) (register_in_lem width i [] h refl)

pub comma_in_lem : (x : List ℕ) → comma_in (comma x) ≡ Some (32 ∷ x)
comma_in_lem x = ap (λ k. on_comma k (rest_of k (comma x))) (kind_cons 44 (32 ∷ x))
