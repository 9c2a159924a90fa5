-- The 29 names, each read as what it is. Assumes nothing.
use Rattle.std.proofs.Common.{◌≡◌, ℕ, ◌≤◌, true, List, [], ◌∷◌, ◌++◌, length, get_or, Some, None, Option, refl, ap, ◌∙◌, arith}
use Rattle.std.specs.List.{list_all}
use Rattle.std.specs.Option.{option_map}
use Rattle.word.specs.declared.operator.Arithmetic.TheVariants.{And, Or, Xor, Add, Sub, Mull, Umulh, Smulh, Udiv, Umod, Shl, Shr}
use Rattle.word.specs.declared.operator.Comparison.TheVariants.{Equal, Above, AboveOrEqual, Greater, GreaterOrEqual}
use Rattle.word.specs.declared.cell.Size.TheVariants.{Byte}
use Rattle.word.specs.declared.cell.Size.TheVariants as size
use Rattle.encoding.specs.declared.operation.Condition.TheVariants.{Always, IfFlag, UnlessFlag}
use Rattle.encoding.specs.declared.mnemonic.Mnemonic as encoding
use Rattle.encoding.specs.declared.mnemonic.Mnemonic.TheVariants.{Compute, Not, Compare, Move, MoveIfFlag, Jump, Store, Load, Read, Answer}
use Rattle.lexer.specs.declared.class.Class.TheVariants.{Blank, Word, Line}
use Rattle.lexer.specs.Classes.{belongs, past}
use Rattle.lexer.specs.Tokens.{Kind, Mnemonic, start_of, kind_of, text_of, rest_of}
use Rattle.mnemonics.specs.Names.{name_of, mnemonic_of}
use Rattle.parser.specs.Operands.{and_then}
use Rattle.parser.specs.Statements.{LineView, whole, statement_from, line_from, line, line_in}
use Rattle.printer.proofs.Fronts.{stopped, front_append, past_append, kind_cons}

kind_of_lem : (w rest : List ℕ) → 2 ≤ length w → start_of (get_or w 0 0) (get_or w 1 0) ≡ Mnemonic → kind_of (w ++ rest) ≡ Mnemonic
kind_of_lem [] rest h e = absurd (omega arith)
kind_of_lem (c ∷ []) rest h e = absurd (omega arith)
kind_of_lem (c ∷ d ∷ w) rest h e = kind_cons c (d ∷ (w ++ rest)) ∙ e

record Name (m : encoding.Mnemonic) : Type 0 where
  pub plain : list_all (belongs Line) (name_of m) ≡ true
  pub word : list_all (belongs Word) (name_of m) ≡ true
  pub back : mnemonic_of (name_of m) ≡ Some m
  pub bare : (rest : List ℕ) → stopped (belongs Blank) (name_of m ++ rest) ≡ true
  pub long : 2 ≤ length (name_of m)
  pub start : start_of (get_or (name_of m) 0 0) (get_or (name_of m) 1 0) ≡ Mnemonic

facts : (m : encoding.Mnemonic) → Name m
facts (Compute And) = record { plain = refl; word = refl; back = refl; bare = λ rest. refl; long = omega arith; start = refl }
facts (Compute Or) = record { plain = refl; word = refl; back = refl; bare = λ rest. refl; long = omega arith; start = refl }
facts (Compute Xor) = record { plain = refl; word = refl; back = refl; bare = λ rest. refl; long = omega arith; start = refl }
facts (Compute Add) = record { plain = refl; word = refl; back = refl; bare = λ rest. refl; long = omega arith; start = refl }
facts (Compute Sub) = record { plain = refl; word = refl; back = refl; bare = λ rest. refl; long = omega arith; start = refl }
facts (Compute Mull) = record { plain = refl; word = refl; back = refl; bare = λ rest. refl; long = omega arith; start = refl }
facts (Compute Umulh) = record { plain = refl; word = refl; back = refl; bare = λ rest. refl; long = omega arith; start = refl }
facts (Compute Smulh) = record { plain = refl; word = refl; back = refl; bare = λ rest. refl; long = omega arith; start = refl }
facts (Compute Udiv) = record { plain = refl; word = refl; back = refl; bare = λ rest. refl; long = omega arith; start = refl }
facts (Compute Umod) = record { plain = refl; word = refl; back = refl; bare = λ rest. refl; long = omega arith; start = refl }
facts (Compute Shl) = record { plain = refl; word = refl; back = refl; bare = λ rest. refl; long = omega arith; start = refl }
facts (Compute Shr) = record { plain = refl; word = refl; back = refl; bare = λ rest. refl; long = omega arith; start = refl }
facts Not = record { plain = refl; word = refl; back = refl; bare = λ rest. refl; long = omega arith; start = refl }
facts (Compare Equal) = record { plain = refl; word = refl; back = refl; bare = λ rest. refl; long = omega arith; start = refl }
facts (Compare Above) = record { plain = refl; word = refl; back = refl; bare = λ rest. refl; long = omega arith; start = refl }
facts (Compare AboveOrEqual) = record { plain = refl; word = refl; back = refl; bare = λ rest. refl; long = omega arith; start = refl }
facts (Compare Greater) = record { plain = refl; word = refl; back = refl; bare = λ rest. refl; long = omega arith; start = refl }
facts (Compare GreaterOrEqual) = record { plain = refl; word = refl; back = refl; bare = λ rest. refl; long = omega arith; start = refl }
facts Move = record { plain = refl; word = refl; back = refl; bare = λ rest. refl; long = omega arith; start = refl }
facts MoveIfFlag = record { plain = refl; word = refl; back = refl; bare = λ rest. refl; long = omega arith; start = refl }
facts (Jump Always) = record { plain = refl; word = refl; back = refl; bare = λ rest. refl; long = omega arith; start = refl }
facts (Jump IfFlag) = record { plain = refl; word = refl; back = refl; bare = λ rest. refl; long = omega arith; start = refl }
facts (Jump UnlessFlag) = record { plain = refl; word = refl; back = refl; bare = λ rest. refl; long = omega arith; start = refl }
facts (Store Byte) = record { plain = refl; word = refl; back = refl; bare = λ rest. refl; long = omega arith; start = refl }
facts (Store size.Word) = record { plain = refl; word = refl; back = refl; bare = λ rest. refl; long = omega arith; start = refl }
facts (Load Byte) = record { plain = refl; word = refl; back = refl; bare = λ rest. refl; long = omega arith; start = refl }
facts (Load size.Word) = record { plain = refl; word = refl; back = refl; bare = λ rest. refl; long = omega arith; start = refl }
facts Read = record { plain = refl; word = refl; back = refl; bare = λ rest. refl; long = omega arith; start = refl }
facts Answer = record { plain = refl; word = refl; back = refl; bare = λ rest. refl; long = omega arith; start = refl }

pub name_plain : (m : encoding.Mnemonic) → list_all (belongs Line) (name_of m) ≡ true
name_plain m = (facts m).plain

module _ (m : encoding.Mnemonic) (rest : List ℕ) where
  abbrev bs : List ℕ
  bs = name_of m ++ (32 ∷ rest)

  abbrev line_at : Kind → List ℕ → Option LineView
  line_at k x = line_from k (text_of k x) (rest_of k x) bs

  abbrev statement_at : Kind → List ℕ → Option LineView
  statement_at k x = option_map (line None) (statement_from k (length bs) (text_of k x) (rest_of k x))

  kind : kind_of bs ≡ Mnemonic
  kind = kind_of_lem (name_of m) (32 ∷ rest) (facts m).long (facts m).start

  no_blank : past Blank bs ≡ bs
  no_blank = past_append Blank [] bs refl ((facts m).bare (32 ∷ rest))

  -- a name and a blank: what follows are the operands
  pub line_named : line_in bs ≡ option_map (line None) (whole (length bs) (32 ∷ rest) m)
  line_named =
      ap (λ x. line_at (kind_of x) x) no_blank
      ∙ (ap (λ k. line_at k bs) kind
      ∙ (ap (λ x. statement_at (kind_of x) x) no_blank
      ∙ (ap (λ k. statement_at k bs) kind
      ∙ (ap (λ w. option_map (line None) (and_then (mnemonic_of w) (whole (length bs) (past Word bs)))) (front_append Word (name_of m) (32 ∷ rest) (facts m).word refl)
      ∙ (ap (λ r. option_map (line None) (and_then (mnemonic_of (name_of m)) (whole (length bs) r))) (past_append Word (name_of m) (32 ∷ rest) (facts m).word refl)
      ∙ ap (λ q. option_map (line None) (and_then q (whole (length bs) (32 ∷ rest)))) (facts m).back)))))
