-- A printed line is read as its instruction. Assumes nothing.
use Rattle.std.proofs.Common.{◌≡◌, ℕ, ◌^◌, ◌<◌, true, cond, ◌&&◌, ltb, List, [], ◌∷◌, ◌++◌, length, Some, None, Option, refl, ap, ◌∙◌, arith}
use Rattle.std.proofs.lemmas.Bool.{and_parts}
use Rattle.std.specs.List.{list_all}
use Rattle.std.proofs.lemmas.Bool.Decides.{nat_tests}
use Rattle.std.specs.Option.{option_map}
use Rattle.encoding.specs.declared.mnemonic.Mnemonic.{Mnemonic}
use Rattle.encoding.specs.declared.mnemonic.Mnemonic.TheVariants as M
use Rattle.encoding.specs.declared.operation.Operand.{Operand}
use Rattle.encoding.specs.declared.operation.Operand.TheVariants as operand
use Rattle.encoding.specs.declared.operation.Operation.{Operation}
use Rattle.encoding.specs.declared.operation.Operation.TheVariants as O
use Rattle.encoding.specs.declared.instruction.Instruction.{Instruction}
use Rattle.encoding.specs.Encoding.{named, operand_word, packed, placed, encoded}
use Rattle.std.proofs.lemmas.Option.{cond_some}
use Rattle.lexer.specs.declared.class.Class.TheVariants.{Line}
use Rattle.lexer.specs.Classes.{belongs}
use Rattle.mnemonics.specs.Names.{name_of}
use Rattle.parser.specs.Operands.{ArgumentView, and_then, ended}
use Rattle.parser.specs.Statements.{StatementView, stated, pair_in, reversed_in, three_in, compare_in, two_in, store_in, one_in, operands_in, line, line_in}
use Rattle.assembler.specs.Resolve.{settled, encoded_by}
use Rattle.printer.specs.Listing.{register_text, operand_text, comma, three_text, two_text, store_text, one_text, operation_text}
use Rattle.printer.proofs.Fronts.{every_append}
use Rattle.printer.proofs.Digits.{decimal_line}
use Rattle.printer.proofs.Operands.{view_of, operand_back, operand_last, register_in_lem, register_last, comma_in_lem}
use Rattle.printer.proofs.Names.{name_plain, line_named}

record Bounds (i j : ℕ) (a : Operand) : Type 0 where
  pub left : i < 16
  pub right : j < 16
  pub known : named a ≡ true
  pub word : operand_word a < 2 ^ 32

bounds : (m : Mnemonic) (i j : ℕ) (a : Operand) (n : Instruction) → placed m i j a ≡ Some n → n.second < 2 ^ 32 → Bounds i j a
bounds m i j a n e s =
    let h = cond_some (ltb i 16 && (ltb j 16 && named a)) (packed m i j a) n e in
    let r = (and_parts (ltb i 16) (ltb j 16 && named a) h.0).1 in
    let l : ltb i 16 ≡ true = (and_parts (ltb i 16) (ltb j 16 && named a) h.0).0 in
    let k : ltb j 16 ≡ true = (and_parts (ltb j 16) (named a) r).0 in
    let w : operand_word a ≡ n.second = ap (λ (x : Instruction). x.second) h.1 in
    record { left = grind (arith, nat_tests); right = grind (arith, nat_tests); known = (and_parts (ltb j 16) (named a) r).1; word = omega arith }

then : {A B : Type 0} (r : Option A) (x : A) (f : A → Option B) → r ≡ Some x → and_then r f ≡ f x
then r x f e = ap (λ q. and_then q f) e

abbrev made : Mnemonic → ℕ → ℕ → Operand → StatementView
made m i j a = record { mnemonic = m; destination = i; source = j; operand = view_of a }

pair_back : (width i : ℕ) (a : Operand) → i < 16 → named a ≡ true → operand_word a < 2 ^ 32 → pair_in width (32 ∷ (register_text i ++ comma (operand_text a))) ≡ Some ((i, view_of a), [])
pair_back width i a h n w =
    then _ _ _ (register_in_lem width i (comma (operand_text a)) h refl)
    ∙ (then _ _ _ (comma_in_lem (operand_text a)) ∙ ap (option_map (λ (x : ArgumentView × List ℕ). ((i, x.0), x.1))) (operand_last width a n w))

three_back : (m : Mnemonic) (width i j : ℕ) (a : Operand) → Bounds i j a → three_in m width (32 ∷ (register_text i ++ comma (register_text j ++ comma (operand_text a)))) ≡ Some (made m i j a, [])
three_back m width i j a h =
    then _ _ _ (register_in_lem width i (comma (register_text j ++ comma (operand_text a))) h.left refl)
    ∙ (then _ _ _ (comma_in_lem (register_text j ++ comma (operand_text a)))
    ∙ ap (option_map (λ (x : (ℕ × ArgumentView) × List ℕ). stated m i x.0.0 (x.0.1, x.1))) (pair_back width j a h.right h.known h.word))

compare_back : (m : Mnemonic) (width j : ℕ) (a : Operand) → Bounds 0 j a → compare_in m width (32 ∷ (register_text j ++ comma (operand_text a))) ≡ Some (made m 0 j a, [])
compare_back m width j a h = ap (option_map (λ (x : (ℕ × ArgumentView) × List ℕ). stated m 0 x.0.0 (x.0.1, x.1))) (pair_back width j a h.right h.known h.word)

two_back : (m : Mnemonic) (width i : ℕ) (a : Operand) → Bounds i 0 a → two_in m width (32 ∷ (register_text i ++ comma (operand_text a))) ≡ Some (made m i 0 a, [])
two_back m width i a h = ap (option_map (λ (x : (ℕ × ArgumentView) × List ℕ). stated m x.0.0 0 (x.0.1, x.1))) (pair_back width i a h.left h.known h.word)

reversed_back : (width i : ℕ) (a : Operand) → i < 16 → named a ≡ true → operand_word a < 2 ^ 32 → reversed_in width (32 ∷ (operand_text a ++ comma (register_text i))) ≡ Some ((i, view_of a), [])
reversed_back width i a h n w =
    then _ _ _ (operand_back width a (comma (register_text i)) n w refl)
    ∙ (then _ _ _ (comma_in_lem (register_text i)) ∙ ap (option_map (λ (x : ℕ × List ℕ). ((x.0, view_of a), x.1))) (register_last width i h))

store_back : (m : Mnemonic) (width i : ℕ) (a : Operand) → Bounds i 0 a → store_in m width (32 ∷ (operand_text a ++ comma (register_text i))) ≡ Some (made m i 0 a, [])
store_back m width i a h = ap (option_map (λ (x : (ℕ × ArgumentView) × List ℕ). stated m x.0.0 0 (x.0.1, x.1))) (reversed_back width i a h.left h.known h.word)

one_back : (m : Mnemonic) (width : ℕ) (a : Operand) → Bounds 0 0 a → one_in m width (32 ∷ operand_text a) ≡ Some (made m 0 0 a, [])
one_back m width a h = ap (option_map (stated m 0 0)) (operand_last width a h.known h.word)

line_back : (m : Mnemonic) (rest : List ℕ) (s : StatementView) → ((width : ℕ) → operands_in m width (32 ∷ rest) ≡ Some (s, [])) → line_in (name_of m ++ (32 ∷ rest)) ≡ Some (line None (Some s))
line_back m rest s h =
    line_named m rest
    ∙ ap (λ (q : Option (StatementView × List ℕ)). option_map (line None) (and_then q (λ x. cond (ended x.1) (Some (Some x.0)) None))) (h (length (name_of m ++ (32 ∷ rest))))

abbrev pub statement_of : Operation → StatementView
statement_of (O.Compute b i j a) = made (M.Compute b) i j a
statement_of (O.Not i a) = made M.Not i 0 a
statement_of (O.Compare b j a) = made (M.Compare b) 0 j a
statement_of (O.Move i a) = made M.Move i 0 a
statement_of (O.MoveIfFlag i a) = made M.MoveIfFlag i 0 a
statement_of (O.Jump w a) = made (M.Jump w) 0 0 a
statement_of (O.Store s i a) = made (M.Store s) i 0 a
statement_of (O.Load s i a) = made (M.Load s) i 0 a
statement_of (O.Read i a) = made M.Read i 0 a
statement_of (O.Answer a) = made M.Answer 0 0 a

pub line_of_lem : (o : Operation) (n : Instruction) → encoded o ≡ Some n → n.second < 2 ^ 32 → line_in (operation_text o) ≡ Some (line None (Some (statement_of o)))
line_of_lem (O.Compute b i j a) n e s = line_back (M.Compute b) (register_text i ++ comma (register_text j ++ comma (operand_text a))) _ (λ width. three_back (M.Compute b) width i j a (bounds (M.Compute b) i j a n e s))
line_of_lem (O.Not i a) n e s = line_back M.Not (register_text i ++ comma (operand_text a)) _ (λ width. two_back M.Not width i a (bounds M.Not i 0 a n e s))
line_of_lem (O.Compare b j a) n e s = line_back (M.Compare b) (register_text j ++ comma (operand_text a)) _ (λ width. compare_back (M.Compare b) width j a (bounds (M.Compare b) 0 j a n e s))
line_of_lem (O.Move i a) n e s = line_back M.Move (register_text i ++ comma (operand_text a)) _ (λ width. two_back M.Move width i a (bounds M.Move i 0 a n e s))
line_of_lem (O.MoveIfFlag i a) n e s = line_back M.MoveIfFlag (register_text i ++ comma (operand_text a)) _ (λ width. two_back M.MoveIfFlag width i a (bounds M.MoveIfFlag i 0 a n e s))
line_of_lem (O.Jump w a) n e s = line_back (M.Jump w) (operand_text a) _ (λ width. one_back (M.Jump w) width a (bounds (M.Jump w) 0 0 a n e s))
line_of_lem (O.Store z i a) n e s = line_back (M.Store z) (operand_text a ++ comma (register_text i)) _ (λ width. store_back (M.Store z) width i a (bounds (M.Store z) i 0 a n e s))
line_of_lem (O.Load z i a) n e s = line_back (M.Load z) (register_text i ++ comma (operand_text a)) _ (λ width. two_back (M.Load z) width i a (bounds (M.Load z) i 0 a n e s))
line_of_lem (O.Read i a) n e s = line_back M.Read (register_text i ++ comma (operand_text a)) _ (λ width. two_back M.Read width i a (bounds M.Read i 0 a n e s))
line_of_lem (O.Answer a) n e s = line_back M.Answer (operand_text a) _ (λ width. one_back M.Answer width a (bounds M.Answer 0 0 a n e s))

settle_back : (a : Operand) → settled [] (view_of a) ≡ Some a
settle_back (operand.Register i) = refl
settle_back (operand.Immediate n) = refl

placed_back : (m : Mnemonic) (i j : ℕ) (a : Operand) → encoded_by [] (made m i j a) ≡ placed m i j a
placed_back m i j a = then _ _ _ (settle_back a)

pub encoded_of : (o : Operation) → encoded_by [] (statement_of o) ≡ encoded o
encoded_of (O.Compute b i j a) = placed_back (M.Compute b) i j a
encoded_of (O.Not i a) = placed_back M.Not i 0 a
encoded_of (O.Compare b j a) = placed_back (M.Compare b) 0 j a
encoded_of (O.Move i a) = placed_back M.Move i 0 a
encoded_of (O.MoveIfFlag i a) = placed_back M.MoveIfFlag i 0 a
encoded_of (O.Jump w a) = placed_back (M.Jump w) 0 0 a
encoded_of (O.Store s i a) = placed_back (M.Store s) i 0 a
encoded_of (O.Load s i a) = placed_back (M.Load s) i 0 a
encoded_of (O.Read i a) = placed_back M.Read i 0 a
encoded_of (O.Answer a) = placed_back M.Answer 0 0 a

-- NO LINE END IN A LINE

abbrev Plain : List ℕ → Type 0
Plain w = list_all (belongs Line) w ≡ true

register_plain : (i : ℕ) → i < 16 → Plain (register_text i)
register_plain i h = decimal_line i (omega arith)

operand_plain : (i j : ℕ) (a : Operand) → Bounds i j a → Plain (operand_text a)
operand_plain i j (operand.Register k) h = let l = h.known in decimal_line k (let z : k < 16 = grind (arith, nat_tests) in omega arith)
operand_plain i j (operand.Immediate n) h = decimal_line n (omega (arith, h.word))

join : (v w : List ℕ) → Plain v → Plain w → Plain (v ++ w)
join v w p q = every_append (belongs Line) v w p q

three_plain : (m : Mnemonic) (i j : ℕ) (a : Operand) → Bounds i j a → Plain (three_text m i j a)
three_plain m i j a h =
    join (name_of m) _ (name_plain m) (join (register_text i) (comma (register_text j ++ comma (operand_text a))) (register_plain i h.left) (join (register_text j) (comma (operand_text a)) (register_plain j h.right) (operand_plain i j a h)))

two_plain : (m : Mnemonic) (i k j : ℕ) (a : Operand) → i < 16 → Bounds k j a → Plain (two_text m i a)
two_plain m i k j a l h =
    join (name_of m) _ (name_plain m) (join (register_text i) (comma (operand_text a)) (register_plain i l) (operand_plain k j a h))

store_plain : (m : Mnemonic) (i : ℕ) (a : Operand) → Bounds i 0 a → Plain (store_text m a i)
store_plain m i a h =
    join (name_of m) _ (name_plain m) (join (operand_text a) (comma (register_text i)) (operand_plain i 0 a h) (register_plain i h.left))

one_plain : (m : Mnemonic) (a : Operand) → Bounds 0 0 a → Plain (one_text m a)
one_plain m a h = join (name_of m) _ (name_plain m) (operand_plain 0 0 a h)

pub plain_of : (o : Operation) (n : Instruction) → encoded o ≡ Some n → n.second < 2 ^ 32 → list_all (belongs Line) (operation_text o) ≡ true
plain_of (O.Compute b i j a) n e s = three_plain (M.Compute b) i j a (bounds (M.Compute b) i j a n e s)
plain_of (O.Not i a) n e s = let h = bounds M.Not i 0 a n e s in two_plain M.Not i i 0 a h.left h
plain_of (O.Compare b j a) n e s = let h = bounds (M.Compare b) 0 j a n e s in two_plain (M.Compare b) j 0 j a h.right h
plain_of (O.Move i a) n e s = let h = bounds M.Move i 0 a n e s in two_plain M.Move i i 0 a h.left h
plain_of (O.MoveIfFlag i a) n e s = let h = bounds M.MoveIfFlag i 0 a n e s in two_plain M.MoveIfFlag i i 0 a h.left h
plain_of (O.Jump w a) n e s = one_plain (M.Jump w) a (bounds (M.Jump w) 0 0 a n e s)
plain_of (O.Store z i a) n e s = store_plain (M.Store z) i a (bounds (M.Store z) i 0 a n e s)
plain_of (O.Load z i a) n e s = let h = bounds (M.Load z) i 0 a n e s in two_plain (M.Load z) i i 0 a h.left h
plain_of (O.Read i a) n e s = let h = bounds M.Read i 0 a n e s in two_plain M.Read i i 0 a h.left h
plain_of (O.Answer a) n e s = one_plain M.Answer a (bounds M.Answer 0 0 a n e s)
