-- A front of one class, written before a text that starts otherwise. Assumes nothing.
use Rattle.std.proofs.Common.{◌≡◌, ℕ, suc, Bool, true, false, not, eqb, List, [], ◌∷◌, ◌++◌, length, get_or, refl, ap, ◌∙◌, arith}
use Rattle.lexer.specs.declared.class.Class.{Class}
use Rattle.lexer.specs.declared.class.Class.TheVariants.{Blank}
use Rattle.lexer.specs.Classes.{belongs, front, past}
use Rattle.lexer.specs.Tokens.{start_of, kind_of}
use Rattle.std.specs.List.{prefix_len, list_all}
use Rattle.std.proofs.Math.Numerals.{one-add}
use Rattle.std.proofs.Math.Seq.{take-append_seam, drop-append_seam}
use Rattle.std.proofs.lemmas.Bool.{and_parts, and_from, not-true}
use Rattle.std.proofs.lemmas.List.Folds.{list_all-append}
use Rattle.std.proofs.lemmas.Bool.Decides.{nat_tests}

abbrev pub stopped : (ℕ → Bool) → List ℕ → Bool
stopped p [] = true
stopped p (b ∷ bs) = not (p b)

len_append : (p : ℕ → Bool) (w rest : List ℕ) → list_all p w ≡ true → stopped p rest ≡ true → prefix_len p (w ++ rest) ≡ length w
len_append p [] [] h s = refl
len_append p [] (b ∷ rest) h s = rw (not-true (p b) s) refl
len_append p (b ∷ w) rest h s = rw ((and_parts (p b) (list_all p w) h).0, one-add) (ap suc (len_append p w rest ((and_parts (p b) (list_all p w) h).1) s))

pub front_append : (class : Class) (w rest : List ℕ) → list_all (belongs class) w ≡ true → stopped (belongs class) rest ≡ true → front class (w ++ rest) ≡ w
front_append class w rest h s = rw (len_append (belongs class) w rest h s) (take-append_seam w rest)

pub past_append : (class : Class) (w rest : List ℕ) → list_all (belongs class) w ≡ true → stopped (belongs class) rest ≡ true → past class (w ++ rest) ≡ rest
past_append class w rest h s = rw (len_append (belongs class) w rest h s) (drop-append_seam w rest)

pub every_append : (p : ℕ → Bool) (v w : List ℕ) → list_all p v ≡ true → list_all p w ≡ true → list_all p (v ++ w) ≡ true
every_append p v w h k = list_all-append p v w ∙ and_from (list_all p v) (list_all p w) h k

-- what follows one blank
pub past_blank : (x : List ℕ) → stopped (belongs Blank) x ≡ true → past Blank (32 ∷ x) ≡ x
past_blank x s = past_append Blank (32 ∷ []) x refl s

pub kind_cons : (c : ℕ) (xs : List ℕ) → kind_of (c ∷ xs) ≡ start_of c (get_or xs 0 0)
kind_cons c xs = let z : eqb (length (c ∷ xs)) 0 ≡ false = grind (arith, nat_tests) in rw z refl
