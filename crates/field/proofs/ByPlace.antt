-- Words that are read place by place, and how many bytes words take. Assumes nothing.
use Rattle.std.proofs.Common.{◌≡◌, ℕ, Bool, cond, zero, suc, ◌+◌, ◌*◌, ◌<◌, List, [], ◌∷◌, length, get_or, map, sym, refl, ap, subst, ◌∙◌, arith}
use denote.Param.Members.{Mut, Called}
use Rattle.std.specs.Array.{IsFromFnResult, IsFromFnResultFrom}
use Rattle.std.specs.List.{flat_map, range_with_len}
use Rattle.std.proofs.lemmas.Bool.{ne_eqb}
use Rattle.std.proofs.lemmas.List.FromFn.{fill_by_all}
use Rattle.field.specs.Bytes.{bytes_of, filled, word_at, words_at}

-- the array that `from_fn` makes by a closure that changes nothing
module _ {F : Type 0} (g : Mut F (ℕ × Unit {0}) ℕ) (f : F) (h : ℕ → ℕ) (gives : (i y : ℕ) (q : F) → Called g f (i, tt) y q → (q ≡ f) × (y ≡ h i)) where
  each : (ys : List ℕ) (i n : ℕ) (p : F) → p ≡ f → IsFromFnResultFrom g p ys i n → (k j : ℕ) → k < n → i + k ≡ j → get_or ys j 0 ≡ h j
  each ys i zero p e made k j below is = absurd (omega arith)
  each ys i (suc n) p e (q, y, at, called, rest) zero j below is =
      let gave = gives i y q (subst (λ (x : F). Called g x (i, tt) y q) e called) in
      let here : i ≡ j = omega arith in
      ap (λ x. get_or ys x 0) (sym here) ∙ at.1 0 ∙ gave.1 ∙ ap h here
  each ys i (suc n) p e (q, y, at, called, rest) (suc k) j below is =
      let gave = gives i y q (subst (λ (x : F). Called g x (i, tt) y q) e called) in
      each ys (i + 1) n q gave.0 rest k j (omega arith) (omega arith)

  pub made_by : (ys : List ℕ) (n : ℕ) → IsFromFnResult g f ys n → ys ≡ map h (range_with_len 0 n)
  made_by ys n made = fill_by_all h ys n 0 made.long (λ k below. each ys 0 n f refl made.each k k below (omega arith))

pub words_by_place : (bs : List ℕ) (k a n : ℕ) → k ≡ 4 * a → words_at bs k n ≡ map (λ i. word_at bs (4 * i)) (range_with_len a n)
words_by_place bs k a zero e = refl
words_by_place bs k a (suc n) e =
    let here = ap (word_at bs) e in
    let rest = words_by_place bs (k + 4) (a + 1) n (omega arith) in
    cc

pub length_words : (ws : List ℕ) → length (flat_map bytes_of ws) ≡ 4 * length ws
length_words [] = refl
length_words (w ∷ ws) = let n = length_words ws in omega arith

-- bytes of another length stay
pub unfilled : (new old : List ℕ) → (length new ≡ length old → ⊥) → old ≡ filled new old
unfilled new old other = sym (ap (λ (b : Bool). cond b new old) (ne_eqb (length new) (length old) other))
