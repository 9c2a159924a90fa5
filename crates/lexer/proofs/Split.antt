-- The lines of a text, one by one. Assumes nothing.
use Rattle.std.proofs.Common.{◌≡◌, ℕ, suc, ◌+◌, ◌<◌, ◌≤◌, Bool, true, false, eqb, List, [], ◌∷◌, length, get_or, sym, refl, ap, subst, arith, true-eqb}
use Rattle.std.proofs.Math.Numerals.{one-add}
use Rattle.lexer.specs.Lines.{onto, lines, first_line, other_lines}

abbrev Next : List ℕ → Type 0
Next bs = lines bs ≡ first_line bs ∷ lines (other_lines bs)

next_more : (b : ℕ) (bs : List ℕ) → eqb b 10 ≡ false → eqb b 13 ≡ false → (0 < length bs → Next bs) → Next (b ∷ bs)
next_more b [] p q ih = rw (p, q) refl
next_more b (c ∷ bs) p q ih = rw (p, q, ih (omega arith)) (simp one-add)

next_lf : (bs : List ℕ) → Next (10 ∷ bs)
next_lf bs = refl

next_cr : (bs : List ℕ) (v : Bool) → eqb (get_or bs 0 0) 10 ≡ v → Next (13 ∷ bs)
next_cr [] v e = refl
next_cr (c ∷ bs) true e = simp e
next_cr (c ∷ bs) false e = simp e

next_go : (b : ℕ) (bs : List ℕ) (t u : Bool) → eqb b 10 ≡ t → eqb b 13 ≡ u → (0 < length bs → Next bs) → Next (b ∷ bs)
next_go b bs true u p q ih = subst (λ x. Next (x ∷ bs)) (sym (true-eqb b 10 (sym p))) (next_lf bs)
next_go b bs false true p q ih = subst (λ x. Next (x ∷ bs)) (sym (true-eqb b 13 (sym q))) (next_cr bs _ refl)
next_go b bs false false p q ih = next_more b bs p q ih

pub lines_next : (bs : List ℕ) → 0 < length bs → Next bs
lines_next [] h = absurd (omega arith)
lines_next (b ∷ bs) h = next_go b bs _ _ refl refl (lines_next bs)

abbrev Shrinks : List ℕ → Type 0
Shrinks bs = length (other_lines bs) < length bs

same_after : (b : ℕ) (bs : List ℕ) → eqb b 10 ≡ false → eqb b 13 ≡ false → other_lines (b ∷ bs) ≡ other_lines bs
same_after b bs p q = simp (p, q, one-add)

shrinks_more : (b : ℕ) (bs : List ℕ) → eqb b 10 ≡ false → eqb b 13 ≡ false → (0 < length bs → Shrinks bs) → Shrinks (b ∷ bs)
shrinks_more b [] p q ih = let e = ap length (same_after b [] p q) in omega arith
shrinks_more b (c ∷ bs) p q ih = let e = ap length (same_after b (c ∷ bs) p q) in omega (arith, ih (omega arith))

shrinks_cr : (bs : List ℕ) (v : Bool) → eqb (get_or bs 0 0) 10 ≡ v → Shrinks (13 ∷ bs)
shrinks_cr [] v e = omega arith
shrinks_cr (c ∷ bs) true e = simp e (omega arith)
shrinks_cr (c ∷ bs) false e = simp e (omega arith)

shrinks_go : (b : ℕ) (bs : List ℕ) (t u : Bool) → eqb b 10 ≡ t → eqb b 13 ≡ u → (0 < length bs → Shrinks bs) → Shrinks (b ∷ bs)
shrinks_go b bs true u p q ih = subst (λ x. Shrinks (x ∷ bs)) (sym (true-eqb b 10 (sym p))) (omega arith)
shrinks_go b bs false true p q ih = subst (λ x. Shrinks (x ∷ bs)) (sym (true-eqb b 13 (sym q))) (shrinks_cr bs _ refl)
shrinks_go b bs false false p q ih = shrinks_more b bs p q ih

-- a line takes at least a byte
pub shrinks : (bs : List ℕ) → 0 < length bs → length (other_lines bs) < length bs
shrinks [] h = absurd (omega arith)
shrinks (b ∷ bs) h = shrinks_go b bs _ _ refl refl (shrinks bs)

onto_length : (b : ℕ) (ls : List (List ℕ)) → length (onto b ls) ≤ 1 + length ls
onto_length b [] = omega arith
onto_length b (l ∷ ls) = omega arith

length_go : (bs : List ℕ) (b : ℕ) (t u v : Bool) → eqb b 10 ≡ t → eqb b 13 ≡ u → eqb (get_or bs 0 0) 10 ≡ v → length (lines bs) ≤ length bs → length (lines (b ∷ bs)) ≤ suc (length bs)
length_go bs b true u v p q r h = rw p (omega (arith, h))
length_go bs b false true true p q r h = rw (p, q, r) (omega (arith, h))
length_go bs b false true false p q r h = rw (p, q, r) (omega (arith, h))
length_go bs b false false v p q r h = rw (p, q) (omega (arith, h, onto_length b (lines bs)))

-- a text has at most a line for each byte
pub lines_length : (bs : List ℕ) → length (lines bs) ≤ length bs
lines_length [] = omega arith
lines_length (b ∷ bs) = length_go bs b _ _ _ refl refl refl (lines_length bs)
