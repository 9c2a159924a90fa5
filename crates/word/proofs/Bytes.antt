-- A store changes the bytes that it covers, and no other byte of memory.
use Rattle.std.proofs.Common.{◌≡◌, ℕ, zero, suc, ◌+◌, ◌*◌, ◌/◌, ◌%◌, ◌<◌, Bool, true, false, cond, eqb, ◌≢◌, [], ◌∷◌, get_or, set, refl, ap, ◌∙◌, inl, inr, arith, get_or-set_other, get_or-set_same}
use Rattle.std.proofs.lemmas.Bool.{cases_eq}
use Rattle.std.proofs.lemmas.Bool.Decides.{nat_tests}
use Rattle.word.specs.declared.cell.Size.{Size}
use Rattle.word.specs.declared.cell.Size.TheVariants.{Byte, Word}
use Rattle.word.specs.Cell.{bytes_of, word_of, cell_of, stored, Bytewise}

-- four bytes make a word with these bytes
bytes_back : (p q r s : ℕ) → p < 256 → q < 256 → r < 256 → s < 256 → bytes_of (word_of (p ∷ q ∷ r ∷ s ∷ [])) ≡ p ∷ q ∷ r ∷ s ∷ []
bytes_back p q r s hp hq hr hs =
    let e : (p + q * 256 + r * 65536 + s * 16777216) % 256 ≡ p = omega arith in
    let d : (p + q * 256 + r * 65536 + s * 16777216) / 256 ≡ q + r * 256 + s * 65536 = omega arith in
    let f : (p + q * 256 + r * 65536 + s * 16777216) / 256 % 256 ≡ q = rw d (omega arith) in
    let d' : (p + q * 256 + r * 65536 + s * 16777216) / 65536 ≡ r + s * 256 = omega arith in
    let g : (p + q * 256 + r * 65536 + s * 16777216) / 65536 % 256 ≡ r = rw d' (omega arith) in
    let d'' : (p + q * 256 + r * 65536 + s * 16777216) / 16777216 ≡ s = omega arith in
    let h : (p + q * 256 + r * 65536 + s * 16777216) / 16777216 % 256 ≡ s = rw d'' (omega arith) in
    λ k. e k ∷ f k ∷ g k ∷ h k ∷ []

byte_alone : (n k v : ℕ) → v < 256 → bytes_of (word_of (set (bytes_of n) k v)) ≡ set (bytes_of n) k v
byte_alone n zero v h = bytes_back _ _ _ _ h (omega arith) (omega arith) (omega arith)
byte_alone n (suc zero) v h = bytes_back _ _ _ _ (omega arith) h (omega arith) (omega arith)
byte_alone n (suc (suc zero)) v h = bytes_back _ _ _ _ (omega arith) (omega arith) h (omega arith)
byte_alone n (suc (suc (suc zero))) v h = bytes_back _ _ _ _ (omega arith) (omega arith) (omega arith) h
byte_alone n (suc (suc (suc (suc k)))) v h = bytes_back _ _ _ _ (omega arith) (omega arith) (omega arith) (omega arith)

-- the byte at place j of a word whose byte at place i was replaced
byte_within : (n i j v : ℕ) → v < 256 → i < 4 → get_or (bytes_of (word_of (set (bytes_of n) i v))) j 0 ≡ cond (eqb j i) v (get_or (bytes_of n) j 0)
byte_within n i j v h l =
    let e = ap (λ b. get_or b j 0) (byte_alone n i v h) in
    elim (cases_eq j i) [
      | inl same ↦ e ∙ ap (λ x. get_or (set (bytes_of n) i v) x 0) same ∙ get_or-set_same (bytes_of n) i v 0 (omega arith) ∙ grind (arith, nat_tests)
      | inr other ↦ let ne : j ≢ i = other in e ∙ get_or-set_other (bytes_of n) i j v 0 ne ∙ grind (arith, nat_tests)
    ]

through : {A B : Type 0} (f : A → B) (b : Bool) (x y : A) → f (cond b x y) ≡ cond b (f x) (f y)
through f true x y = refl
through f false x y = refl

-- two addresses are equal if they lie in one cell at one place
joined : (j k p q r v : ℕ) → p ≡ cond (eqb (j % 4) (k % 4)) v q → (cell_of j ≡ cell_of k → r ≡ q) → cond (eqb (cell_of j) (cell_of k)) p r ≡ cond (eqb j k) v r
joined j k p q r v e f =
    elim (cases_eq (cell_of j) (cell_of k)) [ inl same ↦ let g = f same in grind (arith, nat_tests) | inr other ↦ grind (arith, nat_tests) ]

pub bytewise : (size : Size) (k w n : ℕ) → Bytewise size k w n (stored size k w n)
bytewise Word k w n m e j = through (λ x. get_or (bytes_of x) (j % 4) 0) (eqb (cell_of j) (cell_of k)) w (m (cell_of j))
bytewise Byte k w n m e j =
    through (λ x. get_or (bytes_of x) (j % 4) 0) (eqb (cell_of j) (cell_of k)) (stored Byte k w n) (m (cell_of j))
    ∙ joined j k _ _ _ (w % 256) (byte_within n (k % 4) (j % 4) (w % 256) (omega arith) (omega arith)) (λ s. ap (λ x. get_or (bytes_of x) (j % 4) 0) (ap m s ∙ e))
