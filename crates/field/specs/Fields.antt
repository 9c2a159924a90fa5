-- A field that is written reads back, and a field that reads as a record is that record's. Assumes nothing.
use Rattle.std.specs.Prelude.{◌≡◌, ℕ, ◌+◌, ◌*◌, ◌/◌, ◌%◌, ◌<◌, Bool, true, false, cond, ◌&&◌, List, [], ◌∷◌, ◌++◌, length, take, drop, Some, None, Option, ◌==◌, ◌≢◌, nat_eq, slice_index, slice_set, refl}
use Rattle.std.proofs.Common.{sym, ap, ◌∙◌, arith, eq-eqb, eqb-true}
use borrow.Rule.Slice.PartMut.{put_mid}
use Rattle.std.proofs.lemmas.Nat.{div-add-mod'}
use Rattle.std.proofs.lemmas.List.{take_all, drop_all, append-nil}
use Rattle.std.proofs.lemmas.Bool.Decides.{nat_tests}
use Rattle.field.specs.LittleEndian.{split}
use Rattle.field.specs.Bytes.{Bytes, field_bytes, field_read, filled}

pub filled_is : (new old : List ℕ) → length new ≡ length old → filled new old ≡ new
filled_is new old e = ap (λ (b : Bool). cond b new old) (eq-eqb (length new) (length old) e)

-- three bytes set, and the payload put after them
pub field_put : (t s tag lo hi k : ℕ) (bs p ys : List ℕ) → length bs ≡ 3 + s → length p ≡ s → tag ≡ t → lo ≡ s % 256 → hi ≡ s / 256 → k ≡ s → ys ≡ filled p (take k (drop 3 (slice_set (slice_set (slice_set bs 0 tag) 1 lo) 2 hi))) → put_mid 3 k (slice_set (slice_set (slice_set bs 0 tag) 1 lo) 2 hi) ys ≡ filled (field_bytes t s p) bs
field_put t s tag lo hi k [] p ys e f x g h i w = absurd (omega arith)
field_put t s tag lo hi k (a ∷ []) p ys e f x g h i w = absurd (omega arith)
field_put t s tag lo hi k (a ∷ b ∷ []) p ys e f x g h i w = absurd (omega arith)
field_put t s tag lo hi k (a ∷ b ∷ c ∷ bs) p ys e f x g h i w =
    let whole : take k bs ≡ bs = take_all k bs (omega arith) in
    let none : drop k bs ≡ [] = drop_all k bs (omega arith) in
    let room : length p ≡ length (take k bs) = let n = ap length whole in omega arith in
    let same : ys ≡ p = w ∙ filled_is p (take k bs) (omega arith) in
    let ends : ys ++ drop k bs ≡ p = ap (λ (x : List ℕ). ys ++ x) none ∙ append-nil ys ∙ same in
    let all : tag ∷ lo ∷ hi ∷ (ys ++ drop k bs) ≡ field_bytes t s p = cc in
    all ∙ sym (filled_is (field_bytes t s p) (a ∷ b ∷ c ∷ bs) (omega arith))

module _ {R : Type 0} (t s : ℕ) (parsed : List ℕ → Option R) (payload : R → List ℕ) where
  pub field_back : (r : R) → length (payload r) ≡ s → parsed (payload r) ≡ Some r → field_read t s parsed (field_bytes t s (payload r)) ≡ Some r
  field_back r e back =
      let two : s % 256 + s / 256 * 256 ≡ s = let d = div-add-mod' s 256 in omega arith in
      let first : nat_eq (length (field_bytes t s (payload r))) (3 + s) ≡ true = eq-eqb (length (field_bytes t s (payload r))) (3 + s) (omega arith) in
      let second : nat_eq t t ≡ true = eq-eqb t t refl in
      let third : nat_eq (s % 256 + s / 256 * 256) s ≡ true = eq-eqb (s % 256 + s / 256 * 256) s two in
      let passes : (length (field_bytes t s (payload r)) == 3 + s && (t == t && s % 256 + s / 256 * 256 == s)) ≡ true = grind (arith, nat_tests) in
      ap (λ (b : Bool). cond b (parsed (payload r)) None) passes ∙ back

  field_opens : (bs : List ℕ) (r : R) (a b : ℕ) → Bytes (a ∷ b ∷ bs) → (u : Bool) → (length (a ∷ b ∷ bs) == 3 + s && (a == t && b + slice_index bs 0 * 256 == s)) ≡ u → cond u (parsed (drop 1 bs)) None ≡ Some r → (parsed (drop 1 bs) ≡ Some r → drop 1 bs ≡ payload r) → a ∷ b ∷ bs ≡ field_bytes t s (payload r)
  field_opens bs r a b small false test is only = let z : ◌≡◌ {A = ℕ} 0 1 = cc in absurd (omega arith)
  field_opens [] r a b small true test is only = let n : length (a ∷ b ∷ []) ≡ 3 + s = grind (arith, nat_tests) in absurd (omega arith)
  field_opens (c ∷ bs) r a b small true test is only =
      let tag : a ≡ t = grind (arith, nat_tests) in
      let sum : b + c * 256 ≡ s = grind (arith, nat_tests) in
      let low : b < 256 = small 1 (omega arith) in
      let two = split s c 256 b (omega arith) low in
      let rest : bs ≡ payload r = only is in
      let lo : b ≡ s % 256 = sym two.1 in
      let hi : c ≡ s / 256 = sym two.0 in
      cc

  field_short : (bs : List ℕ) (r : R) → length bs < 3 → field_read t s parsed bs ≢ Some r
  field_short bs r h is =
      let fails : (length bs == 3 + s && (slice_index bs 0 == t && slice_index bs 1 + slice_index bs 2 * 256 == s)) ≡ false = grind (arith, nat_tests) in
      let none = sym (ap (λ (b : Bool). cond b (parsed (drop 3 bs)) None) fails) ∙ is in
      let z : ◌≡◌ {A = ℕ} 0 1 = cc in
      omega arith

  pub field_only : (bs : List ℕ) (r : R) → Bytes bs → field_read t s parsed bs ≡ Some r → (parsed (drop 3 bs) ≡ Some r → drop 3 bs ≡ payload r) → bs ≡ field_bytes t s (payload r)
  field_only [] r small is only = absurd (field_short [] r (omega arith) is)
  field_only (a ∷ []) r small is only = absurd (field_short (a ∷ []) r (omega arith) is)
  field_only (a ∷ b ∷ bs) r small is only = field_opens bs r a b small (length (a ∷ b ∷ bs) == 3 + s && (a == t && b + slice_index bs 0 * 256 == s)) refl is only

-- a payload of the right length, opened
pub opened : {R : Type 0} (n : ℕ) (bs : List ℕ) (x : Option R) (r : R) (b : Bool) → (length bs == n) ≡ b → cond b x None ≡ Some r → (length bs ≡ n) × (x ≡ Some r)
opened n bs x r true e is = (eqb-true (length bs) n e, is)
opened n bs x r false e is = let z : ◌≡◌ {A = ℕ} 0 1 = cc in absurd (omega arith)
