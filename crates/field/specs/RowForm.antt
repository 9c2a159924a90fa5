-- The payload of a row, both ways. Assumes nothing.
use Rattle.std.specs.Prelude.{◌≡◌, ℕ, ◌+◌, ◌<◌, ◌≤◌, Bool, true, false, cond, ◌&&◌, ◌⊎◌, List, [], ◌∷◌, ◌++◌, length, drop, Some, None, Option, ◌==◌, slice_index, slice_index_or, slice_set, refl}
use Rattle.std.proofs.Common.{sym, ap, subst, ◌∙◌, inl, inr, arith, eqb-true}
use borrow.Rule.Slice.PartMut.{put_mid}
use Rattle.std.specs.List.{flat_map}
use Rattle.std.proofs.lemmas.List.{drop_all, drop_more, append-nil}
use Rattle.std.proofs.lemmas.Bool.Decides.{nat_tests}
use Rattle.dossier.specs.declared.record.Touch.{Touch}
use Rattle.dossier.specs.declared.record.Row.{Row}
use Rattle.dossier.specs.declared.record.Row.TheVariants.{Plain, FromLine, FromStep, Advice, AdviceEnd}
use Rattle.dossier.specs.Numbers.{Words, touch_numbers, row_numbers}
use Rattle.field.specs.Bytes.{Bytes, bytes_of, filled}
use Rattle.field.specs.Payload.{led, cell_alone, row_from, row_payload, row_parsed, touch_at}
use Rattle.field.specs.Fields.{filled_is, opened}
use Rattle.field.specs.LittleEndian.{words_only, words_fit}

pub row_length : (r : Row) → length (row_payload r) ≡ 21
row_length Plain = refl
row_length (FromLine t) = refl
row_length (FromStep t) = refl
row_length (Advice w) = refl
row_length AdviceEnd = refl

-- a byte set, and the words put after it
pub led_put : (k m : ℕ) (ws ns bs ys : List ℕ) → length (led ns) ≡ length bs → length bs ≤ m + 1 → k ∷ ws ≡ ns → ys ≡ flat_map bytes_of ws → put_mid 1 m (slice_set bs 0 k) ys ≡ filled (led ns) bs
led_put k m ws ns [] ys e h is w = let n : length (led ns) ≡ length (led (k ∷ ws)) = ap (λ (x : List ℕ). length (led x)) (sym is) in absurd (omega arith)
led_put k m ws ns (a ∷ bs) ys e h is w =
    let none : drop m bs ≡ [] = drop_all m bs (omega arith) in
    let ends : ys ++ drop m bs ≡ ys = ap (λ (x : List ℕ). ys ++ x) none ∙ append-nil ys in
    let all : k ∷ (ys ++ drop m bs) ≡ led (k ∷ ws) = cc in
    all ∙ ap led is ∙ sym (filled_is (led ns) (a ∷ bs) e)

chosen : {R : Type 0} (b : Bool) (x y : Option R) (r : R) → cond b x y ≡ Some r → ((b ≡ true) × (x ≡ Some r)) ⊎ ((b ≡ false) × (y ≡ Some r))
chosen true x y r is = inl (refl, is)
chosen false x y r is = inr (refl, is)

tested : {R : Type 0} (b : Bool) (x r : R) → cond b (Some x) None ≡ Some r → (b ≡ true) × (x ≡ r)
tested true x r is = (refl, cc)
tested false x r is = let z : ◌≡◌ {A = ℕ} 0 1 = cc in absurd (omega arith)

alone : (t : Touch) → cell_alone t ≡ true → touch_numbers t ≡ t.cell ∷ 0 ∷ 0 ∷ 0 ∷ 0 ∷ []
alone t e =
    let b : t.before ≡ 0 = grind (arith, nat_tests) in
    let a : t.after ≡ 0 = grind (arith, nat_tests) in
    let o : t.origin ≡ 0 = grind (arith, nat_tests) in
    let n : t.next ≡ 0 = grind (arith, nat_tests) in
    cc

blank : (t : Touch) → (t.cell == 0 && cell_alone t) ≡ true → touch_numbers t ≡ 0 ∷ 0 ∷ 0 ∷ 0 ∷ 0 ∷ []
blank t e =
    let c : t.cell ≡ 0 = grind (arith, nat_tests) in
    let rest = alone t (grind (arith, nat_tests)) in
    cc

-- the five kinds, one after the other
last_kind : (k : ℕ) (t : Touch) (r : Row) → cond (k == 4) (cond (t.cell == 0 && cell_alone t) (Some AdviceEnd) None) None ≡ Some r → k ∷ touch_numbers t ≡ row_numbers r
last_kind k t r is = elim (chosen (k == 4) _ _ r is) [
  | inl h ↦ let g = tested (t.cell == 0 && cell_alone t) AdviceEnd r h.1 in
      let kind = eqb-true k 4 h.0 in let rest = blank t g.0 in let e = ap row_numbers g.1 in cc
  | inr h ↦ let z : ◌≡◌ {A = ℕ} 0 1 = let n = h.1 in cc in absurd (omega arith)
]

pub row_from_only : (k : ℕ) (t : Touch) (r : Row) → row_from k t ≡ Some r → k ∷ touch_numbers t ≡ row_numbers r
row_from_only k t r is = elim (chosen (k == 0) _ _ r is) [
  | inl h ↦ let g = tested (t.cell == 0 && cell_alone t) Plain r h.1 in
      let kind = eqb-true k 0 h.0 in let rest = blank t g.0 in let e = ap row_numbers g.1 in cc
  | inr h ↦ elim (chosen (k == 1) _ _ r h.1) [
    | inl i ↦ let kind = eqb-true k 1 i.0 in let same : FromLine t ≡ r = let s = i.1 in cc in let e = ap row_numbers same in cc
    | inr i ↦ elim (chosen (k == 2) _ _ r i.1) [
      | inl j ↦ let kind = eqb-true k 2 j.0 in let same : FromStep t ≡ r = let s = j.1 in cc in let e = ap row_numbers same in cc
      | inr j ↦ elim (chosen (k == 3) _ _ r j.1) [
        | inl l ↦ let g = tested (cell_alone t) (Advice t.cell) r l.1 in
            let kind = eqb-true k 3 l.0 in let rest = alone t g.0 in let e = ap row_numbers g.1 in cc
        | inr l ↦ last_kind k t r l.1
      ]
    ]
  ]
]

row_opened : (bs : List ℕ) (r : Row) → row_parsed bs ≡ Some r → (length bs ≡ 21) × (row_from (slice_index bs 0) (touch_at bs) ≡ Some r)
row_opened bs r is = opened 21 bs (row_from (slice_index bs 0) (touch_at bs)) r (length bs == 21) refl is

pub row_only : (bs : List ℕ) (r : Row) → Bytes bs → row_parsed bs ≡ Some r → bs ≡ row_payload r
row_only bs r small is =
    let o = row_opened bs r is in
    let size = o.0 in
    let first : bs ≡ slice_index bs 0 ∷ drop 1 bs = drop_more bs 0 0 (omega arith) in
    first ∙ ap (λ (x : List ℕ). slice_index bs 0 ∷ x) (sym (words_only bs 1 5 small size)) ∙ ap led (row_from_only (slice_index bs 0) (touch_at bs) r o.1)

pub row_fits : (bs : List ℕ) (r : Row) → Bytes bs → row_parsed bs ≡ Some r → Words (row_numbers r)
row_fits bs r small is =
    let o = row_opened bs r is in
    let size = o.0 in
    let byte : slice_index_or bs 0 0 < 256 = small 0 (omega arith) in
    subst Words (row_from_only (slice_index bs 0) (touch_at bs) r o.1) (omega arith, words_fit bs 1 5 small size)
