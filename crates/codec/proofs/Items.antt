-- Items at computed places. Assumes nothing.
use Rattle.std.proofs.Common.{◌≡◌, ℕ, zero, suc, ◌+◌, ◌-◌, ◌*◌, ◌<◌, ◌≤◌, List, length, take, drop, Some, None, Option, sym, refl, ap, ◌∙◌, mul-zero, mul-one, mul-suc, mul-add, arith}
use Rattle.std.specs.List.{slice_get}
use Rattle.std.proofs.lemmas.Nat.{mul-le}
use Rattle.std.proofs.lemmas.List.{drop-drop}
use Rattle.std.proofs.lemmas.Option.{slice_get_past}
use Rattle.dossier.specs.declared.refusal.Part.{Part}
use Rattle.dossier.specs.Meaning.{item_answer}
use Rattle.codec.specs.Held.{item_of, items}

-- the field at place k ends where n fields do, or before
pub room : (z k n : ℕ) → k < n → z * k + z ≤ z * n
room z k n h = let m = mul-le z (suc k) z n (omega arith) (omega arith) in let s = mul-suc z k in omega arith

module _ {R : Type 0} (f : List ℕ → Option R) (z : ℕ) where
  pub length_items : (n : ℕ) (bs : List ℕ) → length (items f z n bs) ≡ n
  length_items zero bs = refl
  length_items (suc n) bs = ap suc (length_items n (drop z bs))

  pub nth_none : (n k : ℕ) (bs : List ℕ) → n ≤ k → slice_get (items f z n bs) k ≡ None
  nth_none n k bs h = slice_get_past (items f z n bs) k (let e = length_items n bs in omega arith)

  nth_some : (n k : ℕ) (bs : List ℕ) → k < n → slice_get (items f z n bs) k ≡ Some (item_of (f (take z (drop (z * k) bs))))
  nth_some zero k bs h = absurd (omega arith)
  nth_some (suc n) zero bs h = ap (λ x. Some (item_of (f (take z (drop x bs))))) (sym (mul-zero z))
  nth_some (suc n) (suc k) bs h =
      let e : z + z * k ≡ z * suc k = let s = mul-suc z k in omega arith in
      nth_some n k (drop z bs) (omega arith) ∙ ap (λ (x : List ℕ). Some (item_of (f (take z x)))) (drop-drop (z * k) z bs ∙ ap (λ x. drop x bs) e)

  pub nth_at : (n k start : ℕ) (bs : List ℕ) → k < n → slice_get (items f z n (drop start bs)) k ≡ Some (item_of (f (take (start + z * k + z - (start + z * k)) (drop (start + z * k) bs))))
  nth_at n k start bs h =
      let e : z ≡ start + z * k + z - (start + z * k) = omega arith in
      nth_some n k (drop start bs) h ∙ ap (λ (x : List ℕ). Some (item_of (f (take z x)))) (drop-drop (z * k) start bs) ∙ ap (λ x. Some (item_of (f (take x (drop (start + z * k) bs))))) e

  -- what is read at a computed place is the item's answer; w is z as the code has it
  pub item_found : (p : Part) (w n k start : ℕ) (bs : List ℕ) (x : Option R) → w ≡ z → k < n → x ≡ f (take (start + w * k + w - (start + w * k)) (drop (start + w * k) bs)) → item_answer p k (Some (item_of x)) ≡ item_answer p k (slice_get (items f z n (drop start bs)) k)
  item_found p w n k start bs x e h is =
      let same = is ∙ ap (λ y. f (take (start + y * k + y - (start + y * k)) (drop (start + y * k) bs))) e in
      ap (λ (y : Option R). item_answer p k (Some (item_of y))) same ∙ sym (ap (item_answer p k) (nth_at n k start bs h))

pub one_on : (start z size at k : ℕ) → size ≡ z → at ≡ start + z * k → at + size ≡ start + z * (k + 1)
one_on start z size at k e f = let a = mul-add z k 1 in let b = mul-one z in omega arith
