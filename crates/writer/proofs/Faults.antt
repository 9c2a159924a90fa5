-- The first unreadable item of a part, one place at a time. Assumes nothing.
use Rattle.std.proofs.Common.{◌≡◌, ℕ, zero, suc, ◌+◌, ◌<◌, ◌≤◌, List, [], ◌∷◌, length, drop, Ok, Err, sym, refl, ap, ◌∙◌, arith}
use Rattle.std.specs.List.{slice_get}
use Rattle.std.proofs.lemmas.List.{drop_all}
use Rattle.dossier.specs.declared.record.Head.{Head}
use Rattle.dossier.specs.declared.refusal.Part.{Part}
use Rattle.dossier.specs.declared.refusal.Refusal.{Refusal}
use Rattle.dossier.specs.Meaning.{Item, Meaning, Listed, Each, IsRecord, counted, item_answer}
use Rattle.writer.specs.Write.{Headed, first_fault}

-- the list of a kind of record is as long as the head says
pub part_length : {R : Type 0} (m : Meaning) (h : Head) (count : Head → ℕ) (numbers : R → List ℕ) (xs : List (Item R)) → Headed m h → Listed m.head count numbers xs → length xs ≡ count h
part_length m h count numbers xs under listed = listed.counts ∙ ap (λ x. counted x count) under.head

module _ {R : Type 0} (p : Part) where
  pub fault_here : (j k : ℕ) (xs : List (Item R)) (e : Refusal) → k < length xs → Err e ≡ item_answer p j (slice_get xs k) → first_fault p j (drop k xs) ≡ Err e
  fault_here j k [] e h is = absurd (omega arith)
  fault_here j zero (Ok r ∷ xs) e h is = let z : ◌≡◌ {A = ℕ} 0 1 = cc in absurd (omega arith)
  fault_here j zero (Err l ∷ xs) e h is = let same = sym is in cc
  fault_here j (suc k) (x ∷ xs) e h is = fault_here j k xs e (omega arith) is

  pub fault_later : (j k : ℕ) (xs : List (Item R)) (r : R) → k < length xs → Ok r ≡ item_answer p j (slice_get xs k) → first_fault p (j + 1) (drop (k + 1) xs) ≡ first_fault p j (drop k xs)
  fault_later j k [] r h is = absurd (omega arith)
  fault_later j zero (Ok s ∷ xs) r h is = refl
  fault_later j zero (Err l ∷ xs) r h is = let z : ◌≡◌ {A = ℕ} 0 1 = cc in absurd (omega arith)
  fault_later j (suc k) (x ∷ xs) r h is =
      let e : suc k + 1 ≡ suc (k + 1) = omega arith in
      ap (λ n. first_fault p (j + 1) (drop n (x ∷ xs))) e ∙ fault_later j k xs r (omega arith) is

  pub fault_none : (j k : ℕ) (xs : List (Item R)) → length xs ≤ k → first_fault p j (drop k xs) ≡ Ok tt
  fault_none j k xs h = ap (first_fault p j) (drop_all k xs h)

  -- without a fault every item is a record
  pub all_records : (j : ℕ) (xs : List (Item R)) → first_fault p j xs ≡ Ok tt → Each IsRecord xs
  all_records j [] is = tt
  all_records j (Ok r ∷ xs) is = (tt, all_records (j + 1) xs is)
  all_records j (Err l ∷ xs) is = let z : ◌≡◌ {A = ℕ} 0 1 = cc in absurd (omega arith)
