-- Two dossiers under a common head have lists of equal lengths, so that their pair answers what both answer. Assumes nothing.
use Rattle.std.proofs.Common.{◌≡◌, ℕ, zero, suc, Bool, true, false, cond, List, [], ◌∷◌, length, Some, Ok, Err, refl, ap, ◌∙◌, arith}
use Rattle.std.specs.List.{slice_get}
use Rattle.std.proofs.lemmas.Bool.Decides.{nat_tests}
use Rattle.dossier.specs.declared.record.Head.{Head}
use Rattle.dossier.specs.declared.refusal.Part.{Part}
use Rattle.dossier.specs.declared.refusal.Part.TheVariants as part
use Rattle.dossier.specs.declared.refusal.Refusal.TheVariants.{Unreadable}
use Rattle.dossier.specs.Numbers.{Fit, same, head_numbers, instruction_numbers, word_numbers, line_numbers, row_numbers}
use Rattle.dossier.specs.Meaning.{Item, Meaning, Made, Listed, ItemFits, Each, counted, item_answer, head_answer}
use Rattle.layers.specs.Pair.{agreed, both, under, common_list, paired, common_answer}

-- a test of two records, on the side of items and on the side of answers
one : {R : Type 0} (p : Part) (j : ℕ) (a : R) (s : Bool) → cond s (Ok a) (Err (Unreadable (record { part = p; place = j; layer = 4 }))) ≡ item_answer p j (Some (cond s (Ok a) (Err 4)))
one p j a true = refl
one p j a false = refl

item : {R : Type 0} (f : R → List ℕ) (p : Part) (j : ℕ) (x y : Item R) → common_answer f p j (item_answer p j (Some x)) (item_answer p j (Some y)) ≡ item_answer p j (Some (agreed f x y))
item f p j (Err l) y = refl
item f p j (Ok a) (Err l) = refl
item f p j (Ok a) (Ok b) = one p j a (same f a b)

at_place : {R : Type 0} (f : R → List ℕ) (p : Part) (j k : ℕ) (xs ys : List (Item R)) → length xs ≡ length ys → common_answer f p j (item_answer p j (slice_get xs k)) (item_answer p j (slice_get ys k)) ≡ item_answer p j (slice_get (both f xs ys) k)
at_place f p j k [] [] e = refl
at_place f p j k [] (y ∷ ys) e = absurd (omega arith)
at_place f p j k (x ∷ xs) [] e = absurd (omega arith)
at_place f p j zero (x ∷ xs) (y ∷ ys) e = item f p j x y
at_place f p j (suc k) (x ∷ xs) (y ∷ ys) e = at_place f p j k xs ys (omega arith)

length_both : {R : Type 0} (f : R → List ℕ) (xs ys : List (Item R)) → length xs ≡ length ys → length (both f xs ys) ≡ length xs
length_both f [] ys e = refl
length_both f (x ∷ xs) [] e = absurd (omega arith)
length_both f (x ∷ xs) (y ∷ ys) e = ap suc (length_both f xs ys (omega arith))

-- heads of the same numbers are the same
joined : (i w l r b i' w' l' r' b' : ℕ) → i ≡ i' → w ≡ w' → l ≡ l' → r ≡ r' → b ≡ b' → ◌≡◌ {A = Head} (record { instructions = i; words = w; lines = l; rows = r; bound = b }) (record { instructions = i'; words = w'; lines = l'; rows = r'; bound = b' })
joined i w l r b i' w' l' r' b' ei ew el er eb = cc

same_head : (g h : Head) → same head_numbers g h ≡ true → g ≡ h
same_head g h e = joined g.instructions g.words g.lines g.rows g.bound h.instructions h.words h.lines h.rows h.bound (grind (arith, nat_tests)) (grind (arith, nat_tests)) (grind (arith, nat_tests)) (grind (arith, nat_tests)) (grind (arith, nat_tests))

module _ {R : Type 0} (f : R → List ℕ) (p : Part) (j : ℕ) where
  module _ (count : Head → ℕ) where
    alike_answer : (s : Bool) (g h : Head) → same head_numbers g h ≡ s → (xs ys : List (Item R)) → length xs ≡ count g → length ys ≡ count h → (x : Head) → Ok x ≡ item_answer part.Head 0 (Some (cond s (Ok g) (Err 4))) → common_answer f p j (item_answer p j (slice_get xs j)) (item_answer p j (slice_get ys j)) ≡ item_answer p j (slice_get (under (cond s (Ok g) (Err 4)) (both f xs ys)) j)
    alike_answer true g h e xs ys cx cy x is = let n = ap count (same_head g h e) in at_place f p j j xs ys (omega arith)
    alike_answer false g h e xs ys cx cy x is = let z : ◌≡◌ {A = ℕ} 0 1 = cc in absurd (omega arith)

    under_answer : (x y : Item Head) (xs ys : List (Item R)) → length xs ≡ counted x count → length ys ≡ counted y count → (h : Head) → Ok h ≡ item_answer part.Head 0 (Some (agreed head_numbers x y)) → common_answer f p j (item_answer p j (slice_get xs j)) (item_answer p j (slice_get ys j)) ≡ item_answer p j (slice_get (under (agreed head_numbers x y) (both f xs ys)) j)
    under_answer (Err l) y xs ys cx cy h is = let z : ◌≡◌ {A = ℕ} 0 1 = cc in absurd (omega arith)
    under_answer (Ok g) (Err l) xs ys cx cy h is = let z : ◌≡◌ {A = ℕ} 0 1 = cc in absurd (omega arith)
    under_answer (Ok g) (Ok h) xs ys cx cy x is = alike_answer (same head_numbers g h) g h refl xs ys cx cy x is

  -- what the pair answers under a common head
  module _ (list : Meaning → List (Item R)) (a b : Meaning) where
    pub agreeing : (count : Head → ℕ) (h : Head) → Listed a.head count f (list a) → Listed b.head count f (list b) → Ok h ≡ head_answer (paired a b) → common_answer f p j (item_answer p j (slice_get (list a) j)) (item_answer p j (slice_get (list b) j)) ≡ item_answer p j (slice_get (common_list f list a b) j)
    agreeing count h la lb is = under_answer count a.head b.head (list a) (list b) la.counts lb.counts h is

module _ {R : Type 0} (f : R → List ℕ) where
  chosen_fits : (s : Bool) (a : R) → Fit f a → ItemFits f (cond s (Ok a) (Err 4))
  chosen_fits true a h = h
  chosen_fits false a h = omega arith

  agreed_fits : (x y : Item R) → ItemFits f x → ItemFits f y → ItemFits f (agreed f x y)
  agreed_fits (Err l) y h k = h
  agreed_fits (Ok a) (Err l) h k = k
  agreed_fits (Ok a) (Ok b) h k = chosen_fits (same f a b) a h

  both_fits : (xs ys : List (Item R)) → Each (ItemFits f) xs → Each (ItemFits f) ys → Each (ItemFits f) (both f xs ys)
  both_fits [] ys h k = tt
  both_fits (x ∷ xs) [] h k = tt
  both_fits (x ∷ xs) (y ∷ ys) h k = (agreed_fits x y h.0 k.0, both_fits xs ys h.1 k.1)

  module _ (count : Head → ℕ) where
    headed_listed : (s : Bool) (g h : Head) → same head_numbers g h ≡ s → (xs ys : List (Item R)) → Listed (Ok g) count f xs → Listed (Ok h) count f ys → Listed (cond s (Ok g) (Err 4)) count f (under (cond s (Ok g) (Err 4)) (both f xs ys))
    headed_listed true g h e xs ys l k = let n = ap count (same_head g h e) in record { counts = length_both f xs ys (omega arith) ∙ l.counts; fits = both_fits xs ys l.fits k.fits }
    headed_listed false g h e xs ys l k = record { counts = refl; fits = tt }

    listed : (x y : Item Head) (xs ys : List (Item R)) → Listed x count f xs → Listed y count f ys → Listed (agreed head_numbers x y) count f (under (agreed head_numbers x y) (both f xs ys))
    listed (Err l) y xs ys h k = record { counts = refl; fits = tt }
    listed (Ok g) (Err l) xs ys h k = record { counts = refl; fits = tt }
    listed (Ok g) (Ok h) xs ys l k = headed_listed (same head_numbers g h) g h refl xs ys l k

pub made_pair : (a b : Meaning) → Made a → Made b → Made (paired a b)
made_pair a b l k = record {
  head = agreed_fits head_numbers a.head b.head l.head k.head;
  instructions = listed instruction_numbers (λ h. h.instructions) a.head b.head a.instructions b.instructions l.instructions k.instructions;
  words = listed word_numbers (λ h. h.words) a.head b.head a.words b.words l.words k.words;
  lines = listed line_numbers (λ h. h.lines) a.head b.head a.lines b.lines l.lines k.lines;
  rows = listed row_numbers (λ h. h.rows) a.head b.head a.rows b.rows l.rows k.rows;
}
