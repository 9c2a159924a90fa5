-- What two dossiers agree on.
--   agreed f x y       the common item: the first's fault, or the second's, or the record if both have the same
--   paired a b         the meaning of the pair
--   common_answer      the same, said of two answers to one question
--   Pairs a b head     what a pair keeps of the two and of its head
use Rattle.std.specs.Prelude.{◌≡◌, ℕ, cond, List, [], ◌∷◌, Ok, Err, Result}
use Rattle.dossier.specs.declared.record.Head.{Head}
use Rattle.dossier.specs.declared.refusal.Part.{Part}
use Rattle.dossier.specs.declared.refusal.Refusal.{Refusal}
use Rattle.dossier.specs.declared.refusal.Refusal.TheVariants.{Unreadable}
use Rattle.dossier.specs.Numbers.{same, head_numbers, instruction_numbers, word_numbers, line_numbers, row_numbers}
use Rattle.dossier.specs.Meaning.{Item, Meaning, Made, head_answer}

abbrev pub agreed : {R : Type 0} → (R → List ℕ) → Item R → Item R → Item R
agreed f (Err l) y = Err l
agreed f (Ok a) (Err l) = Err l
agreed f (Ok a) (Ok b) = cond (same f a b) (Ok a) (Err 4)

abbrev pub both : {R : Type 0} → (R → List ℕ) → List (Item R) → List (Item R) → List (Item R)
both f [] ys = []
both f (x ∷ xs) [] = []
both f (x ∷ xs) (y ∷ ys) = agreed f x y ∷ both f xs ys

-- without a common head there are no items
abbrev pub under : {R : Type 0} → Item Head → List (Item R) → List (Item R)
under (Ok h) xs = xs
under (Err l) xs = []

abbrev pub common_head : Meaning → Meaning → Item Head
common_head a b = agreed head_numbers a.head b.head

-- the common list of two dossiers, under their common head
abbrev pub common_list : {R : Type 0} → (R → List ℕ) → (Meaning → List (Item R)) → Meaning → Meaning → List (Item R)
common_list f list a b = under (common_head a b) (both f (list a) (list b))

abbrev pub paired : Meaning → Meaning → Meaning
paired a b = record {
  head = common_head a b;
  instructions = common_list instruction_numbers (λ m. m.instructions) a b;
  words = common_list word_numbers (λ m. m.words) a b;
  lines = common_list line_numbers (λ m. m.lines) a b;
  rows = common_list row_numbers (λ m. m.rows) a b;
}

-- two dossiers that are made, and the answer that both give for the head
pub record Pairs (a b : Meaning) (head : Result Head Refusal) : Type 0 where
  pub first : Made a
  pub second : Made b
  pub both_say : head ≡ head_answer (paired a b)

abbrev pub common_answer : {R : Type 0} → (R → List ℕ) → Part → ℕ → Result R Refusal → Result R Refusal → Result R Refusal
common_answer f p k (Err e) y = Err e
common_answer f p k (Ok a) (Err e) = Err e
common_answer f p k (Ok a) (Ok b) = cond (same f a b) (Ok a) (Err (Unreadable (record { part = p; place = k; layer = 4 })))
