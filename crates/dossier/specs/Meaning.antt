-- What a dossier means: a head or none, and four lists of items.
--   Item R                                                        a record, or the number of the layer that found it unreadable
--   Meaning                                                       the head and the four lists
--   head_answer m                                                 what the question for the head answers
--   instruction_answer m k, word_answer, line_answer, row_answer  what the question for place k answers
--   Made m                                                        the head counts the lists, and every number fits 32 bits
--   Readable m                                                    there is a head, and a record at each place
--   refusal_number, refusal_values                                the number of a refusal, and the values that it returns
use Rattle.std.specs.Prelude.{◌≡◌, ℕ, ◌^◌, ◌<◌, List, [], ◌∷◌, length, Some, None, Ok, Err, Option, Result}
use Rattle.std.specs.List.{slice_get}
use Rattle.encoding.specs.declared.instruction.Instruction.{Instruction}
use Rattle.dossier.specs.declared.record.Head.{Head}
use Rattle.dossier.specs.declared.record.Line.{Line}
use Rattle.dossier.specs.declared.record.Row.{Row}
use Rattle.dossier.specs.declared.refusal.Part.{Part}
use Rattle.dossier.specs.declared.refusal.Part.TheVariants as part
use Rattle.dossier.specs.declared.refusal.Refusal.{Refusal}
use Rattle.dossier.specs.declared.refusal.Refusal.TheVariants.{Past, Unreadable}
use Rattle.dossier.specs.Numbers.{Fit, head_numbers, instruction_numbers, word_numbers, line_numbers, row_numbers}

abbrev pub Item : Type 0 → Type 0
Item R = Result R ℕ

pub record Meaning : Type 0 where
  pub head : Item Head
  pub instructions : List (Item Instruction)
  pub words : List (Item ℕ)
  pub lines : List (Item Line)
  pub rows : List (Item Row)

-- the record at a place, refusal 1 past the list, or refusal 2
abbrev pub item_answer : {R : Type 0} → Part → ℕ → Option (Item R) → Result R Refusal
item_answer p k None = Err (Past p k)
item_answer p k (Some (Ok r)) = Ok r
item_answer p k (Some (Err l)) = Err (Unreadable (record { part = p; place = k; layer = l }))

abbrev pub head_answer : Meaning → Result Head Refusal
head_answer m = item_answer part.Head 0 (Some m.head)

abbrev pub instruction_answer : Meaning → ℕ → Result Instruction Refusal
instruction_answer m k = item_answer part.Instruction k (slice_get m.instructions k)

abbrev pub word_answer : Meaning → ℕ → Result ℕ Refusal
word_answer m k = item_answer part.Word k (slice_get m.words k)

abbrev pub line_answer : Meaning → ℕ → Result Line Refusal
line_answer m k = item_answer part.Line k (slice_get m.lines k)

abbrev pub row_answer : Meaning → ℕ → Result Row Refusal
row_answer m k = item_answer part.Row k (slice_get m.rows k)

-- a record's numbers fit 32 bits, and so does the number of a layer
abbrev pub ItemFits : {R : Type 0} → (R → List ℕ) → Item R → Type 0
ItemFits f (Ok r) = Fit f r
ItemFits f (Err l) = l < 2 ^ 32

abbrev pub Each : {X : Type 0} → (X → Type 0) → List X → Type 0
Each P [] = Unit {0}
Each P (x ∷ xs) = P x × Each P xs

-- how long the lists under a head are; without a head they are empty
abbrev pub counted : Item Head → (Head → ℕ) → ℕ
counted (Ok h) count = count h
counted (Err l) count = 0

-- a list is as long as the head says, and its numbers fit
pub record Listed {R : Type 0} (h : Item Head) (count : Head → ℕ) (f : R → List ℕ) (xs : List (Item R)) : Type 0 where
  pub counts : length xs ≡ counted h count
  pub fits : Each (ItemFits f) xs

pub record Made (m : Meaning) : Type 0 where
  pub head : ItemFits head_numbers m.head
  pub instructions : Listed m.head (λ h. h.instructions) instruction_numbers m.instructions
  pub words : Listed m.head (λ h. h.words) word_numbers m.words
  pub lines : Listed m.head (λ h. h.lines) line_numbers m.lines
  pub rows : Listed m.head (λ h. h.rows) row_numbers m.rows

abbrev pub IsRecord : {R : Type 0} → Item R → Type 0
IsRecord (Ok r) = Unit {0}
IsRecord (Err l) = ⊥

pub record Readable (m : Meaning) : Type 0 where
  pub head : IsRecord m.head
  pub instructions : Each IsRecord m.instructions
  pub words : Each IsRecord m.words
  pub lines : Each IsRecord m.lines
  pub rows : Each IsRecord m.rows

abbrev pub part_number : Part → ℕ
part_number part.Head = 0
part_number part.Instruction = 1
part_number part.Word = 2
part_number part.Line = 3
part_number part.Row = 4

abbrev pub refusal_number : Refusal → ℕ
refusal_number (Past p k) = 1
refusal_number (Unreadable f) = 2

abbrev pub refusal_values : Refusal → List ℕ
refusal_values (Past p k) = part_number p ∷ k ∷ []
refusal_values (Unreadable f) = part_number f.part ∷ f.place ∷ f.layer ∷ []
