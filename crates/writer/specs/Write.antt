-- What writing a dossier answers, and what it leaves in the bytes lent to it.
--   Headed m h                  m is made, and h is its head
--   first_fault p k xs          refusal 2 for the first unreadable item of a part, counted from k
--   items_answer m              the same over the four parts
--   write_answer m room         the answer: the head's refusal, then refusal 15, then an item's, else the length
--   left answer new old         the bytes after the answer: new and the rest of old, or old where it is a refusal
--   write_number, write_values  the number of a refusal, and the values that it returns
use Rattle.std.specs.Prelude.{◌≡◌, ℕ, ◌+◌, cond, List, [], ◌∷◌, ◌++◌, drop, Ok, Err, Result, nat_le}
use Rattle.dossier.specs.declared.record.Head.{Head}
use Rattle.dossier.specs.declared.refusal.Part.{Part}
use Rattle.dossier.specs.declared.refusal.Part.TheVariants as part
use Rattle.dossier.specs.declared.refusal.Refusal.{Refusal}
use Rattle.dossier.specs.declared.refusal.Refusal.TheVariants.{Unreadable}
use Rattle.dossier.specs.Meaning.{Item, Meaning, Made, head_answer, refusal_number, refusal_values}
use Rattle.field.specs.Bytes.{field_bytes, filled}
use Rattle.writer.specs.declared.refusal.WriteRefusal.{WriteRefusal}
use Rattle.writer.specs.declared.refusal.WriteRefusal.TheVariants.{Asked, Room}
use Rattle.codec.specs.Layout.{file_size}

-- a dossier that is made, and its head
pub record Headed (m : Meaning) (h : Head) : Type 0 where
  pub made : Made m
  pub head : m.head ≡ Ok h

abbrev pub first_fault : {R : Type 0} → Part → ℕ → List (Item R) → Result Unit Refusal
first_fault p k [] = Ok tt
first_fault p k (Ok r ∷ xs) = first_fault p (k + 1) xs
first_fault p k (Err l ∷ xs) = Err (Unreadable (record { part = p; place = k; layer = l }))

abbrev pub then_try : Result Unit Refusal → Result Unit Refusal → Result Unit Refusal
then_try (Ok u) next = next
then_try (Err e) next = Err e

abbrev pub items_answer : Meaning → Result Unit Refusal
items_answer m = then_try (first_fault part.Instruction 0 m.instructions) (then_try (first_fault part.Word 0 m.words) (then_try (first_fault part.Line 0 m.lines) (first_fault part.Row 0 m.rows)))

abbrev pub answered : Result Unit Refusal → ℕ → Result ℕ WriteRefusal
answered (Ok u) n = Ok n
answered (Err e) n = Err (Asked e)

abbrev pub under_head : Result Head Refusal → Result Unit Refusal → ℕ → Result ℕ WriteRefusal
under_head (Err e) tried room = Err (Asked e)
under_head (Ok h) tried room = cond (nat_le (file_size h) room) (answered tried (file_size h)) (Err (Room (file_size h)))

abbrev pub write_answer : Meaning → ℕ → Result ℕ WriteRefusal
write_answer m room = under_head (head_answer m) (items_answer m) room

abbrev pub left : Result ℕ WriteRefusal → List ℕ → List ℕ → List ℕ
left (Ok n) new old = new ++ drop n old
left (Err e) new old = old

-- what an answered item leaves in its field
abbrev pub put : {R : Type 0} → ℕ → ℕ → (R → List ℕ) → Result R Refusal → List ℕ → List ℕ
put t s payload (Ok r) old = filled (field_bytes t s (payload r)) old
put t s payload (Err e) old = old

abbrev pub write_number : WriteRefusal → ℕ
write_number (Asked e) = refusal_number e
write_number (Room n) = 15

abbrev pub write_values : WriteRefusal → List ℕ
write_values (Asked e) = refusal_values e
write_values (Room n) = n ∷ []
