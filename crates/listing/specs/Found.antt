-- The answer to a question for a part and a place, with a record of any part.
use Rattle.std.specs.Prelude.{ℕ, Ok, Err, Result}
use Rattle.dossier.specs.declared.refusal.Part.{Part}
use Rattle.dossier.specs.declared.refusal.Part.TheVariants as part
use Rattle.dossier.specs.declared.refusal.Refusal.{Refusal}
use Rattle.dossier.specs.Meaning.{Meaning, head_answer, instruction_answer, word_answer, line_answer, row_answer}
use Rattle.listing.specs.declared.found.Found.{Found}
use Rattle.listing.specs.declared.found.Found.TheVariants.{Head, Instruction, Word, Line, Row}

abbrev pub told : {R : Type 0} → (R → Found) → Result R Refusal → Result Found Refusal
told f (Ok r) = Ok (f r)
told f (Err e) = Err e

-- the head has no place
abbrev pub answer_of : Meaning → Part → ℕ → Result Found Refusal
answer_of m part.Head k = told Head (head_answer m)
answer_of m part.Instruction k = told Instruction (instruction_answer m k)
answer_of m part.Word k = told Word (word_answer m k)
answer_of m part.Line k = told Line (line_answer m k)
answer_of m part.Row k = told Row (row_answer m k)
