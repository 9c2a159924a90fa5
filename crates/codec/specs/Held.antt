-- What the bytes of a file mean.
--   head_of bs          the head, if its field stands first and the file has the length that the head says
--   items f z n bs      n items, each read by f from z bytes
--   meaning_of bs       the meaning; layer 1 finds an item unreadable
--   PartOfFile ..       what stands in a part of a file
use Rattle.std.specs.Prelude.{◌≡◌, ℕ, zero, suc, ◌+◌, ◌*◌, ◌≤◌, cond, List, [], ◌∷◌, length, take, drop, Some, None, Ok, Err, Option, ◌==◌, refl}
use Rattle.std.proofs.Common.{arith}
use Rattle.encoding.specs.declared.instruction.Instruction.{Instruction}
use Rattle.dossier.specs.declared.record.Head.{Head}
use Rattle.dossier.specs.declared.record.Line.{Line}
use Rattle.dossier.specs.declared.record.Row.{Row}
use Rattle.dossier.specs.Meaning.{Item, Meaning}
use Rattle.field.specs.Bytes.{field_read}
use Rattle.field.specs.Payload.{head_parsed, instruction_parsed, word_parsed, line_parsed, row_parsed}
use Rattle.codec.specs.Layout.{instructions_start, words_start, lines_start, rows_start, file_size}

abbrev pub head_read : List ℕ → Option Head
head_read = field_read 1 20 head_parsed

abbrev pub instruction_read : List ℕ → Option Instruction
instruction_read = field_read 2 8 instruction_parsed

abbrev pub word_read : List ℕ → Option ℕ
word_read = field_read 3 4 word_parsed

abbrev pub line_read : List ℕ → Option Line
line_read = field_read 4 8 line_parsed

abbrev pub row_read : List ℕ → Option Row
row_read = field_read 5 21 row_parsed

abbrev pub measured : Option Head → ℕ → Option Head
measured None n = None
measured (Some h) n = cond (n == file_size h) (Some h) None

abbrev pub head_of : List ℕ → Option Head
head_of bs = measured (head_read (take 23 bs)) (length bs)

abbrev pub item_of : {R : Type 0} → Option R → Item R
item_of None = Err 1
item_of (Some r) = Ok r

abbrev pub items : {R : Type 0} → (List ℕ → Option R) → ℕ → ℕ → List ℕ → List (Item R)
items f z zero bs = []
items f z (suc n) bs = item_of (f (take z bs)) ∷ items f z n (drop z bs)

abbrev pub held : Option Head → List ℕ → Meaning
held None bs = record { head = Err 1; instructions = []; words = []; lines = []; rows = [] }
held (Some h) bs = record {
  head = Ok h;
  instructions = items instruction_read 11 h.instructions (drop 23 bs);
  words = items word_read 7 h.words (drop (words_start h) bs);
  lines = items line_read 11 h.lines (drop (lines_start h) bs);
  rows = items row_read 24 h.rows (drop (rows_start h) bs);
}

abbrev pub meaning_of : List ℕ → Meaning
meaning_of bs = held (head_of bs) bs

-- a part's list holds what stands from its start on, and the part ends within the file
pub record PartOfFile {R : Type 0} (t s : ℕ) (parsed : List ℕ → Option R) (list : Meaning → List (Item R)) (count start : Head → ℕ) : Type 0 where
  pub stands : (h : Head) (bs : List ℕ) → list (held (Some h) bs) ≡ items (field_read t s parsed) (3 + s) (count h) (drop (start h) bs)
  pub none : (bs : List ℕ) → list (held None bs) ≡ []
  pub within : (h : Head) → start h + (3 + s) * count h ≤ file_size h

pub instructions_placed : PartOfFile 2 8 instruction_parsed (λ m. m.instructions) (λ h. h.instructions) instructions_start
instructions_placed = record { stands = λ h bs. refl; none = λ bs. refl; within = λ h. omega arith }

pub words_placed : PartOfFile 3 4 word_parsed (λ m. m.words) (λ h. h.words) words_start
words_placed = record { stands = λ h bs. refl; none = λ bs. refl; within = λ h. omega arith }

pub lines_placed : PartOfFile 4 8 line_parsed (λ m. m.lines) (λ h. h.lines) lines_start
lines_placed = record { stands = λ h bs. refl; none = λ bs. refl; within = λ h. omega arith }

pub rows_placed : PartOfFile 5 21 row_parsed (λ m. m.rows) (λ h. h.rows) rows_start
rows_placed = record { stands = λ h bs. refl; none = λ bs. refl; within = λ h. omega arith }
