-- The payload of each kind of record: its numbers as words, but for the kind of a row, which is one byte.
use Rattle.std.specs.Prelude.{ℕ, Bool, cond, ◌&&◌, List, [], ◌∷◌, length, Some, None, Option, ◌==◌, slice_index}
use Rattle.std.specs.List.{flat_map}
use Rattle.encoding.specs.declared.instruction.Instruction.{Instruction}
use Rattle.dossier.specs.declared.record.Head.{Head}
use Rattle.dossier.specs.declared.record.Line.{Line}
use Rattle.dossier.specs.declared.record.Touch.{Touch}
use Rattle.dossier.specs.declared.record.Row.{Row}
use Rattle.dossier.specs.declared.record.Row.TheVariants.{Plain, FromLine, FromStep, Advice, AdviceEnd}
use Rattle.dossier.specs.Numbers.{head_numbers, instruction_numbers, word_numbers, line_numbers, row_numbers}
use Rattle.field.specs.Bytes.{bytes_of, word_at}

abbrev pub head_payload : Head → List ℕ
head_payload h = flat_map bytes_of (head_numbers h)

abbrev pub instruction_payload : Instruction → List ℕ
instruction_payload i = flat_map bytes_of (instruction_numbers i)

abbrev pub word_payload : ℕ → List ℕ
word_payload w = flat_map bytes_of (word_numbers w)

abbrev pub line_payload : Line → List ℕ
line_payload l = flat_map bytes_of (line_numbers l)

-- a byte, and then words
abbrev pub led : List ℕ → List ℕ
led [] = []
led (k ∷ ns) = k ∷ flat_map bytes_of ns

abbrev pub row_payload : Row → List ℕ
row_payload r = led (row_numbers r)

abbrev pub sized : {R : Type 0} → ℕ → R → List ℕ → Option R
sized n r bs = cond (length bs == n) (Some r) None

abbrev pub head_parsed : List ℕ → Option Head
head_parsed bs = sized 20 (record { instructions = word_at bs 0; words = word_at bs 4; lines = word_at bs 8; rows = word_at bs 12; bound = word_at bs 16 }) bs

abbrev pub instruction_parsed : List ℕ → Option Instruction
instruction_parsed bs = sized 8 (record { first = word_at bs 0; second = word_at bs 4 }) bs

abbrev pub word_parsed : List ℕ → Option ℕ
word_parsed bs = sized 4 (word_at bs 0) bs

abbrev pub line_parsed : List ℕ → Option Line
line_parsed bs = sized 8 (record { cell = word_at bs 0; step = word_at bs 4 }) bs

-- all that follows the cell is 0
abbrev pub cell_alone : Touch → Bool
cell_alone t = t.before == 0 && (t.after == 0 && (t.origin == 0 && t.next == 0))

abbrev pub row_from : ℕ → Touch → Option Row
row_from k t =
    cond (k == 0) (cond (t.cell == 0 && cell_alone t) (Some Plain) None)
    (cond (k == 1) (Some (FromLine t))
    (cond (k == 2) (Some (FromStep t))
    (cond (k == 3) (cond (cell_alone t) (Some (Advice t.cell)) None)
    (cond (k == 4) (cond (t.cell == 0 && cell_alone t) (Some AdviceEnd) None) None))))

abbrev pub touch_at : List ℕ → Touch
touch_at bs = record { cell = word_at bs 1; before = word_at bs 5; after = word_at bs 9; origin = word_at bs 13; next = word_at bs 17 }

abbrev pub row_parsed : List ℕ → Option Row
row_parsed bs = cond (length bs == 21) (row_from (slice_index bs 0) (touch_at bs)) None
