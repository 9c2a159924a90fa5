-- The bytes that a dossier is written as: the head's field, then those of the items, part by part.
use Rattle.std.specs.Prelude.{ℕ, List, [], ◌++◌, Ok, Err}
use Rattle.std.specs.List.{flat_map}
use Rattle.encoding.specs.declared.instruction.Instruction.{Instruction}
use Rattle.dossier.specs.declared.record.Head.{Head}
use Rattle.dossier.specs.declared.record.Line.{Line}
use Rattle.dossier.specs.declared.record.Row.{Row}
use Rattle.dossier.specs.Meaning.{Item, Meaning}
use Rattle.field.specs.Bytes.{field_bytes}
use Rattle.field.specs.Payload.{head_payload, instruction_payload, word_payload, line_payload, row_payload}

-- the field of a record of tag t and length s
abbrev pub item_bytes : {R : Type 0} → ℕ → ℕ → (R → List ℕ) → Item R → List ℕ
item_bytes t s payload (Ok r) = field_bytes t s (payload r)
item_bytes t s payload (Err l) = []

abbrev pub head_bytes : Item Head → List ℕ
head_bytes = item_bytes 1 20 head_payload

abbrev pub instructions_bytes : List (Item Instruction) → List ℕ
instructions_bytes = flat_map (item_bytes 2 8 instruction_payload)

abbrev pub words_bytes : List (Item ℕ) → List ℕ
words_bytes = flat_map (item_bytes 3 4 word_payload)

abbrev pub lines_bytes : List (Item Line) → List ℕ
lines_bytes = flat_map (item_bytes 4 8 line_payload)

abbrev pub rows_bytes : List (Item Row) → List ℕ
rows_bytes = flat_map (item_bytes 5 21 row_payload)

abbrev pub written : Meaning → List ℕ
written m = head_bytes m.head ++ (instructions_bytes m.instructions ++ (words_bytes m.words ++ (lines_bytes m.lines ++ rows_bytes m.rows)))
