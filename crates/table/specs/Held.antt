-- What a run's tables mean: their entries, all readable, under a head that counts them.
-- A record in a table is known to be of words only when it is read, so the meaning takes each number as a word.
--   word n                           the number as a word of 32 bits, which is n itself where n is a word
--   instruction_words, row_words     a record with each of its numbers taken so
--   line_of e                        the opening line that a cell's entry gives
--   head_of b p ws cs rs             the head, unless a length exceeds 4,294,967,295
--   listed h xs                      the items of a list, which is empty without a head
--   table_meaning b p ws cs rs       the meaning; layer 2 finds the head missing
-- Assumes nothing.
use Rattle.std.specs.Prelude.{ℕ, ◌%◌, ◌^◌, cond, List, [], map, length, Some, None, Ok, Err, Option, nat_lt}
use Rattle.encoding.specs.declared.instruction.Instruction.{Instruction}
use Rattle.dossier.specs.declared.record.Head.{Head}
use Rattle.dossier.specs.declared.record.Line.{Line}
use Rattle.dossier.specs.declared.record.Touch.{Touch}
use Rattle.dossier.specs.declared.record.Row.{Row}
use Rattle.dossier.specs.declared.record.Row.TheVariants.{Plain, FromLine, FromStep, Advice, AdviceEnd}
use Rattle.dossier.specs.Meaning.{Item, Meaning}
use Rattle.index.specs.declared.entry.CellEntry.{CellEntry}

abbrev pub word : ℕ → ℕ
word n = n % 2 ^ 32

abbrev pub instruction_words : Instruction → Instruction
instruction_words i = record { first = word i.first; second = word i.second }

abbrev pub touch_words : Touch → Touch
touch_words t = record { cell = word t.cell; before = word t.before; after = word t.after; origin = word t.origin; next = word t.next }

abbrev pub row_words : Row → Row
row_words Plain = Plain
row_words (FromLine t) = FromLine (touch_words t)
row_words (FromStep t) = FromStep (touch_words t)
row_words (Advice w) = Advice (word w)
row_words AdviceEnd = AdviceEnd

abbrev pub line_of : CellEntry → Line
line_of e = record { cell = word e.cell; step = word e.first }

-- where n counts, what f makes of it
abbrev pub counting : {R : Type 0} → ℕ → Option R → Option R
counting n r = cond (nat_lt n (2 ^ 32)) r None

abbrev pub head_of : ℕ → List Instruction → List ℕ → List CellEntry → List Row → Option Head
head_of b p ws cs rs =
    counting (length p) (counting (length ws) (counting (length cs) (counting (length rs)
    (Some (record { instructions = length p; words = length ws; lines = length cs; rows = length rs; bound = b })))))

abbrev pub head_item : Option Head → Item Head
head_item None = Err 2
head_item (Some h) = Ok h

abbrev pub listed : {R : Type 0} → Option Head → List R → List (Item R)
listed None xs = []
listed (Some h) xs = map Ok xs

abbrev pub held : Option Head → List Instruction → List ℕ → List CellEntry → List Row → Meaning
held h p ws cs rs = record {
  head = head_item h;
  instructions = listed h (map instruction_words p);
  words = listed h (map word ws);
  lines = listed h (map line_of cs);
  rows = listed h (map row_words rs);
}

abbrev pub table_meaning : ℕ → List Instruction → List ℕ → List CellEntry → List Row → Meaning
table_meaning b p ws cs rs = held (head_of b p ws cs rs) p ws cs rs
