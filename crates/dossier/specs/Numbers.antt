-- The numbers that a record is made of, in the order of its fields, and the numbers of the kinds of row.
--   head_numbers, instruction_numbers, word_numbers, line_numbers, row_numbers  a record's numbers
--   touch_in r                                                                  the touch that a row is, if it is one
--   row_kind r                                                                  the kind of a row
--   kind_number k                                                               the number of a kind of row
--   Numbered n r                                                                r is the kind with number n, or an error that carries n, which no kind has
--   Fit f r                                                                     every number of r, by f, is below 2 ^ 32
--   same f a b                                                                  a and b have the same numbers, by f
use Rattle.std.specs.Prelude.{◌≡◌, ℕ, ◌^◌, ◌<◌, Bool, true, false, ◌&&◌, List, [], ◌∷◌, ◌==◌, Some, None, Option, Result, MatchResult}
use Rattle.encoding.specs.declared.instruction.Instruction.{Instruction}
use Rattle.dossier.specs.declared.record.Head.{Head}
use Rattle.dossier.specs.declared.record.Line.{Line}
use Rattle.dossier.specs.declared.record.Touch.{Touch}
use Rattle.dossier.specs.declared.record.Row.{Row}
use Rattle.dossier.specs.declared.record.Row.TheVariants.{Plain, FromLine, FromStep, Advice, AdviceEnd}
use Rattle.dossier.specs.declared.record.RowKind.{RowKind}
use Rattle.dossier.specs.declared.record.RowKind.TheVariants as kind
use Rattle.dossier.specs.declared.record.UnknownKind.{UnknownKind}

abbrev pub head_numbers : Head → List ℕ
head_numbers h = h.instructions ∷ h.words ∷ h.lines ∷ h.rows ∷ h.bound ∷ []

abbrev pub instruction_numbers : Instruction → List ℕ
instruction_numbers i = i.first ∷ i.second ∷ []

abbrev pub word_numbers : ℕ → List ℕ
word_numbers w = w ∷ []

abbrev pub line_numbers : Line → List ℕ
line_numbers l = l.cell ∷ l.step ∷ []

abbrev pub touch_numbers : Touch → List ℕ
touch_numbers t = t.cell ∷ t.before ∷ t.after ∷ t.origin ∷ t.next ∷ []

-- the kind comes first; an advice word takes the cell's position, and what a kind does not use is 0
abbrev pub row_numbers : Row → List ℕ
row_numbers Plain = 0 ∷ 0 ∷ 0 ∷ 0 ∷ 0 ∷ 0 ∷ []
row_numbers (FromLine t) = 1 ∷ touch_numbers t
row_numbers (FromStep t) = 2 ∷ touch_numbers t
row_numbers (Advice w) = 3 ∷ w ∷ 0 ∷ 0 ∷ 0 ∷ 0 ∷ []
row_numbers AdviceEnd = 4 ∷ 0 ∷ 0 ∷ 0 ∷ 0 ∷ 0 ∷ []

-- what a row says of a touch
abbrev pub touch_in : Row → Option Touch
touch_in Plain = None
touch_in (FromLine t) = Some t
touch_in (FromStep t) = Some t
touch_in (Advice w) = None
touch_in AdviceEnd = None

abbrev pub row_kind : Row → RowKind
row_kind Plain = kind.Plain
row_kind (FromLine t) = kind.FromLine
row_kind (FromStep t) = kind.FromStep
row_kind (Advice w) = kind.Advice
row_kind AdviceEnd = kind.AdviceEnd

abbrev pub kind_number : RowKind → ℕ
kind_number kind.Plain = 0
kind_number kind.FromLine = 1
kind_number kind.FromStep = 2
kind_number kind.Advice = 3
kind_number kind.AdviceEnd = 4

abbrev pub Numbered : ℕ → Result RowKind UnknownKind → Type 0
Numbered n r = MatchResult r (λ k. kind_number k ≡ n) (λ e. (e.0 ≡ n) × (4 < n))

abbrev pub Words : List ℕ → Type 0
Words [] = Unit {0}
Words (n ∷ ns) = (n < 2 ^ 32) × Words ns

abbrev pub Fit : {R : Type 0} → (R → List ℕ) → R → Type 0
Fit f r = Words (f r)

abbrev pub equal : List ℕ → List ℕ → Bool
equal [] [] = true
equal [] (b ∷ ys) = false
equal (a ∷ xs) [] = false
equal (a ∷ xs) (b ∷ ys) = a == b && equal xs ys

abbrev pub same : {R : Type 0} → (R → List ℕ) → R → R → Bool
same f a b = equal (f a) (f b)
