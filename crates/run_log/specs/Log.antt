-- The log of what the steps of a run show: its rows and its opening lines.
--
--   `Event`                     what a step shows: nothing, an advice word, an advice end, or a touch
--   `event_at es t`             the event of step t, counted from 1
--   `touches es c t`            step t touches cell c
--   `memory initial es c t`     what cell c holds before step t
--   `touch_before es c t`       the step of the touch of c before step t, or 0
--   `touch_after es c t`        the step of the touch of c after step t, or 0
--   `log_lines es`              the opening lines, by rising cell
--   `log_rows initial es`       the rows
--   `events_of rs`              what rows say that the steps show
--   `IsLog initial rs ls`       rows and lines are the log of what the rows say, of cells that are multiples of 4
--
-- Everywhere `initial` gives what each cell holds at the start; `zeroed` is memory that starts at 0. Assumes nothing.
use Rattle.std.specs.Prelude.{◌≡◌, ℕ, zero, suc, ◌-◌, ◌%◌, Bool, true, false, cond, List, [], ◌∷◌, map, length, ◌==◌, nat_lt, slice_index_or}
use Rattle.std.specs.List.{range_with_len}
use Rattle.dossier.specs.declared.record.Row.{Row}
use Rattle.dossier.specs.declared.record.Row.TheVariants.{Plain, FromLine, FromStep, Advice, AdviceEnd}
use Rattle.dossier.specs.declared.record.Line.{Line}

-- EVENTS

-- `touch c a` leaves the value a in cell c
pub data Event : Type 0 where
  quiet : Event
  word : ℕ → Event
  ended : Event
  touch : ℕ → ℕ → Event

-- outside the run a step shows nothing
abbrev pub event_at : List Event → ℕ → Event
event_at es zero = quiet
event_at es (suc i) = slice_index_or es i quiet

abbrev pub hits : ℕ → Event → Bool
hits c quiet = false
hits c (word w) = false
hits c ended = false
hits c (touch d a) = d == c

-- the value that a touch leaves
abbrev pub left : Event → ℕ
left quiet = 0
left (word w) = 0
left ended = 0
left (touch d a) = a

abbrev pub touches : List Event → ℕ → ℕ → Bool
touches es c t = hits c (event_at es t)

-- MEMORY, AND THE TOUCHES OF A CELL

-- memory that is 0 everywhere at the start
abbrev pub zeroed : ℕ → ℕ
zeroed c = 0

-- what f gives at the last number below t that passes, or d where none does
abbrev pub latest : (ℕ → Bool) → (ℕ → ℕ) → ℕ → ℕ → ℕ
latest p f d zero = d
latest p f d (suc t) = cond (p t) (f t) (latest p f d t)

-- the first of the k numbers after t that passes, or 0
abbrev pub first_after : (ℕ → Bool) → ℕ → ℕ → ℕ
first_after p t zero = 0
first_after p t (suc k) = cond (p (suc t)) (suc t) (first_after p (suc t) k)

-- what the last touch left, or the initial value
abbrev pub memory : (ℕ → ℕ) → List Event → ℕ → ℕ → ℕ
memory initial es c t = latest (touches es c) (λ s. left (event_at es s)) (initial c) t

abbrev pub touch_before : List Event → ℕ → ℕ → ℕ
touch_before es c t = latest (touches es c) (λ s. s) 0 t

abbrev pub touch_after : List Event → ℕ → ℕ → ℕ
touch_after es c t = first_after (touches es c) t (length es - t)

-- OPENING LINES

-- a line for cell c, touched at step t, in its place by rising cell, unless c has a line
abbrev pub add_line : ℕ → ℕ → List Line → List Line
add_line c t [] = record { cell = c; step = t } ∷ []
add_line c t (l ∷ ls) =
    cond (nat_lt c l.cell) (record { cell = c; step = t } ∷ l ∷ ls) (cond (c == l.cell) (l ∷ ls) (l ∷ add_line c t ls))

abbrev pub open_for : ℕ → Event → List Line → List Line
open_for t quiet ls = ls
open_for t (word w) ls = ls
open_for t ended ls = ls
open_for t (touch c a) ls = add_line c t ls

-- the opening lines of the steps up to t
abbrev pub openings : List Event → ℕ → List Line
openings es zero = []
openings es (suc t) = open_for (suc t) (event_at es (suc t)) (openings es t)

abbrev pub log_lines : List Event → List Line
log_lines es = openings es (length es)

-- the number of the line of cell c among lines by rising cell, counted from 0
abbrev pub line_of : List Line → ℕ → ℕ
line_of [] c = 0
line_of (l ∷ ls) c = cond (nat_lt l.cell c) (suc (line_of ls c)) 0

-- ROWS

-- the row of step t that shows an event; a touch is the first of its cell, or leads back to the touch before
abbrev pub row_of : (ℕ → ℕ) → List Event → ℕ → Event → Row
row_of initial es t quiet = Plain
row_of initial es t (word w) = Advice w
row_of initial es t ended = AdviceEnd
row_of initial es t (touch c a) =
    cond (touch_before es c t == 0)
    (FromLine (record { cell = c; before = memory initial es c t; after = a; origin = line_of (log_lines es) c; next = touch_after es c t }))
    (FromStep (record { cell = c; before = memory initial es c t; after = a; origin = touch_before es c t; next = touch_after es c t }))

abbrev pub log_rows : (ℕ → ℕ) → List Event → List Row
log_rows initial es = map (λ t. row_of initial es t (event_at es t)) (range_with_len 1 (length es))

-- WHAT ROWS SAY

abbrev pub event_of : Row → Event
event_of Plain = quiet
event_of (FromLine x) = touch x.cell x.after
event_of (FromStep x) = touch x.cell x.after
event_of (Advice w) = word w
event_of AdviceEnd = ended

abbrev pub events_of : List Row → List Event
events_of rs = map event_of rs

-- each cell touched is a multiple of 4
abbrev pub Aligned : List Event → Type 0
Aligned es = (c t : ℕ) → touches es c t ≡ true → c % 4 ≡ 0

pub record IsLog (initial : ℕ → ℕ) (rs : List Row) (ls : List Line) : Type 0 where
  pub rows : rs ≡ log_rows initial (events_of rs)
  pub lines : ls ≡ log_lines (events_of rs)
  pub aligned : Aligned (events_of rs)
