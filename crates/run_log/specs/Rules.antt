-- The link rules, which ask of a line or a row no more than its own record and those that it names.
-- A rule is a record, a field for each thing that it asks; beside it stands the test that decides it.
--
--   `row_at rs t`, `line_at ls j`   row t, counted from 1, and line j, counted from 0
--   `LineOrder ls j`                rule 24: the line's cell is a multiple of 4 and above the former line's
--   `LineStep rs ls j`              rule 25: the line's step is 1 to T, and its row is a touch from this line
--   `LineOrigin initial ls t x`     rule 31, touch from a line: the line has this cell and step, before is the initial value
--   `StepOrigin rs t x`             rule 31, touch from a step: the origin is an earlier touch of this cell that leads here
--   `NextLink rs t x`               rule 32: next is 0, or a later touch from this step
--   `Linked initial rs ls`          each line and each row keeps its rules
--   `line_finding`, `link_finding`  the number of the first rule that a line, a row breaks, or 0
--   `NoFinding initial rs ls`       no line and no row has one
--
-- Assumes nothing.
use Rattle.std.specs.Prelude.{◌≡◌, ℕ, zero, suc, ◌%◌, ◌<◌, ◌≤◌, Bool, cond, ◌&&◌, ◌||◌, ◌⊎◌, List, length, ◌==◌, nat_le, nat_lt, slice_index_or}
use Rattle.dossier.specs.declared.record.Row.{Row}
use Rattle.dossier.specs.declared.record.Row.TheVariants.{Plain, FromLine, FromStep, Advice, AdviceEnd}
use Rattle.dossier.specs.declared.record.Touch.{Touch}
use Rattle.dossier.specs.declared.record.Line.{Line}
use Rattle.run_log.specs.Log.{Event, Aligned, log_rows, log_lines, events_of, IsLog}

-- outside the log a row is plain, so a row that is a touch is inside
abbrev pub row_at : List Row → ℕ → Row
row_at rs zero = Plain
row_at rs (suc i) = slice_index_or rs i Plain

abbrev pub line_at : List Line → ℕ → Line
line_at ls j = slice_index_or ls j (record { cell = 0; step = 0 })

abbrev pub kind_of : Row → ℕ
kind_of Plain = 0
kind_of (FromLine x) = 1
kind_of (FromStep x) = 2
kind_of (Advice w) = 3
kind_of AdviceEnd = 4

abbrev pub touch_of : Row → Touch
touch_of Plain = record { cell = 0; before = 0; after = 0; origin = 0; next = 0 }
touch_of (FromLine x) = x
touch_of (FromStep x) = x
touch_of (Advice w) = record { cell = 0; before = 0; after = 0; origin = 0; next = 0 }
touch_of AdviceEnd = record { cell = 0; before = 0; after = 0; origin = 0; next = 0 }

-- kinds 1 and 2
abbrev pub IsTouch : Row → Type 0
IsTouch r = (1 ≤ kind_of r) × (kind_of r ≤ 2)

abbrev pub test_touch : Row → Bool
test_touch r = nat_le 1 (kind_of r) && nat_le (kind_of r) 2

-- RULE 24

pub record LineOrder (ls : List Line) (j : ℕ) : Type 0 where
  pub fourth : (line_at ls j).cell % 4 ≡ 0
  pub above : (i : ℕ) → suc i ≡ j → (line_at ls i).cell < (line_at ls j).cell

abbrev pub test_line_order : List Line → ℕ → Bool
test_line_order ls zero = (line_at ls 0).cell % 4 == 0
test_line_order ls (suc i) = (line_at ls (suc i)).cell % 4 == 0 && nat_lt (line_at ls i).cell (line_at ls (suc i)).cell

-- RULE 25

pub record LineStep (rs : List Row) (ls : List Line) (j : ℕ) : Type 0 where
  pub starts : 1 ≤ (line_at ls j).step
  pub ends : (line_at ls j).step ≤ length rs
  pub kind : kind_of (row_at rs (line_at ls j).step) ≡ 1
  pub back : (touch_of (row_at rs (line_at ls j).step)).origin ≡ j

-- the row is a touch from line j
abbrev pub from_line : ℕ → Row → Bool
from_line j r = kind_of r == 1 && (touch_of r).origin == j

abbrev pub test_line_step : List Row → ℕ → Line → Bool
test_line_step rs j l = nat_le 1 l.step && nat_le l.step (length rs) && from_line j (row_at rs l.step)

-- RULE 31

pub record LineOrigin (initial : ℕ → ℕ) (ls : List Line) (t : ℕ) (x : Touch) : Type 0 where
  pub exists : x.origin < length ls
  pub cell : (line_at ls x.origin).cell ≡ x.cell
  pub step : (line_at ls x.origin).step ≡ t
  pub starts : x.before ≡ initial x.cell

abbrev pub test_line_origin : (ℕ → ℕ) → List Line → ℕ → Touch → Bool
test_line_origin initial ls t x =
    nat_lt x.origin (length ls) && (line_at ls x.origin).cell == x.cell
    && (line_at ls x.origin).step == t && x.before == initial x.cell

-- the same of a line at hand, over memory that starts at 0: the line has x's cell and this step, and the cell was still 0
abbrev pub opens_touch : ℕ → Touch → Line → Bool
opens_touch t x l = l.cell == x.cell && l.step == t && x.before == 0

pub record StepOrigin (rs : List Row) (t : ℕ) (x : Touch) : Type 0 where
  pub earlier : x.origin < t
  pub touch : IsTouch (row_at rs x.origin)
  pub cell : (touch_of (row_at rs x.origin)).cell ≡ x.cell
  pub after : (touch_of (row_at rs x.origin)).after ≡ x.before
  pub next : (touch_of (row_at rs x.origin)).next ≡ t

-- the row is a touch of x's cell that leaves what x finds and leads on to step t
abbrev pub leads_to : ℕ → Touch → Row → Bool
leads_to t x r =
    test_touch r && (touch_of r).cell == x.cell && (touch_of r).after == x.before && (touch_of r).next == t

abbrev pub test_step_origin : List Row → ℕ → Touch → Bool
test_step_origin rs t x = nat_lt x.origin t && leads_to t x (row_at rs x.origin)

-- RULE 32

pub record LedOn (rs : List Row) (t n : ℕ) : Type 0 where
  pub later : t < n
  pub kind : kind_of (row_at rs n) ≡ 2
  pub back : (touch_of (row_at rs n)).origin ≡ t

abbrev pub NextLink : List Row → ℕ → Touch → Type 0
NextLink rs t x = (x.next ≡ 0) ⊎ LedOn rs t x.next

-- the row is a touch from step t
abbrev pub from_step : ℕ → Row → Bool
from_step t r = kind_of r == 2 && (touch_of r).origin == t

abbrev pub test_next_link : List Row → ℕ → Touch → Bool
test_next_link rs t x = x.next == 0 || (nat_lt t x.next && from_step t (row_at rs x.next))

-- ALL LINES AND ROWS

-- what is asked of row t, by its kind
abbrev pub RowLinks : (ℕ → ℕ) → List Row → List Line → ℕ → Row → Type 0
RowLinks initial rs ls t Plain = Unit {0}
RowLinks initial rs ls t (FromLine x) = LineOrigin initial ls t x × NextLink rs t x
RowLinks initial rs ls t (FromStep x) = StepOrigin rs t x × NextLink rs t x
RowLinks initial rs ls t (Advice w) = Unit {0}
RowLinks initial rs ls t AdviceEnd = Unit {0}

pub record Linked (initial : ℕ → ℕ) (rs : List Row) (ls : List Line) : Type 0 where
  pub order : (j : ℕ) → j < length ls → LineOrder ls j
  pub step : (j : ℕ) → j < length ls → LineStep rs ls j
  pub row : (t : ℕ) → 1 ≤ t → t ≤ length rs → RowLinks initial rs ls t (row_at rs t)

abbrev pub line_finding : List Row → List Line → ℕ → ℕ
line_finding rs ls j = cond (test_line_order ls j) (cond (test_line_step rs j (line_at ls j)) 0 25) 24

abbrev pub link_finding : (ℕ → ℕ) → List Row → List Line → ℕ → Row → ℕ
link_finding initial rs ls t Plain = 0
link_finding initial rs ls t (FromLine x) = cond (test_line_origin initial ls t x) (cond (test_next_link rs t x) 0 32) 31
link_finding initial rs ls t (FromStep x) = cond (test_step_origin rs t x) (cond (test_next_link rs t x) 0 32) 31
link_finding initial rs ls t (Advice w) = 0
link_finding initial rs ls t AdviceEnd = 0

-- no line has a finding, and no row
abbrev pub LinesPass : List Row → List Line → Type 0
LinesPass rs ls = (j : ℕ) → j < length ls → line_finding rs ls j ≡ 0

abbrev pub RowsPass : (ℕ → ℕ) → List Row → List Line → Type 0
RowsPass initial rs ls = (i : ℕ) → i < length rs → link_finding initial rs ls (suc i) (row_at rs (suc i)) ≡ 0

pub record NoFinding (initial : ℕ → ℕ) (rs : List Row) (ls : List Line) : Type 0 where
  pub lines : LinesPass rs ls
  pub rows : RowsPass initial rs ls

-- THE THEOREMS

-- rows and lines that keep the rules are the log of what the rows say
abbrev pub Sound : Type 0
Sound = (initial : ℕ → ℕ) (rs : List Row) (ls : List Line) → Linked initial rs ls → IsLog initial rs ls

-- the log of any events keeps the rules, and its rows say these events
abbrev pub Complete : Type 0
Complete = (initial : ℕ → ℕ) (es : List Event) → Aligned es →
    Linked initial (log_rows initial es) (log_lines es) × (events_of (log_rows initial es) ≡ es)

-- what the steps show decides rows and lines
abbrev pub Unique : Type 0
Unique = (initial : ℕ → ℕ) (rs rs' : List Row) (ls ls' : List Line) → Linked initial rs ls → Linked initial rs' ls' →
    events_of rs ≡ events_of rs' → (rs ≡ rs') × (ls ≡ ls')

-- the tests decide the rules
abbrev pub Decided : Type 0
Decided = (initial : ℕ → ℕ) (rs : List Row) (ls : List Line) →
    (NoFinding initial rs ls → Linked initial rs ls) × (Linked initial rs ls → NoFinding initial rs ls)
