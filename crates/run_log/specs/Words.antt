-- The log once more, as relations in words; the theorem says that the definitions compute them.
--
--   `Exactly P Q`                  P holds exactly when Q does
--   `IsLast p t s`, `IsNext p t s` s is the last number below t, the first above t, that passes
--   `IsFirst es c s`               step s is the first that touches cell c
--   `Before es c t s`              s is the last earlier step that touches c, or 0 where there is none
--   `After es c t s`               s is the next later step that touches c, or 0 where there is none
--   `Holds initial es c t v`       v is what the last earlier touch of c left, or its initial value
--   `Opens es ls`                  one line for each cell touched, by rising cell, with the step of its first touch
--   `Records initial es ls t r`    row r is what the log has of step t
--   `InRows initial es ls rs`      the rows are that, one for each step
--
-- Assumes nothing.
use Rattle.std.specs.Prelude.{◌≡◌, ℕ, ◌<◌, ◌≤◌, Bool, true, false, ◌⊎◌, List, length}
use Rattle.dossier.specs.declared.record.Row.{Row}
use Rattle.dossier.specs.declared.record.Row.TheVariants.{Plain, FromLine, FromStep, Advice, AdviceEnd}
use Rattle.dossier.specs.declared.record.Touch.{Touch}
use Rattle.dossier.specs.declared.record.Line.{Line}
use Rattle.run_log.specs.Log.{Event, quiet, word, ended, touch, event_at, left, touches, memory, touch_before, touch_after, log_lines, log_rows}
use Rattle.run_log.specs.Rules.{row_at, line_at}

abbrev pub Exactly : Type 0 → Type 0 → Type 0
Exactly P Q = (P → Q) × (Q → P)

-- TOUCHES OF A CELL

pub record IsLast (p : ℕ → Bool) (t s : ℕ) : Type 0 where
  pub hit : p s ≡ true
  pub earlier : s < t
  pub none : (u : ℕ) → s < u → u < t → p u ≡ false

pub record IsNext (p : ℕ → Bool) (t s : ℕ) : Type 0 where
  pub hit : p s ≡ true
  pub later : t < s
  pub none : (u : ℕ) → t < u → u < s → p u ≡ false

pub record IsFirst (es : List Event) (c s : ℕ) : Type 0 where
  pub hit : touches es c s ≡ true
  pub none : (u : ℕ) → u < s → touches es c u ≡ false

-- no step before t touches c, and none after t
abbrev pub NoneBefore : List Event → ℕ → ℕ → Type 0
NoneBefore es c t = (u : ℕ) → u < t → touches es c u ≡ false

abbrev pub NoneAfter : List Event → ℕ → ℕ → Type 0
NoneAfter es c t = (u : ℕ) → t < u → touches es c u ≡ false

abbrev pub Before : List Event → ℕ → ℕ → ℕ → Type 0
Before es c t s = ((s ≡ 0) × NoneBefore es c t) ⊎ IsLast (touches es c) t s

abbrev pub After : List Event → ℕ → ℕ → ℕ → Type 0
After es c t s = ((s ≡ 0) × NoneAfter es c t) ⊎ IsNext (touches es c) t s

abbrev pub Holds : (ℕ → ℕ) → List Event → ℕ → ℕ → ℕ → Type 0
Holds initial es c t v =
    ((v ≡ initial c) × NoneBefore es c t) ⊎ ((s : ℕ) × IsLast (touches es c) t s × (v ≡ left (event_at es s)))

-- OPENING LINES

abbrev pub Rising : List Line → Type 0
Rising ls = (i j : ℕ) → i < j → j < length ls → (line_at ls i).cell < (line_at ls j).cell

-- line j is the line of cell c
abbrev pub LineFor : ℕ → List Line → ℕ → Type 0
LineFor c ls j = (j < length ls) × ((line_at ls j).cell ≡ c)

pub record Opens (es : List Event) (ls : List Line) : Type 0 where
  pub rising : Rising ls
  pub each : (j : ℕ) → j < length ls → IsFirst es (line_at ls j).cell (line_at ls j).step
  pub all : (c s : ℕ) → touches es c s ≡ true → (j : ℕ) × LineFor c ls j

-- ROWS

-- what both kinds of touch have
pub record Recorded (initial : ℕ → ℕ) (es : List Event) (t : ℕ) (x : Touch) : Type 0 where
  pub shown : event_at es t ≡ touch x.cell x.after
  pub before : Holds initial es x.cell t x.before
  pub next : After es x.cell t x.next

abbrev pub Records : (ℕ → ℕ) → List Event → List Line → ℕ → Row → Type 0
Records initial es ls t Plain = event_at es t ≡ quiet
Records initial es ls t (FromLine x) = Recorded initial es t x × NoneBefore es x.cell t × LineFor x.cell ls x.origin
Records initial es ls t (FromStep x) = Recorded initial es t x × IsLast (touches es x.cell) t x.origin
Records initial es ls t (Advice w) = event_at es t ≡ word w
Records initial es ls t AdviceEnd = event_at es t ≡ ended

-- a row for each step, and no other
pub record InRows (initial : ℕ → ℕ) (es : List Event) (ls : List Line) (rs : List Row) : Type 0 where
  pub count : length rs ≡ length es
  pub each : (t : ℕ) → 1 ≤ t → t ≤ length es → Records initial es ls t (row_at rs t)

-- THE THEOREM

pub record InWords (initial : ℕ → ℕ) (es : List Event) : Type 0 where
  pub before : (c t s : ℕ) → Exactly (s ≡ touch_before es c t) (Before es c t s)
  pub after : (c t s : ℕ) → Exactly (s ≡ touch_after es c t) (After es c t s)
  pub holds : (c t v : ℕ) → Exactly (v ≡ memory initial es c t) (Holds initial es c t v)
  pub lines : (ls : List Line) → Exactly (ls ≡ log_lines es) (Opens es ls)
  pub rows : (rs : List Row) → Exactly (rs ≡ log_rows initial es) (InRows initial es (log_lines es) rs)

abbrev pub Worded : Type 0
Worded = (initial : ℕ → ℕ) (es : List Event) → InWords initial es
