-- The first touches get the numbers of their lines as origins.
--
--   `with_line j r`                a first touch's row, with origin j
--   `first_of es j`                the first step of entry j
--   `Openings n T first`           n steps inside a run of T steps, no two of them the same
--   `Labelled n first row row'`    row' has the line j as origin at the step of the j-th of n first touches, and is row elsewhere
--
-- Assumes nothing.
use Rattle.std.specs.Prelude.{◌≡◌, ℕ, ◌<◌, ◌≤◌, List, ◌≢◌, slice_index_or}
use Rattle.dossier.specs.declared.record.Row.{Row}
use Rattle.dossier.specs.declared.record.Row.TheVariants.{Plain, FromLine, FromStep, Advice, AdviceEnd}
use Rattle.index.specs.declared.entry.CellEntry.{CellEntry}
use Rattle.index.specs.Tree.{none}

abbrev pub with_line : ℕ → Row → Row
with_line j Plain = Plain
with_line j (FromLine x) = FromLine (record { cell = x.cell; before = x.before; after = x.after; origin = j; next = x.next })
with_line j (FromStep x) = FromStep x
with_line j (Advice w) = Advice w
with_line j AdviceEnd = AdviceEnd

abbrev pub first_of : List CellEntry → ℕ → ℕ
first_of es j = (slice_index_or es j none).first

pub record Openings (n T : ℕ) (first : ℕ → ℕ) : Type 0 where
  pub above : (j : ℕ) → j < n → 1 ≤ first j
  pub inside : (j : ℕ) → j < n → first j ≤ T
  pub apart : (i j : ℕ) → i < n → j < n → first i ≡ first j → i ≡ j

pub record Labelled (n : ℕ) (first : ℕ → ℕ) (row row' : ℕ → Row) : Type 0 where
  pub done : (j : ℕ) → j < n → row' (first j) ≡ with_line j (row (first j))
  pub rest : (t : ℕ) → ((j : ℕ) → j < n → first j ≢ t) → row' t ≡ row t
