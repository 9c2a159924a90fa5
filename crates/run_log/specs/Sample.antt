-- The log of a small run, by computation: an advice word 7 is stored in cell 8 and loaded again.
--
--   `sample_events`, `sample_rows`, `sample_lines`  the run's events, and its log
--   `rows_with n`, `lines_with s`                   the same with row 2's next n, and with the line's step s
--
-- Assumes nothing.
use Rattle.std.specs.Prelude.{◌≡◌, ℕ, List, [], ◌∷◌}
use Rattle.dossier.specs.declared.record.Row.{Row}
use Rattle.dossier.specs.declared.record.Row.TheVariants.{Plain, FromLine, FromStep, Advice}
use Rattle.dossier.specs.declared.record.Line.{Line}
use Rattle.run_log.specs.Log.{Event, quiet, word, touch, zeroed, log_rows, log_lines}
use Rattle.run_log.specs.Rules.{row_at, line_finding, link_finding}

abbrev pub sample_events : List Event
sample_events = word 7 ∷ touch 8 7 ∷ touch 8 7 ∷ quiet ∷ quiet ∷ quiet ∷ []

-- the rows, where row 2 leads on to step `next`
abbrev pub rows_with : ℕ → List Row
rows_with next =
    Advice 7 ∷ FromLine (record { cell = 8; before = 0; after = 7; origin = 0; next = next })
    ∷ FromStep (record { cell = 8; before = 7; after = 7; origin = 2; next = 0 }) ∷ Plain ∷ Plain ∷ Plain ∷ []

abbrev pub lines_with : ℕ → List Line
lines_with step = record { cell = 8; step = step } ∷ []

abbrev pub sample_rows : List Row
sample_rows = rows_with 3

abbrev pub sample_lines : List Line
sample_lines = lines_with 2

pub record Sample : Type 0 where
  pub rows : log_rows zeroed sample_events ≡ sample_rows
  pub lines : log_lines sample_events ≡ sample_lines
  -- row 2's next is 0: row 2 keeps the rules, and row 3 breaks rule 31
  pub row2 : link_finding zeroed (rows_with 0) sample_lines 2 (row_at (rows_with 0) 2) ≡ 0
  pub row3 : link_finding zeroed (rows_with 0) sample_lines 3 (row_at (rows_with 0) 3) ≡ 31
  -- the line's step is 3: the line breaks rule 25
  pub line0 : line_finding sample_rows (lines_with 3) 0 ≡ 25
