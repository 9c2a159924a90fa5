-- What a run answers, and what it leaves in the tables.
--
--   `Answers r e a`                          the refusal e if there is one; otherwise the run a, or want of memory
--   `rows_after p primary aux b r rows`      the row table after a run that answers r: the log's rows, and what stays
--   `cells_after p primary aux b r cells`    the cell table likewise
--
-- A refusal leaves both tables. Assumes nothing.
use Rattle.std.specs.Prelude.{◌≡◌, ℕ, ◌⊎◌, List, ◌++◌, drop, Some, None, Ok, Err, Option, Result}
use Rattle.encoding.specs.declared.instruction.Instruction.{Instruction}
use Rattle.dossier.specs.declared.record.Row.{Row}
use Rattle.tinyram.specs.Program.{rows_of}
use Rattle.index.specs.declared.entry.CellEntry.{CellEntry}
use Rattle.runner.specs.declared.ending.Run.{Run}
use Rattle.runner.specs.declared.refusal.RunRefusal.{RunRefusal}
use Rattle.runner.specs.declared.refusal.RunRefusal.TheVariants.{OutOfMemory}
use Rattle.runner.specs.Ending.{steps_in, cells_of}

abbrev pub Answers : Result Run RunRefusal → Option RunRefusal → Run → Type 0
Answers r (Some e) a = r ≡ Err e
Answers r None a = (r ≡ Ok a) ⊎ (r ≡ Err OutOfMemory)

module _ (p : List Instruction) (primary aux : List ℕ) (b : ℕ) where
  abbrev pub rows_after : Result Run RunRefusal → List Row → List Row
  rows_after (Ok a) rows = rows_of p primary aux (steps_in b a.answer) ++ drop (steps_in b a.answer) rows
  rows_after (Err e) rows = rows

  abbrev pub cells_after : Result Run RunRefusal → List CellEntry → List CellEntry
  cells_after (Ok a) cells = cells_of p primary aux (steps_in b a.answer) ++ drop a.cells cells
  cells_after (Err e) cells = cells
