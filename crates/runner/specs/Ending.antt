-- How the run of a program ends, and what its log says of each cell at the end.
--
--   `answer_at p primary aux i`     what step i + 1 answers, if it does
--   `ending p primary aux b`        the answer of the run of at most b steps, and the step that gives it
--   `steps_in b e`                  how many steps a run has made that ended so
--   `entry_of es l`                 a line's cell and step, with the cell's last touch and what it holds after the events es
--   `cells_of p primary aux T`      these entries of the run of T steps, by rising cell
--   `run_of p primary aux b`        the answer, and how many cells were touched
--
-- Assumes nothing.
use Rattle.std.specs.Prelude.{ℕ, zero, suc, List, map, length, Some, None, Option}
use Rattle.encoding.specs.declared.instruction.Instruction.{Instruction}
use Rattle.machine.specs.declared.step.Demand.{Demand}
use Rattle.machine.specs.declared.step.Demand.TheVariants.{Nothing, Cell, Primary, Advice, Halt}
use Rattle.dossier.specs.declared.record.Line.{Line}
use Rattle.run_log.specs.Log.{Event, zeroed, touch_before, memory, log_lines}
use Rattle.tinyram.specs.Program.{demand, cpu_at, events_in, lines_of}
use Rattle.index.specs.declared.entry.CellEntry.{CellEntry}
use Rattle.runner.specs.declared.ending.Answered.{Answered}
use Rattle.runner.specs.declared.ending.Run.{Run}

abbrev pub halted : Demand → Option ℕ
halted Nothing = None
halted (Cell c) = None
halted Primary = None
halted Advice = None
halted (Halt v) = Some v

abbrev pub ended_by : Option ℕ → ℕ → Option Answered → Option Answered
ended_by None t e = e
ended_by (Some v) t e = Some (record { value = v; step = t })

abbrev pub steps_in : ℕ → Option Answered → ℕ
steps_in b (Some a) = a.step
steps_in b None = b

abbrev pub entry_of : List Event → Line → CellEntry
entry_of es l = record {
  cell = l.cell;
  first = l.step;
  last = touch_before es l.cell (suc (length es));
  value = memory zeroed es l.cell (suc (length es));
}

abbrev pub log_cells : List Event → List CellEntry
log_cells es = map (entry_of es) (log_lines es)

module _ (p : List Instruction) (primary aux : List ℕ) where
  abbrev pub answer_at : ℕ → Option ℕ
  answer_at i = halted (demand p (cpu_at p primary aux i))

  -- the ending after the first i steps, of which none has answered, with k more steps at most
  abbrev pub end_from : ℕ → ℕ → Option Answered
  end_from i zero = None
  end_from i (suc k) = ended_by (answer_at i) (suc i) (end_from (suc i) k)

  abbrev pub ending : ℕ → Option Answered
  ending b = end_from 0 b

  abbrev pub steps_made : ℕ → ℕ
  steps_made b = steps_in b (ending b)

  abbrev pub cells_of : ℕ → List CellEntry
  cells_of T = log_cells (events_in p primary aux T)

  abbrev pub run_of : ℕ → Run
  run_of b = record { answer = ending b; cells = length (lines_of p primary aux (steps_made b)) }
