-- What a run has filled.
--
--   `Beyond n xs ys`                    ys is as xs was from place n on
--   `Filling ev mem B T n x rows cells` tables and index after T steps that showed the events ev, left the memory mem
--                                       and touched n cells, with room for B steps
--   `config_at i T`                     the run's state, memory and unread tape after T steps
--   `Quiet ws s g a d`                  a step that asks d shows nothing, gets g and answers a
--   `Logged i r x ..`                   the run has ended as r says
--
-- Assumes nothing.
use Rattle.std.specs.Prelude.{◌≡◌, ℕ, ◌≤◌, List, length, Some, None, Option, slice_index_or}
use Rattle.machine.specs.declared.cpu.Cpu.{Cpu}
use Rattle.machine.specs.declared.step.Demand.{Demand}
use Rattle.machine.specs.declared.step.Demand.TheVariants.{Nothing, Cell, Primary, Advice, Halt}
use Rattle.dossier.specs.declared.record.Row.{Row}
use Rattle.run_log.specs.Log.{Event}
use Rattle.run_log.specs.Rules.{row_at}
use Rattle.run_log.specs.Run.{Machine, Config, after, shown_at}
use Rattle.tinyram.specs.Program.{tinyram, word_at}
use Rattle.index.specs.declared.entry.CellEntry.{CellEntry}
use Rattle.index.specs.declared.tree.Index.{Index}
use Rattle.index.specs.Tree.{none}
use Rattle.index.specs.Map.{Keeps, RoomFor}
use Rattle.runner.specs.declared.ending.Run.{Run}
use Rattle.runner.specs.declared.job.Job.{Job}
use Rattle.runner.specs.Ending.{ending, steps_in}
use Rattle.runner.specs.Sofar.{Sofar, Holds}

abbrev pub entry_at : List CellEntry → ℕ → CellEntry
entry_at es k = slice_index_or es k none

pub record Beyond {X : Type 0} (n : ℕ) (xs ys : List X) : Type 0 where
  pub long : length ys ≡ length xs
  pub same : (k : ℕ) (d : X) → n ≤ k → slice_index_or ys k d ≡ slice_index_or xs k d

pub record Filling (ev : ℕ → Event) (mem : ℕ → ℕ) (B T n : ℕ) (x : Index) (rows : List Row) (cells : List CellEntry) : Type 0 where
  pub sofar : Sofar ev T n (row_at rows) (entry_at cells)
  pub holds : Holds mem n (entry_at cells)
  pub keeps : Keeps x cells n
  pub room : RoomFor x B
  pub few : n ≤ T
  pub row_room : B ≤ length rows
  pub cell_room : B ≤ length cells
  pub short : B ≤ 1000000

-- THE RUN

abbrev pub machine_of : Job → Machine Cpu
machine_of i = tinyram i.program.now i.primary.now

abbrev pub config_at : Job → ℕ → Config Cpu
config_at i T = after (machine_of i) i.auxiliary.now T

abbrev pub event_of_step : Job → ℕ → Event
event_of_step i T = shown_at (machine_of i) i.auxiliary.now T

abbrev pub Quiet : List ℕ → Cpu → Option ℕ → Option ℕ → Demand → Type 0
Quiet ws s g a Nothing = (g ≡ None) × (a ≡ None)
Quiet ws s g a (Cell c) = ⊥
Quiet ws s g a Primary = (g ≡ word_at ws s.place) × (a ≡ None)
Quiet ws s g a Advice = ⊥
Quiet ws s g a (Halt v) = (g ≡ None) × (a ≡ Some v)

pub record Logged (i : Job) (r : Run) (x : Index) (rows rows' : List Row) (cells cells' : List CellEntry) : Type 0 where
  pub ends : r.answer ≡ ending i.program.now i.primary.now i.auxiliary.now i.bound
  pub made : steps_in i.bound r.answer ≤ i.bound
  pub filling : Filling (event_of_step i) (config_at i (steps_in i.bound r.answer)).memory i.bound (steps_in i.bound r.answer) r.cells x rows' cells'
  pub beyond : Beyond (steps_in i.bound r.answer) rows rows'
  pub past : Beyond r.cells cells cells'
