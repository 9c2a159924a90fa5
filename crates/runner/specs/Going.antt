-- A run that is being logged, from step to step.
--
--   `made s by got row`     the log s after a step by this operation, which got this word or none and has this row
--   `At i T n cpu ws ..`    the run of i after T steps: its state, the words ws that it left, and what it has filled
--   `Going s`               the run is at s
--   `Onward s r a`          one step more takes it from s to r, and answers a
--   `Finished s r a`        the run at s, which is the start, has ended at r
--
-- Assumes nothing.
use Rattle.std.specs.Prelude.{◌≡◌, ℕ, ◌+◌, ◌≤◌, List, Option, slice_set}
use Rattle.encoding.specs.declared.operation.Operation.{Operation}
use Rattle.machine.specs.declared.cpu.Cpu.{Cpu}
use Rattle.machine.specs.Effects.{stepped}
use Rattle.dossier.specs.declared.record.Row.{Row}
use Rattle.index.specs.declared.entry.CellEntry.{CellEntry}
use Rattle.index.specs.declared.tree.Index.{Index}
use Rattle.runner.specs.declared.ending.Answered.{Answered}
use Rattle.runner.specs.declared.job.Job.{Job}
use Rattle.runner.specs.declared.log.Log.{Log}
use Rattle.runner.specs.Ending.{answer_at}
use Rattle.runner.specs.Filling.{Beyond, Filling, config_at, event_of_step, Logged}

abbrev pub made : Log → Operation → Option ℕ → Row → Log
made s by got row = record s {
  rows = record s.rows { now = slice_set s.rows.now s.steps row };
  steps = s.steps + 1;
  cpu = stepped by got s.cpu;
}

pub record At (i : Job) (T n : ℕ) (cpu : Cpu) (ws : List ℕ) (x : Index) (rows : List Row) (cells : List CellEntry) : Type 0 where
  pub state : cpu ≡ (config_at i T).state
  pub tape : ws ≡ (config_at i T).tape
  pub filling : Filling (event_of_step i) (config_at i T).memory i.bound T n x rows cells

abbrev pub Going : Log → Type 0
Going s = At s.job s.steps s.touched s.cpu s.unread.now s.index.now s.rows.now s.cells.now

-- the same run into the same tables
pub record SameRun (s r : Log) : Type 0 where
  pub job : r.job ≡ s.job
  pub rows : r.rows.ghost_name ≡ s.rows.ghost_name
  pub cells : r.cells.ghost_name ≡ s.cells.ghost_name
  pub index : r.index.ghost_name ≡ s.index.ghost_name

pub record Onward (s r : Log) (a : Option ℕ) : Type 0 where
  pub same : SameRun s r
  pub going : Going r
  pub steps : r.steps ≡ s.steps + 1
  pub answer : a ≡ answer_at s.job.program.now s.job.primary.now s.job.auxiliary.now s.steps
  pub beyond : Beyond r.steps s.rows.now r.rows.now
  pub past : Beyond r.touched s.cells.now r.cells.now
  pub grown : s.touched ≤ r.touched

pub record Finished (s r : Log) (a : Option Answered) : Type 0 where
  pub same : SameRun s r
  pub logged : Logged s.job (record { answer = a; cells = r.touched }) r.index.now s.rows.now r.rows.now s.cells.now r.cells.now
