-- The run of a program on primary words and an auxiliary tape, and the log of it.
-- It is the run of a machine with memory and an advice tape, which is the auxiliary tape.
--
--   `tinyram p primary`             the machine
--   `cpu_at p primary aux i`        its state after i steps
--   `executed p primary aux i`      the operation of step i + 1
--   `AcceptsIn p primary aux T`     step T executes `answer 0`, and no step before it answers
--   `rows_of p primary aux T`       the log of T steps: its rows
--   `lines_of p primary aux T`      and its opening lines
--   `LogsRun p primary aux rs ls`   rows and lines are the log of the run up to the step that executes `answer 0`
--   `Keeps p primary rs ls`         rows and lines keep all rules of links and of steps
--
-- Assumes nothing.
use Rattle.std.specs.Prelude.{◌≡◌, ℕ, suc, ◌<◌, ◌≤◌, cond, List, length, Some, None, Option, ◌≢◌, nat_lt, slice_index}
use Rattle.encoding.specs.declared.instruction.Instruction.{Instruction}
use Rattle.encoding.specs.declared.operation.Operand.{Operand}
use Rattle.encoding.specs.declared.operation.Operation.{Operation}
use Rattle.encoding.specs.declared.operation.Operation.TheVariants.{Answer}
use Rattle.machine.specs.declared.cpu.Cpu.{Cpu}
use Rattle.machine.specs.declared.step.Demand.{Demand}
use Rattle.machine.specs.declared.step.Demand.TheVariants.{Nothing, Cell, Primary, Advice, Halt}
use Rattle.machine.specs.State.{start, value_of}
use Rattle.machine.specs.Effects.{fetched, asked, left, stepped}
use Rattle.dossier.specs.declared.record.Row.{Row}
use Rattle.dossier.specs.declared.record.Line.{Line}
use Rattle.run_log.specs.Log.{Event, zeroed, log_rows, log_lines}
use Rattle.run_log.specs.Rules.{Linked}
use Rattle.run_log.specs.Run.{alone, advice, access, answer, Machine, after, trace, Accepts, advice_of, Fits}
use Rattle.run_log.specs.Run as run
use Rattle.run_log.specs.Words.{Exactly}

-- THE MACHINE

-- what a step asks of memory and of the auxiliary tape; primary words it has at hand
abbrev pub outside : Demand → run.Demand
outside Nothing = alone
outside (Cell c) = access c
outside Primary = alone
outside Advice = advice
outside (Halt v) = answer v

abbrev pub word_at : List ℕ → ℕ → Option ℕ
word_at ws i = cond (nat_lt i (length ws)) (Some (slice_index ws i)) None

-- what the step gets, where g comes from memory or from the auxiliary tape
abbrev pub supplied : List ℕ → Cpu → Demand → Option ℕ → Option ℕ
supplied primary s Nothing g = g
supplied primary s (Cell c) g = g
supplied primary s Primary g = word_at primary s.place
supplied primary s Advice g = g
supplied primary s (Halt v) g = g

abbrev pub operation : List Instruction → Cpu → Operation
operation p s = fetched p s.pc

abbrev pub demand : List Instruction → Cpu → Demand
demand p s = asked (operation p s) s

abbrev pub tinyram : List Instruction → List ℕ → Machine Cpu
tinyram p primary = record {
  start = start;
  initial = zeroed;
  asks = λ s. outside (demand p s);
  makes = λ s g. stepped (operation p s) (supplied primary s (demand p s) g) s;
  leaves = λ s n. left (operation p s) s n;
}

-- THE RUN

module _ (p : List Instruction) (primary aux : List ℕ) where
  abbrev pub cpu_at : ℕ → Cpu
  cpu_at i = (after (tinyram p primary) aux i).state

  abbrev pub executed : ℕ → Operation
  executed i = operation p (cpu_at i)

  pub record AcceptsIn (T : ℕ) : Type 0 where
    pub some : 1 ≤ T
    pub last : (i : ℕ) → suc i ≡ T → (a : Operand) × (executed i ≡ Answer a) × (value_of (cpu_at i) a ≡ 0)
    pub before : (i : ℕ) (a : Operand) → suc i < T → executed i ≢ Answer a

  abbrev pub events_in : ℕ → List Event
  events_in T = trace (tinyram p primary) aux T

  abbrev pub rows_of : ℕ → List Row
  rows_of T = log_rows zeroed (events_in T)

  abbrev pub lines_of : ℕ → List Line
  lines_of T = log_lines (events_in T)

  pub record LogsRun (rs : List Row) (ls : List Line) : Type 0 where
    pub rows : rs ≡ rows_of (length rs)
    pub lines : ls ≡ lines_of (length rs)
    pub accepts : AcceptsIn (length rs)

-- THE THEOREMS

pub record Keeps (p : List Instruction) (primary : List ℕ) (rs : List Row) (ls : List Line) : Type 0 where
  pub links : Linked zeroed rs ls
  pub steps : Fits (tinyram p primary) rs

-- a machine accepts as the program does
abbrev pub Accepting : Type 0
Accepting = (p : List Instruction) (primary aux : List ℕ) (T : ℕ) → Exactly (AcceptsIn p primary aux T) (Accepts (tinyram p primary) aux T)

-- rows and lines that keep all rules log an accepting run on the tape of their advice words
abbrev pub ProgramSound : Type 0
ProgramSound = (p : List Instruction) (primary : List ℕ) (rs : List Row) (ls : List Line) →
    Keeps p primary rs ls → LogsRun p primary (advice_of rs) rs ls

-- every log of an accepting run keeps all rules
abbrev pub ProgramComplete : Type 0
ProgramComplete = (p : List Instruction) (primary aux : List ℕ) (rs : List Row) (ls : List Line) →
    LogsRun p primary aux rs ls → Keeps p primary rs ls

-- an accepting run has a log
abbrev pub ProgramLogged : Type 0
ProgramLogged = (p : List Instruction) (primary aux : List ℕ) (T : ℕ) →
    AcceptsIn p primary aux T → LogsRun p primary aux (rows_of p primary aux T) (lines_of p primary aux T)

-- the log of T steps has T rows, and at most T lines
abbrev pub ProgramCounts : Type 0
ProgramCounts = (p : List Instruction) (primary aux : List ℕ) (T : ℕ) →
    (length (rows_of p primary aux T) ≡ T) × (length (lines_of p primary aux T) ≤ T)

-- equal advice words make equal logs
abbrev pub ProgramUnique : Type 0
ProgramUnique = (p : List Instruction) (primary aux aux' : List ℕ) (rs rs' : List Row) (ls ls' : List Line) →
    LogsRun p primary aux rs ls → LogsRun p primary aux' rs' ls' → advice_of rs ≡ advice_of rs' → (rs ≡ rs') × (ls ≡ ls')
