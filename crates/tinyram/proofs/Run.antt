-- The theorems of runs, for programs.
-- Assumes nothing.
use Rattle.std.proofs.Common.{◌≡◌, ℕ, Bool, true, false, cond, eqb, List, length, refl, ap, ◌∙◌, arith}
use Rattle.encoding.specs.declared.instruction.Instruction.{Instruction}
use Rattle.encoding.specs.declared.operation.Operand.{Operand}
use Rattle.encoding.specs.declared.operation.Operation.{Operation}
use Rattle.encoding.specs.declared.operation.Operation.TheVariants.{Compute, Not, Compare, Move, MoveIfFlag, Jump, Store, Load, Read, Answer}
use Rattle.machine.specs.declared.cpu.Cpu.{Cpu}
use Rattle.machine.specs.declared.step.Demand.TheVariants.{Nothing, Primary, Advice}
use Rattle.machine.specs.State.{value_of}
use Rattle.machine.specs.Effects.{asked}
use Rattle.word.specs.Cell.{cell_of}
use Rattle.dossier.specs.declared.record.Row.{Row}
use Rattle.dossier.specs.declared.record.Line.{Line}
use Rattle.run_log.specs.Run.{alone, advice, access, answer, Fourths, Accepts, Logs, advice_of}
use Rattle.run_log.specs.Run as run
use Rattle.run_log.proofs.RunSound.{run_sound}
use Rattle.run_log.proofs.RunComplete.{run_complete, run_unique, run_logged}
use Rattle.tinyram.specs.Program.{outside, operation, tinyram, cpu_at, executed, AcceptsIn, LogsRun}
use Rattle.tinyram.specs.Program.{Accepting, ProgramSound, ProgramComplete, ProgramLogged, ProgramUnique}

-- WHAT A STEP ASKS

-- a `read` asks for no cell, and does not answer
tape_asks : (b b' : Bool) (P : run.Demand → Type 0) → P alone → P advice → P (outside (cond b Primary (cond b' Advice Nothing)))
tape_asks true b' P x y = x
tape_asks false true P x y = y
tape_asks false false P x y = x

-- every operation has one operand
abbrev pub operand_in : Operation → Operand
operand_in (Compute b i j a) = a
operand_in (Not i a) = a
operand_in (Compare b j a) = a
operand_in (Move i a) = a
operand_in (MoveIfFlag i a) = a
operand_in (Jump w a) = a
operand_in (Store z i a) = a
operand_in (Load z i a) = a
operand_in (Read i a) = a
operand_in (Answer a) = a

-- the cell that is asked for is the operand's
pub cell_asked : (o : Operation) (s : Cpu) (c : ℕ) → outside (asked o s) ≡ access c → c ≡ cell_of (value_of s (operand_in o))
cell_asked (Compute b i j a) s c e = absurd (cc)
cell_asked (Not i a) s c e = absurd (cc)
cell_asked (Compare b j a) s c e = absurd (cc)
cell_asked (Move i a) s c e = absurd (cc)
cell_asked (MoveIfFlag i a) s c e = absurd (cc)
cell_asked (Jump w a) s c e = absurd (cc)
cell_asked (Store z i a) s c e = cc
cell_asked (Load z i a) s c e = cc
cell_asked (Read i a) s c e =
    absurd (tape_asks (eqb (value_of s a) 0) (eqb (value_of s a) 1) (λ d. d ≡ access c → ⊥)
    (λ e. cc) (λ e. cc) e)
cell_asked (Answer a) s c e = absurd (cc)

-- only `answer` answers
answer_asked : (o : Operation) (s : Cpu) (v : ℕ) → outside (asked o s) ≡ answer v → (a : Operand) × (o ≡ Answer a) × (value_of s a ≡ v)
answer_asked (Compute b i j a) s v e = absurd (cc)
answer_asked (Not i a) s v e = absurd (cc)
answer_asked (Compare b j a) s v e = absurd (cc)
answer_asked (Move i a) s v e = absurd (cc)
answer_asked (MoveIfFlag i a) s v e = absurd (cc)
answer_asked (Jump w a) s v e = absurd (cc)
answer_asked (Store z i a) s v e = absurd (cc)
answer_asked (Load z i a) s v e = absurd (cc)
answer_asked (Read i a) s v e =
    absurd (tape_asks (eqb (value_of s a) 0) (eqb (value_of s a) 1) (λ d. d ≡ answer v → ⊥)
    (λ e. cc) (λ e. cc) e)
answer_asked (Answer a) s v e = let k : value_of s a ≡ v = cc in (a, refl, k)

pub fourths : (p : List Instruction) (primary : List ℕ) → Fourths (tinyram p primary)
fourths p primary s c e = let k = cell_asked (operation p s) s c e in omega arith

-- ACCEPTANCE

module _ (p : List Instruction) (primary aux : List ℕ) where
  pub from_machine : (T : ℕ) → Accepts (tinyram p primary) aux T → AcceptsIn p primary aux T
  from_machine T h = record {
    some = h.some;
    last = λ i e. answer_asked (executed p primary aux i) (cpu_at p primary aux i) 0 (h.last i e);
    before = λ i a l e. h.before i (value_of (cpu_at p primary aux i) a) l (ap (λ o. outside (asked o (cpu_at p primary aux i))) e);
  }

  pub to_machine : (T : ℕ) → AcceptsIn p primary aux T → Accepts (tinyram p primary) aux T
  to_machine T h = record {
    some = h.some;
    last = λ i e. let k = h.last i e in ap (λ o. outside (asked o (cpu_at p primary aux i))) k.1 ∙ ap answer k.2;
    before = λ i v l e. let k = answer_asked (executed p primary aux i) (cpu_at p primary aux i) v e in h.before i k.0 l k.1;
  }

  from_logs : (rs : List Row) (ls : List Line) → Logs (tinyram p primary) rs ls aux → LogsRun p primary aux rs ls
  from_logs rs ls l = record { rows = l.rows; lines = l.lines; accepts = from_machine (length rs) l.accepts }

  to_logs : (rs : List Row) (ls : List Line) → LogsRun p primary aux rs ls → Logs (tinyram p primary) rs ls aux
  to_logs rs ls l = record { rows = l.rows; lines = l.lines; accepts = to_machine (length rs) l.accepts }

pub accepting : Accepting
accepting p primary aux T = (to_machine p primary aux T, from_machine p primary aux T)

-- THE THEOREMS

pub program_sound : ProgramSound
program_sound p primary rs ls k = from_logs p primary (advice_of rs) rs ls (run_sound Cpu (tinyram p primary) rs ls k.links k.steps)

pub program_complete : ProgramComplete
program_complete p primary aux rs ls l =
    let k = run_complete Cpu (tinyram p primary) (fourths p primary) rs ls aux (to_logs p primary aux rs ls l) in
    record { links = k.0; steps = k.1 }

pub program_logged : ProgramLogged
program_logged p primary aux T a =
    from_logs p primary aux _ _ (run_logged Cpu (tinyram p primary) aux T (to_machine p primary aux T a)).0

pub program_unique : ProgramUnique
program_unique p primary aux aux' rs rs' ls ls' l l' e =
    run_unique Cpu (tinyram p primary) (fourths p primary) rs rs' ls ls' aux aux' (to_logs p primary aux rs ls l) (to_logs p primary aux' rs' ls' l') e
