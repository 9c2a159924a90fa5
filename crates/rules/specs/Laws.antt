-- THE LAWS OF CHECKING, in terms of dossiers, runs, tapes and logs.
--   program m, primary m, lines m, rows m  the records of a dossier
--   Genuine m                              readable throughout, well formed, within limits, and the log of an accepting run on some tape
--   Accepted m                             some list of calls on a new checking makes the close say accepted
--   Acceptance                             accepted exactly when every unit was taken and the dossier is genuine
--   Advancing                              an advance over a genuine dossier finds nothing
--   Existence                              some dossier of a program, tape and bound is accepted exactly when some tape makes the program accept
--   Uniqueness                             accepted dossiers alike in program, primary tape, bound and advice words are equal
-- Assumes nothing.
use Rattle.std.specs.Prelude.{◌≡◌, ℕ, ◌+◌, ◌≤◌, true, List, map, length, Ok, Err}
use Rattle.encoding.specs.declared.instruction.Instruction.{Instruction}
use Rattle.encoding.specs.Formed.{well_formed}
use Rattle.machine.specs.Effects.{answer_one}
use Rattle.dossier.specs.declared.record.Head.{Head}
use Rattle.dossier.specs.declared.record.Line.{Line}
use Rattle.dossier.specs.declared.record.Row.{Row}
use Rattle.dossier.specs.declared.record.Row.TheVariants.{Plain}
use Rattle.dossier.specs.Numbers.{Words, Fit, instruction_numbers}
use Rattle.dossier.specs.Meaning.{Item, Meaning, Made, Readable, Each}
use Rattle.run_log.specs.Run.{advice_of}
use Rattle.run_log.specs.Words.{Exactly}
use Rattle.tinyram.specs.Program.{AcceptsIn, LogsRun}
use Rattle.rules.specs.declared.call.Call.{Call}
use Rattle.rules.specs.declared.call.Advanced.TheVariants as advanced-case
use Rattle.rules.specs.declared.call.Outcome.{Outcome}
use Rattle.rules.specs.declared.call.Outcome.TheVariants as outcome
use Rattle.rules.specs.Course.{after, taken_by, advance_answer, closing}

-- THE RECORDS OF A DOSSIER

-- what stands for an item that is unreadable is of no account: the laws speak of dossiers that are readable throughout
abbrev pub record_or : {R : Type 0} → R → Item R → R
record_or d (Ok r) = r
record_or d (Err l) = d

abbrev pub program : Meaning → List Instruction
program m = map (record_or answer_one) m.instructions

abbrev pub primary : Meaning → List ℕ
primary m = map (record_or 0) m.words

abbrev pub lines : Meaning → List Line
lines m = map (record_or (record { cell = 0; step = 0 })) m.lines

abbrev pub rows : Meaning → List Row
rows m = map (record_or Plain) m.rows

abbrev pub bound : Item Head → ℕ
bound (Ok h) = h.bound
bound (Err l) = 0

abbrev pub every_unit : Meaning → ℕ
every_unit m = length m.instructions + length m.words + length m.lines + length m.rows

-- WHAT A DOSSIER SHOULD BE

abbrev pub Formed : List Instruction → Type 0
Formed p = Each (λ i. well_formed i ≡ true) p

-- a program of L instructions, n primary words and a bound B
pub record Limits (L n B : ℕ) : Type 0 where
  pub some : 1 ≤ L
  pub program : L ≤ 4096
  pub words : n ≤ 4096
  pub once : 1 ≤ B
  pub bound : B ≤ 1000000

-- the same of a head, whose rows are no more than its bound, and its lines no more than its rows
pub record Within (h : Head) : Type 0 where
  pub limits : Limits h.instructions h.words h.bound
  pub some : 1 ≤ h.rows
  pub rows : h.rows ≤ h.bound
  pub lines : h.lines ≤ h.rows

abbrev pub HeadWithin : Item Head → Type 0
HeadWithin (Ok h) = Within h
HeadWithin (Err l) = ⊥

pub record Genuine (m : Meaning) : Type 0 where
  pub readable : Readable m
  pub formed : Formed (program m)
  pub limits : HeadWithin m.head
  pub run : (aux : List ℕ) × Words aux × LogsRun (program m) (primary m) aux (rows m) (lines m)

-- ACCEPTANCE

-- what a close says after the calls cs
pub record Closes (m : Meaning) (cs : List Call) (o : Outcome) : Type 0 where
  pub accepted : Exactly (o ≡ outcome.Accepted (length m.rows)) ((taken_by m cs ≡ every_unit m) × Genuine m)
  pub steps : (T : ℕ) → o ≡ outcome.Accepted T → T ≡ length m.rows

abbrev pub Acceptance : Type 0
Acceptance = (m : Meaning) → Made m → (cs : List Call) → Closes m cs (closing (after m cs))

-- an advance by any k from 1 to the units not yet taken answers k
abbrev pub Advancing : Type 0
Advancing = (m : Meaning) → Made m → Genuine m → (cs : List Call) (k : ℕ) → 1 ≤ k → taken_by m cs + k ≤ every_unit m →
    advance_answer m (after m cs) k ≡ Ok (advanced-case.Took k)

-- EXISTENCE AND UNIQUENESS

abbrev pub Accepted : Meaning → Type 0
Accepted m = (cs : List Call) × (closing (after m cs) ≡ outcome.Accepted (length m.rows))

-- a dossier of this program, these primary words and this bound
pub record Of (m : Meaning) (p : List Instruction) (ws : List ℕ) (B : ℕ) : Type 0 where
  pub made : Made m
  pub program : m.instructions ≡ map Ok p
  pub primary : m.words ≡ map Ok ws
  pub bound : bound m.head ≡ B

abbrev pub Existence : Type 0
Existence = (p : List Instruction) (ws : List ℕ) (B : ℕ) → Each (Fit instruction_numbers) p → Words ws → Formed p →
    Limits (length p) (length ws) B →
    Exactly ((m : Meaning) × Of m p ws B × Accepted m)
    ((aux : List ℕ) × Words aux × ((T : ℕ) × (T ≤ B) × AcceptsIn p ws aux T))

-- two dossiers alike in program, primary tape, bound and advice words
pub record Alike (m m' : Meaning) : Type 0 where
  pub program : m.instructions ≡ m'.instructions
  pub primary : m.words ≡ m'.words
  pub bound : bound m.head ≡ bound m'.head
  pub advice : advice_of (rows m) ≡ advice_of (rows m')

abbrev pub Uniqueness : Type 0
Uniqueness = (m m' : Meaning) → Made m → Made m' → Accepted m → Accepted m' → Alike m m' → m ≡ m'
