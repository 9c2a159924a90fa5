-- The state, memory and tape of a run stay words, and so does what the steps show; the tape of advice words.
-- Assumes nothing.
use Rattle.std.proofs.Common.{◌≡◌, ℕ, zero, suc, ◌^◌, ◌<◌, ◌≤◌, eqb, ltb, List, [], ◌∷◌, length, get_or, Some, None, Option, refl, ◌∙◌, subst, inl, inr, arith}
use lib.ListN.{get_or-eq_default}
use Rattle.std.proofs.lemmas.Bool.{cases_lt, cond_both}
use Rattle.encoding.specs.declared.instruction.Instruction.{Instruction}
use Rattle.machine.specs.declared.cpu.Cpu.{Cpu}
use Rattle.machine.specs.declared.step.Demand.{Demand}
use Rattle.machine.specs.declared.step.Demand.TheVariants as demanded
use Rattle.machine.specs.State.{start}
use Rattle.machine.specs.Effects.{answer_one}
use Rattle.dossier.specs.Meaning.{Each}
use Rattle.dossier.specs.declared.record.Row.{Row}
use Rattle.dossier.specs.declared.record.Row.TheVariants.{Plain, FromLine, FromStep, Advice, AdviceEnd}
use Rattle.dossier.specs.Numbers.{Words, Fit, instruction_numbers, row_numbers}
use Rattle.run_log.specs.Log.{quiet, zeroed, event_at}
use Rattle.run_log.specs.Run.{alone, advice, access, answer, Config, tail, heard, given, shown, stored, unread, asked, after, advice_of}
use Rattle.run_log.specs.Run as run
use Rattle.run_log.proofs.Rows.{length_log}
use Rattle.run_log.proofs.Along.{trace_at, length_trace}
use Rattle.tinyram.specs.Program.{word_at, supplied, operation, demand, tinyram, events_in, lines_of, ProgramCounts}
use Rattle.tinyram.specs.Words.{CpuWords, InWords, ProgramWords, ProgramDecided}
use Rattle.tinyram.proofs.Run.{operand_in, cell_asked, program_sound, program_complete}
use Rattle.tinyram.proofs.Words.{OperandWord, GivenWord, meant_word, value_word, stepped_words, left_word}
use Rattle.tinyram.proofs.Numbers.{openings_length, each_at, words_at, EventWords, log_rows_words, log_lines_words}

heard_words : (ws : List ℕ) → Words ws → EventWords (heard ws)
heard_words [] h = tt
heard_words (w ∷ ws) h = h.0

head_words : (ws : List ℕ) → Words ws → GivenWord (run.head ws)
head_words [] h = tt
head_words (w ∷ ws) h = h.0

tail_words : (ws : List ℕ) → Words ws → Words (tail ws)
tail_words [] h = tt
tail_words (w ∷ ws) h = h.1

start_register : (i : ℕ) → get_or start.registers i 0 < 2 ^ 32
start_register i = each_at (λ n. n < 2 ^ 32) start.registers 0 zeros (omega arith) i
  where
    zeros : Each (λ n. n < 2 ^ 32) start.registers
    zeros = search arith

module _ (p : List Instruction) (primary aux : List ℕ) (program : Each (Fit instruction_numbers) p) (first : Words primary) (second : Words aux) where
  record ConfigWords (g : Config Cpu) : Type 0 where
    cpu : CpuWords g.state
    cells : (c : ℕ) → g.memory c < 2 ^ 32
    tape : Words g.tape

  operand_word : (s : Cpu) → OperandWord (operand_in (operation p s))
  operand_word s = meant_word (get_or p s.pc answer_one) (each_at (Fit instruction_numbers) p answer_one program (omega arith, (omega arith, tt)) s.pc).1.0

  word_at_word : (i : ℕ) → GivenWord (word_at primary i)
  word_at_word i = cond_both (ltb i (length primary)) (Some (get_or primary i 0)) None GivenWord (λ e. words_at primary first i) (λ e. tt)

  supplied_word : (s : Cpu) (d : Demand) (g : Option ℕ) → GivenWord g → GivenWord (supplied primary s d g)
  supplied_word s demanded.Nothing g h = h
  supplied_word s (demanded.Cell c) g h = h
  supplied_word s demanded.Primary g h = word_at_word s.place
  supplied_word s demanded.Advice g h = h
  supplied_word s (demanded.Halt v) g h = h

  module _ (g : Config Cpu) (h : ConfigWords g) where
    given_word : (d : run.Demand) → GivenWord (given (tinyram p primary) d g)
    given_word alone = tt
    given_word advice = head_words g.tape h.tape
    given_word (access c) = h.cells c
    given_word (answer v) = tt

    leaves_word : (c : ℕ) → (tinyram p primary).leaves g.state (g.memory c) < 2 ^ 32
    leaves_word c = left_word (operation p g.state) g.state (g.memory c) h.cpu (h.cells c)

    stored_word : (d : run.Demand) (c : ℕ) → stored (tinyram p primary) d g c < 2 ^ 32
    stored_word alone c = h.cells c
    stored_word advice c = h.cells c
    stored_word (access d) c =
        cond_both (eqb d c) ((tinyram p primary).leaves g.state (g.memory d)) (g.memory c) (λ n. n < 2 ^ 32) (λ e. leaves_word d) (λ e. h.cells c)
    stored_word (answer v) c = h.cells c

    unread_words : (d : run.Demand) → Words (unread (tinyram p primary) d g)
    unread_words alone = h.tape
    unread_words advice = tail_words g.tape h.tape
    unread_words (access c) = h.tape
    unread_words (answer v) = h.tape

    shown_words : (d : run.Demand) → asked (tinyram p primary) g ≡ d → EventWords (shown (tinyram p primary) d g)
    shown_words alone e = tt
    shown_words advice e = heard_words g.tape h.tape
    shown_words (access c) e =
        let k = cell_asked (operation p g.state) g.state c e in
        let v = value_word g.state (operand_in (operation p g.state)) h.cpu (operand_word g.state) in
        (omega arith, leaves_word c)
    shown_words (answer v) e = tt

    next_words : ConfigWords (run.stepped (tinyram p primary) g)
    next_words = record {
      cpu = stepped_words (operation p g.state) (supplied primary g.state (demand p g.state) (given (tinyram p primary) (asked (tinyram p primary) g) g)) g.state
          (operand_word g.state) (supplied_word g.state (demand p g.state) (given (tinyram p primary) (asked (tinyram p primary) g) g) (given_word (asked (tinyram p primary) g))) h.cpu;
      cells = stored_word (asked (tinyram p primary) g);
      tape = unread_words (asked (tinyram p primary) g);
    }

  config_words : (i : ℕ) → ConfigWords (after (tinyram p primary) aux i)
  config_words zero = record {
    cpu = record { pc = omega arith; registers = start_register; place = omega arith };
    cells = λ c. omega arith;
    tape = second;
  }
  config_words (suc i) = next_words (after (tinyram p primary) aux i) (config_words i)

  event_words : (T t : ℕ) → EventWords (event_at (events_in p primary aux T) t)
  event_words T zero = tt
  event_words T (suc i) = elim (cases_lt i T) [
    | inl l ↦
        let g = after (tinyram p primary) aux i in
        rw (trace_at (tinyram p primary) aux T i l) (shown_words g (config_words i) (asked (tinyram p primary) g) refl)
    | inr l ↦
        let n = length_trace (tinyram p primary) aux T in
        let d : get_or (events_in p primary aux T) i quiet ≡ quiet = get_or-eq_default (events_in p primary aux T) quiet (omega arith) in
        rw d tt
  ]

  in_words : InWords p primary aux
  in_words = record {
    cpu = λ i. (config_words i).cpu;
    rows = λ T l. log_rows_words zeroed (events_in p primary aux T) (λ c. omega arith) (event_words T) (omega (arith, length_trace (tinyram p primary) aux T));
    lines = λ T l. log_lines_words zeroed (events_in p primary aux T) (λ c. omega arith) (event_words T) (omega (arith, length_trace (tinyram p primary) aux T));
  }

pub program_words : ProgramWords
program_words p primary aux program first second = in_words p primary aux program first second

-- COUNTS, AND THE TAPE OF THE ADVICE WORDS

pub program_counts : ProgramCounts
program_counts p primary aux T =
    let n = length_trace (tinyram p primary) aux T in
    (length_log zeroed (events_in p primary aux T) ∙ n, subst (λ k. length (lines_of p primary aux T) ≤ k) n (openings_length (events_in p primary aux T) (length (events_in p primary aux T))))

advice_words : (rs : List Row) → Each (Fit row_numbers) rs → Words (advice_of rs)
advice_words [] h = tt
advice_words (Plain ∷ rs) h = advice_words rs h.1
advice_words (FromLine x ∷ rs) h = advice_words rs h.1
advice_words (FromStep x ∷ rs) h = advice_words rs h.1
advice_words (Advice w ∷ rs) h = (h.0.1.0, advice_words rs h.1)
advice_words (AdviceEnd ∷ rs) h = advice_words rs h.1

pub program_decided : ProgramDecided
program_decided p primary rs ls h = (
  λ k. (advice_of rs, advice_words rs h, program_sound p primary rs ls k),
  λ l. program_complete p primary l.0 rs ls l.2,
)
