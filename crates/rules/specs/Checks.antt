-- What is tried at each unit, in order. A check asks the dossier for its own item first, and for another
-- only when a rule needs it.
--   checked_instruction, checked_line, checked_row  the checks of three kinds of unit; a primary word has no rule
--   checked m h w s                                 the check of unit w in stage s: the stage after it, or the finding
-- Assumes nothing.
use Rattle.std.specs.Prelude.{ℕ, ◌+◌, ◌-◌, ◌%◌, Bool, true, cond, not, ◌&&◌, ◌||◌, Some, None, Ok, Option, Result, ◌==◌, nat_le, nat_lt}
use Rattle.encoding.specs.declared.instruction.Instruction.{Instruction}
use Rattle.encoding.specs.declared.operation.Operation.{Operation}
use Rattle.encoding.specs.declared.operation.Operation.TheVariants.{Answer}
use Rattle.encoding.specs.declared.operation.Operand.TheVariants.{Immediate}
use Rattle.encoding.specs.Encoding.{meant}
use Rattle.encoding.specs.Formed.{well_formed}
use Rattle.machine.specs.declared.cpu.Cpu.{Cpu}
use Rattle.machine.specs.declared.step.Demand.{Demand}
use Rattle.machine.specs.declared.step.Demand.TheVariants as demand
use Rattle.machine.specs.Effects.{asked, left, stepped}
use Rattle.dossier.specs.declared.record.Head.{Head}
use Rattle.dossier.specs.declared.record.Line.{Line}
use Rattle.dossier.specs.declared.record.Touch.{Touch}
use Rattle.dossier.specs.declared.record.Row.{Row}
use Rattle.dossier.specs.declared.record.Row.TheVariants.{Plain, FromLine, FromStep, Advice, AdviceEnd}
use Rattle.dossier.specs.Meaning.{Meaning, instruction_answer, word_answer, line_answer, row_answer}
use Rattle.run_log.specs.Rules.{kind_of, touch_of, test_touch, from_line, opens_touch, leads_to, from_step}
use Rattle.run_log.specs.Run.{input_of}
use Rattle.rules.specs.declared.finding.Rule.TheVariants as rule
use Rattle.rules.specs.declared.finding.Finding.{Finding}
use Rattle.rules.specs.declared.progress.Unit as progress
use Rattle.rules.specs.declared.progress.Unit.TheVariants as unit
use Rattle.rules.specs.declared.progress.Item.{Item}
use Rattle.rules.specs.declared.progress.Item.TheVariants as item
use Rattle.rules.specs.declared.progress.Stage.{Stage}
use Rattle.rules.specs.declared.progress.Stage.TheVariants.{Instructions, Words, Lines, Rows}
use Rattle.rules.specs.Units.{place_of, then, unless, needed}

-- INSTRUCTIONS

abbrev pub checked_instruction : progress.Unit → Instruction → Result Unit Finding
checked_instruction w i = unless (well_formed i) w rule.WellFormed

-- LINES

abbrev pub above : Option ℕ → ℕ → Bool
above None c = true
above (Some former) c = nat_lt former c

-- a step of the log, whose rows are counted from 1
abbrev pub within : Head → ℕ → Bool
within h t = nat_le 1 t && nat_le t h.rows

abbrev pub checked_line : Meaning → Head → progress.Unit → Option ℕ → Line → Result Unit Finding
checked_line m h w former l =
    then (unless (l.cell % 4 == 0 && above former l.cell) w rule.LineOrder)
    (λ _. then (unless (within h l.step) w rule.LineStep)
    (λ _. then (needed w (row_answer m (l.step - 1)))
    (λ r. unless (from_line (place_of w) r) w rule.LineStep)))

-- ROWS

-- instruction number pc, which is `answer 1` past the program
abbrev pub operation_at : Meaning → Head → progress.Unit → ℕ → Result Operation Finding
operation_at m h w pc =
    cond (nat_lt pc h.instructions)
    (then (needed w (instruction_answer m pc)) (λ i. Ok (meant i)))
    (Ok (Answer (Immediate 1)))

-- rule 26
abbrev pub only_zero : Demand → Bool
only_zero demand.Nothing = true
only_zero (demand.Cell c) = true
only_zero demand.Primary = true
only_zero demand.Advice = true
only_zero (demand.Halt v) = v == 0

-- rule 27: the step of row t of T halts exactly if it is the last
abbrev pub halts_last : ℕ → ℕ → Demand → Bool
halts_last T t demand.Nothing = nat_lt t T
halts_last T t (demand.Cell c) = nat_lt t T
halts_last T t demand.Primary = nat_lt t T
halts_last T t demand.Advice = nat_lt t T
halts_last T t (demand.Halt v) = t == T

-- rule 28: both kinds of touch count as one
abbrev pub kind_fits : Demand → Row → Bool
kind_fits demand.Nothing r = kind_of r == 0
kind_fits (demand.Cell c) r = test_touch r
kind_fits demand.Primary r = kind_of r == 0
kind_fits demand.Advice r = nat_le 3 (kind_of r)
kind_fits (demand.Halt v) r = kind_of r == 0

-- rule 29
abbrev pub advice_fits : Bool → Row → Bool
advice_fits ended r = not (ended && kind_of r == 3)

-- rule 30
abbrev pub touch_fits : (ℕ → ℕ) → Demand → Touch → Bool
touch_fits leaves demand.Nothing x = true
touch_fits leaves (demand.Cell c) x = x.cell == c && x.after == leaves x.before
touch_fits leaves demand.Primary x = true
touch_fits leaves demand.Advice x = true
touch_fits leaves (demand.Halt v) x = true

-- rules 26 to 30, which need no other item
abbrev pub checked_step : ℕ → progress.Unit → Bool → (ℕ → ℕ) → Demand → Row → Result Unit Finding
checked_step T w ended leaves d r =
    then (unless (only_zero d) w rule.OtherAnswer)
    (λ _. then (unless (halts_last T (place_of w + 1) d) w rule.LastAnswer)
    (λ _. then (unless (kind_fits d r) w rule.Kind)
    (λ _. then (unless (advice_fits ended r) w rule.AdviceEnd)
    (λ _. unless (touch_fits leaves d (touch_of r)) w rule.Touch))))

-- rule 31: the line, or the earlier row, is asked for only where there is one
abbrev pub checked_origin : Meaning → Head → progress.Unit → Row → Result Unit Finding
checked_origin m h w Plain = Ok tt
checked_origin m h w (FromLine x) =
    then (unless (nat_lt x.origin h.lines) w rule.Origin)
    (λ _. then (needed w (line_answer m x.origin))
    (λ l. unless (opens_touch (place_of w + 1) x l) w rule.Origin))
checked_origin m h w (FromStep x) =
    then (unless (nat_le 1 x.origin && nat_le x.origin (place_of w)) w rule.Origin)
    (λ _. then (needed w (row_answer m (x.origin - 1)))
    (λ r. unless (leads_to (place_of w + 1) x r) w rule.Origin))
checked_origin m h w (Advice n) = Ok tt
checked_origin m h w AdviceEnd = Ok tt

-- rule 32: next is 0, or a later row that is asked for
abbrev pub checked_next : Meaning → Head → progress.Unit → ℕ → Result Unit Finding
checked_next m h w next =
    cond (next == 0) (Ok tt)
    (then (unless (nat_lt (place_of w + 1) next && nat_le next h.rows) w rule.Next)
    (λ _. then (needed w (row_answer m (next - 1)))
    (λ r. unless (from_step (place_of w + 1) r) w rule.Next)))

-- what the step gets: a primary word, or what the row says
abbrev pub got_at : Meaning → Head → progress.Unit → Cpu → Demand → Row → Result (Option ℕ) Finding
got_at m h w s demand.Nothing r = Ok (input_of r)
got_at m h w s (demand.Cell c) r = Ok (input_of r)
got_at m h w s demand.Primary r =
    cond (nat_lt s.place h.words) (then (needed w (word_answer m s.place)) (λ n. Ok (Some n))) (Ok None)
got_at m h w s demand.Advice r = Ok (input_of r)
got_at m h w s (demand.Halt v) r = Ok (input_of r)

-- the machine after the row
abbrev pub checked_row : Meaning → Head → progress.Unit → Cpu → Bool → Row → Result Cpu Finding
checked_row m h w s ended r =
    then (operation_at m h w s.pc)
    (λ o. then (checked_step h.rows w ended (left o s) (asked o s) r)
    (λ _. then (checked_origin m h w r)
    (λ _. then (checked_next m h w (touch_of r).next)
    (λ _. then (got_at m h w s (asked o s) r)
    (λ g. Ok (stepped o g s))))))

-- UNITS

-- the unit's own item
abbrev pub item_at : Meaning → progress.Unit → Result Item Finding
item_at m (unit.Instruction k) = then (needed (unit.Instruction k) (instruction_answer m k)) (λ i. Ok (item.Instruction i))
item_at m (unit.Word k) = then (needed (unit.Word k) (word_answer m k)) (λ n. Ok (item.Word n))
item_at m (unit.Line k) = then (needed (unit.Line k) (line_answer m k)) (λ l. Ok (item.Line l))
item_at m (unit.Row k) = then (needed (unit.Row k) (row_answer m k)) (λ r. Ok (item.Row r))

-- each stage with its own kind of item; no other comes to it
abbrev pub judged : Meaning → Head → progress.Unit → Stage → Item → Result Stage Finding
judged m h w Instructions (item.Instruction i) = then (checked_instruction w i) (λ _. Ok Instructions)
judged m h w Words (item.Word n) = Ok Words
judged m h w (Lines former) (item.Line l) = then (checked_line m h w former l) (λ _. Ok (Lines (Some l.cell)))
judged m h w (Rows s ended) (item.Row r) =
    then (checked_row m h w s ended r) (λ s'. Ok (Rows s' (ended || kind_of r == 4)))
judged m h w Instructions (item.Word n) = Ok Instructions
judged m h w Instructions (item.Line l) = Ok Instructions
judged m h w Instructions (item.Row r) = Ok Instructions
judged m h w Words (item.Instruction i) = Ok Words
judged m h w Words (item.Line l) = Ok Words
judged m h w Words (item.Row r) = Ok Words
judged m h w (Lines former) (item.Instruction i) = Ok (Lines former)
judged m h w (Lines former) (item.Word n) = Ok (Lines former)
judged m h w (Lines former) (item.Row r) = Ok (Lines former)
judged m h w (Rows s ended) (item.Instruction i) = Ok (Rows s ended)
judged m h w (Rows s ended) (item.Word n) = Ok (Rows s ended)
judged m h w (Rows s ended) (item.Line l) = Ok (Rows s ended)

abbrev pub checked : Meaning → Head → progress.Unit → Stage → Result Stage Finding
checked m h w s = then (item_at m w) (judged m h w s)
