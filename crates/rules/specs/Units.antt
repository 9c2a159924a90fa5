-- The units of a dossier, and how the check of a unit goes from rule to rule.
--   units h            how many units there are
--   unit_at h u        unit number u: instructions come first, then primary words, lines and rows
--   part_of w, place_of w
--   entered w s        the stage in which unit w is taken: the first of a part opens a new one
--   then c f           go on with f unless c found something
--   unless b w rule    the rule is broken at unit w unless the test b holds
--   needed w a         the record that was asked for; finding 22 at unit w where it is unreadable
-- Assumes nothing.
use Rattle.std.specs.Prelude.{ℕ, ◌+◌, ◌-◌, Bool, true, false, cond, None, Ok, Err, Result, ◌==◌, nat_lt}
use Rattle.dossier.specs.declared.record.Head.{Head}
use Rattle.dossier.specs.declared.refusal.Part.{Part}
use Rattle.dossier.specs.declared.refusal.Part.TheVariants as part
use Rattle.dossier.specs.declared.refusal.Refusal.{Refusal}
use Rattle.dossier.specs.declared.refusal.Refusal.TheVariants.{Past, Unreadable}
use Rattle.machine.specs.State.{start}
use Rattle.rules.specs.declared.finding.Rule.{Rule}
use Rattle.rules.specs.declared.finding.Finding.{Finding}
use Rattle.rules.specs.declared.finding.Finding.TheVariants as finding
use Rattle.rules.specs.declared.progress.Unit as progress
use Rattle.rules.specs.declared.progress.Unit.TheVariants as unit
use Rattle.rules.specs.declared.progress.Stage.{Stage}
use Rattle.rules.specs.declared.progress.Stage.TheVariants.{Instructions, Words, Lines, Rows}

abbrev pub units : Head → ℕ
units h = h.instructions + h.words + h.lines + h.rows

abbrev pub unit_at : Head → ℕ → progress.Unit
unit_at h u =
    cond (nat_lt u h.instructions) (unit.Instruction u)
    (cond (nat_lt u (h.instructions + h.words)) (unit.Word (u - h.instructions))
    (cond (nat_lt u (h.instructions + h.words + h.lines)) (unit.Line (u - (h.instructions + h.words)))
    (unit.Row (u - (h.instructions + h.words + h.lines)))))

abbrev pub part_of : progress.Unit → Part
part_of (unit.Instruction k) = part.Instruction
part_of (unit.Word k) = part.Word
part_of (unit.Line k) = part.Line
part_of (unit.Row k) = part.Row

abbrev pub place_of : progress.Unit → ℕ
place_of (unit.Instruction k) = k
place_of (unit.Word k) = k
place_of (unit.Line k) = k
place_of (unit.Row k) = k

-- the machine is at its start before the first row
abbrev pub opened : progress.Unit → Stage
opened (unit.Instruction k) = Instructions
opened (unit.Word k) = Words
opened (unit.Line k) = Lines None
opened (unit.Row k) = Rows start false

abbrev pub entered : progress.Unit → Stage → Stage
entered w s = cond (place_of w == 0) (opened w) s

abbrev pub then : {X Y : Type 0} → Result X Finding → (X → Result Y Finding) → Result Y Finding
then (Ok x) f = f x
then (Err e) f = Err e

abbrev pub broken : progress.Unit → Rule → Finding
broken w rule = finding.Broken rule (part_of w) (place_of w)

abbrev pub unless : Bool → progress.Unit → Rule → Result Unit Finding
unless true w rule = Ok tt
unless false w rule = Err (broken w rule)

-- an item past its list is never asked for; were it, no layer would have found it unreadable
abbrev pub unreadable : progress.Unit → Refusal → Finding
unreadable w (Past p k) = finding.Unreadable (part_of w) (place_of w) (record { part = p; place = k; layer = 0 })
unreadable w (Unreadable f) = finding.Unreadable (part_of w) (place_of w) f

abbrev pub needed : {R : Type 0} → progress.Unit → Result R Refusal → Result R Finding
needed w (Ok r) = Ok r
needed w (Err e) = Err (unreadable w e)
