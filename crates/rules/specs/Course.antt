-- The course of a checking: how each call changes its progress, and what it answers.
--   begun m                               a new checking of a dossier that means m
--   took m p                              one unit more, or a finding
--   taking m p k                          k units more, or up to a finding
--   refused p k                           why an advance by k is refused, if it is
--   advanced m p k, advance_answer m p k  an advance by k: the progress after it, and its answer
--   reported p                            what is told to who asks
--   closing p                             what the close says
--   after m cs                            the progress after a list of calls, refused ones included
--   taken_by m cs                         what the amounts of the advances that answered their amount add up to
-- Assumes nothing.
use Rattle.std.specs.Prelude.{ℕ, zero, suc, ◌+◌, ◌-◌, Bool, cond, ◌&&◌, List, [], ◌∷◌, Some, None, Ok, Err, Option, Result, ◌==◌, nat_le, nat_lt}
use Rattle.dossier.specs.declared.record.Head.{Head}
use Rattle.dossier.specs.declared.refusal.Part.TheVariants as part
use Rattle.dossier.specs.declared.refusal.Refusal.{Refusal}
use Rattle.dossier.specs.Meaning.{Meaning, head_answer}
use Rattle.rules.specs.declared.finding.Rule.{Rule}
use Rattle.rules.specs.declared.finding.Rule.TheVariants as rule
use Rattle.rules.specs.declared.finding.Finding.{Finding}
use Rattle.rules.specs.declared.finding.Finding.TheVariants as finding
use Rattle.rules.specs.declared.progress.Unit as progress
use Rattle.rules.specs.declared.progress.Stage.{Stage}
use Rattle.rules.specs.declared.progress.Stage.TheVariants.{Instructions}
use Rattle.rules.specs.declared.progress.Progress.{Progress}
use Rattle.rules.specs.declared.call.Call.{Call}
use Rattle.rules.specs.declared.call.Call.TheVariants.{Advance, Ask}
use Rattle.rules.specs.declared.call.Advanced.{Advanced}
use Rattle.rules.specs.declared.call.Advanced.TheVariants as advanced-case
use Rattle.rules.specs.declared.call.Refused.{Refused}
use Rattle.rules.specs.declared.call.Refused.TheVariants as refused-case
use Rattle.rules.specs.declared.call.Report.{Report}
use Rattle.rules.specs.declared.call.Outcome.{Outcome}
use Rattle.rules.specs.declared.call.Outcome.TheVariants as outcome
use Rattle.rules.specs.Units.{units, unit_at, entered}
use Rattle.rules.specs.Checks.{checked}

-- BEGINNING

-- the limits on the head's numbers
abbrev pub in_limits : Head → Bool
in_limits h =
    nat_le 1 h.instructions && (nat_le h.instructions 4096 && (nat_le h.words 4096
    && (nat_le 1 h.rows && (nat_le h.rows 1000000 && (nat_le 1 h.bound && (nat_le h.bound 1000000
    && (nat_le h.rows h.bound && nat_le h.lines h.rows)))))))

-- findings 20 and 21 are made at the beginning, with no unit taken and none left
abbrev pub stopped : Head → Rule → Progress
stopped h r = record { head = h; total = 0; taken = 0; stage = Instructions; finding = Some (finding.Broken r part.Head 0) }

abbrev pub ready : Head → Progress
ready h = record { head = h; total = units h; taken = 0; stage = Instructions; finding = None }

abbrev pub no_head : Head
no_head = record { instructions = 0; words = 0; lines = 0; rows = 0; bound = 0 }

abbrev pub begun_by : Result Head Refusal → Progress
begun_by (Err e) = stopped no_head rule.Head
begun_by (Ok h) = cond (in_limits h) (ready h) (stopped h rule.Limits)

abbrev pub begun : Meaning → Progress
begun m = begun_by (head_answer m)

-- TAKING UNITS

abbrev pub next_unit : Progress → progress.Unit
next_unit p = unit_at p.head p.taken

abbrev pub moved : Progress → Result Stage Finding → Progress
moved p (Ok s) = record { head = p.head; total = p.total; taken = p.taken + 1; stage = s; finding = p.finding }
moved p (Err f) =
    record { head = p.head; total = p.total; taken = p.taken; stage = entered (next_unit p) p.stage; finding = Some f }

abbrev pub took : Meaning → Progress → Progress
took m p = moved p (checked m p.head (next_unit p) (entered (next_unit p) p.stage))

-- no unit is taken after a finding
abbrev pub onward : Meaning → Progress → Option Finding → Progress
onward m p (Some f) = p
onward m p None = took m p

abbrev pub taking : Meaning → Progress → ℕ → Progress
taking m p zero = p
taking m p (suc k) = onward m (taking m p k) (taking m p k).finding

abbrev pub left : Progress → ℕ
left p = p.total - p.taken

-- ADVANCING

-- tried in this order: 5 after a finding, 3 by 0, 4 by more than is left
abbrev pub refused_by : Option Finding → ℕ → ℕ → Option Refused
refused_by (Some f) l k = Some (refused-case.AfterFinding f)
refused_by None l k = cond (k == 0) (Some refused-case.ByZero) (cond (nat_lt l k) (Some (refused-case.TooMany l)) None)

abbrev pub refused : Progress → ℕ → Option Refused
refused p k = refused_by p.finding (left p) k

abbrev pub told : ℕ → Option Finding → Advanced
told k None = advanced-case.Took k
told k (Some f) = advanced-case.Found f

abbrev pub advanced_by : Meaning → Progress → ℕ → Option Refused → Progress
advanced_by m p k (Some r) = p
advanced_by m p k None = taking m p k

abbrev pub answered_by : Meaning → Progress → ℕ → Option Refused → Result Advanced Refused
answered_by m p k (Some r) = Err r
answered_by m p k None = Ok (told k (taking m p k).finding)

abbrev pub advanced : Meaning → Progress → ℕ → Progress
advanced m p k = advanced_by m p k (refused p k)

abbrev pub advance_answer : Meaning → Progress → ℕ → Result Advanced Refused
advance_answer m p k = answered_by m p k (refused p k)

-- ASKING AND CLOSING

abbrev pub reported : Progress → Report
reported p = record { taken = p.taken; left = left p; finding = p.finding }

-- a finding outranks unfinished
abbrev pub closing_by : Option Finding → ℕ → ℕ → Outcome
closing_by (Some f) l T = outcome.Found f
closing_by None l T = cond (l == 0) (outcome.Accepted T) (outcome.Unfinished l)

abbrev pub closing : Progress → Outcome
closing p = closing_by p.finding (left p) p.head.rows

-- LISTS OF CALLS

abbrev pub called : Meaning → Progress → Call → Progress
called m p (Advance k) = advanced m p k
called m p Ask = p

abbrev pub after_from : Meaning → Progress → List Call → Progress
after_from m p [] = p
after_from m p (c ∷ cs) = after_from m (called m p c) cs

abbrev pub after : Meaning → List Call → Progress
after m cs = after_from m (begun m) cs

abbrev pub amount : Result Advanced Refused → ℕ
amount (Ok (advanced-case.Took k)) = k
amount (Ok (advanced-case.Found f)) = 0
amount (Err r) = 0

abbrev pub amount_of : Meaning → Progress → Call → ℕ
amount_of m p (Advance k) = amount (advance_answer m p k)
amount_of m p Ask = 0

abbrev pub taken_from : Meaning → Progress → List Call → ℕ
taken_from m p [] = 0
taken_from m p (c ∷ cs) = amount_of m p c + taken_from m (called m p c) cs

abbrev pub taken_by : Meaning → List Call → ℕ
taken_by m cs = taken_from m (begun m) cs
