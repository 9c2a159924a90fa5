-- How the check of a unit is told apart: what it answers, and the stage that it leaves.
--   in_stage p s     the progress p in stage s
--   stage_now p      the stage in which the next unit is taken
--   checked_now m p  the check of the next unit
--   settled s c      the stage after the check c of a unit in stage s, which stays where something was found
--   passed c         whether the check found something
-- Assumes nothing.
use Rattle.std.specs.Prelude.{Ok, Err, Result}
use Rattle.dossier.specs.Meaning.{Meaning}
use Rattle.rules.specs.Units.{entered}
use Rattle.rules.specs.Checks.{checked}
use Rattle.rules.specs.Course.{next_unit}
use Rattle.rules.specs.declared.finding.Finding.{Finding}
use Rattle.rules.specs.declared.progress.Stage.{Stage}
use Rattle.rules.specs.declared.progress.Progress.{Progress}

abbrev pub in_stage : Progress → Stage → Progress
in_stage p s = record { head = p.head; total = p.total; taken = p.taken; stage = s; finding = p.finding }

abbrev pub stage_now : Progress → Stage
stage_now p = entered (next_unit p) p.stage

abbrev pub checked_now : Meaning → Progress → Result Stage Finding
checked_now m p = checked m p.head (next_unit p) (stage_now p)

abbrev pub settled : Stage → Result Stage Finding → Stage
settled s (Ok s') = s'
settled s (Err f) = s

abbrev pub passed : Result Stage Finding → Result Unit Finding
passed (Ok s) = Ok tt
passed (Err f) = Err f
