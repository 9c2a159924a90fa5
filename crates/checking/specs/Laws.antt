-- The laws of checking, as the public calls state them: what they ask of a progress that some list of calls has led to.
--   ClosesAt m p o       a close at progress p that says o
--   Advances m p k a     an advance by k from progress p that answers a
--   AcceptsGenuine m o   a checking of all units that says o
-- Assumes nothing.
use Rattle.std.specs.Prelude.{◌≡◌, ℕ, ◌+◌, ◌≤◌, List, length, Ok, Result}
use Rattle.dossier.specs.Meaning.{Meaning}
use Rattle.run_log.specs.Words.{Exactly}
use Rattle.rules.specs.declared.progress.Progress.{Progress}
use Rattle.rules.specs.declared.call.Call.{Call}
use Rattle.rules.specs.declared.call.Advanced.{Advanced}
use Rattle.rules.specs.declared.call.Advanced.TheVariants.{Took}
use Rattle.rules.specs.declared.call.Refused.{Refused}
use Rattle.rules.specs.declared.call.Outcome.{Outcome}
use Rattle.rules.specs.declared.call.Outcome.TheVariants.{Accepted}
use Rattle.rules.specs.Course.{after, taken_by}
use Rattle.rules.specs.Laws.{every_unit, Genuine, Closes}

-- accepted exactly when every unit was taken and the dossier is genuine, whatever was called
abbrev pub ClosesAt : Meaning → Progress → Outcome → Type 0
ClosesAt m p o = (cs : List Call) → p ≡ after m cs → Closes m cs o

-- over a genuine dossier an advance by any k from 1 to the units not yet taken answers k, whatever was called
abbrev pub Advances : Meaning → Progress → ℕ → Result Advanced Refused → Type 0
Advances m p k a = (cs : List Call) → p ≡ after m cs → Genuine m → 1 ≤ k → taken_by m cs + k ≤ every_unit m → a ≡ Ok (Took k)

abbrev pub AcceptsGenuine : Meaning → Outcome → Type 0
AcceptsGenuine m o = Exactly (o ≡ Accepted (length m.rows)) (Genuine m)
