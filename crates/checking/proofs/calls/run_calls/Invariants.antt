use Rattle.std.proofs.Common.{◌≡◌, drop}
use Rattle.rules.specs.Course.{after_from}
use Rattle.checking.proofs.calls.run_calls.Given as goal

-- the calls that are left lead to the same end
abbrev pub invariant-loop-call : goal.invariant-loop-call
invariant-loop-call g l =
    (l.checking.dossier ≡ l.initial.checking.dossier)
    × (after_from l.initial.checking.dossier l.checking.progress (drop l.call-index l.calls) ≡ after_from l.initial.checking.dossier l.initial.checking.progress l.calls)
