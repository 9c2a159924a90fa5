use Rattle.std.proofs.Common.{◌≡◌, ◌+◌, ◌≤◌}
use Rattle.rules.specs.Course.{taking}
use Rattle.checking.proofs.checking.Checking.take_units.Given as goal

abbrev pub invariant-loop : goal.invariant-loop
invariant-loop g l =
    (l.self.dossier ≡ l.initial.self.dossier)
    × (l.self.progress ≡ taking l.initial.self.dossier l.initial.self.progress l.counter)
    × (l.self.progress.taken ≤ l.initial.self.progress.taken + l.counter)
