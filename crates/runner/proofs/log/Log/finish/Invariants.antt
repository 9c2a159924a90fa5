use Rattle.runner.proofs.Finishing.{Looped}
use Rattle.runner.proofs.log.Log.finish.Given as goal

abbrev pub invariant-loop : goal.invariant-loop
invariant-loop l = Looped l.initial.self l.self l.counter
