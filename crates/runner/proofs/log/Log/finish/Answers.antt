use Rattle.std.proofs.Common.{sym, arith}
use Rattle.runner.proofs.Finishing.{looped_more, finished_now, finished_out}
use Rattle.runner.proofs.log.Log.finish.Goals as goal

pub returns-in-Some : goal.returns-in-Some
returns-in-Some c = finished_now c.loop.invariant c.step.ensures c.in-Some.value c.loop-test.true (sym c.in-Some.is)

pub loop-preserved : goal.loop-preserved
loop-preserved c = looped_more c.loop.invariant c.step.ensures (sym c.in_default.is)

pub returns : goal.returns
returns c = finished_out c.loop.invariant (omega (arith, c.loop.auto.counter-end, c.loop-test.false))
