use Rattle.run_log.specs.Rules.{row_at}
use Rattle.runner.specs.Label.{Labelled, first_of}
use Rattle.runner.proofs.label.label.Given as goal

abbrev pub invariant-loop-line : goal.invariant-loop-line
invariant-loop-line l = Labelled l.line (first_of l.cells) (row_at l.initial.rows) (row_at l.rows)
