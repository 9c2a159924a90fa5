use Rattle.std.proofs.lemmas.Bool.{both_ways}
use Rattle.run_log.specs.Log.{zeroed}
use Rattle.run_log.proofs.Tests.{none_log}
use Rattle.run_log.proofs.links.keeps_links.Goals as goal

pub returns-then-lines_keep : goal.returns-then-lines_keep
returns-then-lines_keep c =
    let log = none_log zeroed c.args.rows.now c.args.lines.now in (
      λ e. log.0 (record { lines = c.lines_keep.ensures.0 c.if-lines_keep.true; rows = c.rows_keep.ensures.0 e }),
      λ h. c.rows_keep.ensures.1 (log.1 h).rows,
    )

pub returns-else-lines_keep : goal.returns-else-lines_keep
returns-else-lines_keep c =
    let log = none_log zeroed c.args.rows.now c.args.lines.now in (
      λ e. absurd (both_ways c.lines_keep.result c.if-lines_keep.false e),
      λ h. c.lines_keep.ensures.1 (log.1 h).lines,
    )
