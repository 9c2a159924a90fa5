use Rattle.std.proofs.Common.{ℕ, Ok, ap}
use Rattle.runner.specs.declared.job.Job.{Job}
use Rattle.runner.specs.Ending.{steps_in}
use Rattle.runner.specs.Filling.{config_at}
use Rattle.runner.proofs.Whole.{opens, whole_rows, whole_cells, whole_count, answered, run_is}
use Rattle.runner.proofs.run.run.Goals as goal

pub label-requires-clause-openings : goal.label-requires-clause-openings
label-requires-clause-openings c =
    let i : Job = c.args.job in
    let g = c.log_steps-run.ensures in
    let r = c.log_steps-run.result in
    let T : ℕ = steps_in i.bound r.answer in
    let rows1 = c.log_steps-run.new.rows in
    opens i T r.cells (config_at i T).memory c.log_steps-run.new.index c.args.rows.now rows1 rows1 c.args.cells.now c.log_steps-run.new.cells c.arrange.new.cells g.filling g.made g.beyond g.past c.arrange.ensures

pub returns : goal.returns
returns c =
    let i : Job = c.args.job in
    let g = c.log_steps-run.ensures in
    let r = c.log_steps-run.result in
    let T : ℕ = steps_in i.bound r.answer in
    let mem = (config_at i T).memory in
    let x = c.log_steps-run.new.index in
    let rows0 = c.args.rows.now in
    let rows1 = c.log_steps-run.new.rows in
    let rows2 = c.label.new.rows in
    let cells0 = c.args.cells.now in
    let cells1 = c.log_steps-run.new.cells in
    let zs = c.arrange.new.cells in
    let a = c.arrange.ensures in
    let l = c.label.ensures in
    let long = c.label.auto.rows in
    record {
      answer = answered (Ok r) _ _ c.in_ok-check.ensures
          (ap Ok (run_is i r g.ends (whole_count i T r.cells mem x rows0 rows1 rows2 cells0 cells1 zs g.filling g.made g.beyond g.past a l long)));
      rows = whole_rows i T r.cells mem x rows0 rows1 rows2 cells0 cells1 zs g.filling g.made g.beyond g.past a l long;
      cells = whole_cells i T r.cells mem x rows0 rows1 rows2 cells0 cells1 zs g.filling g.made g.beyond g.past a l long;
    }
