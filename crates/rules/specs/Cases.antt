-- Worked cases over the definitions: single steps, the checking of the sample, and that of the sample with one number changed.
--   sample rows lines   the sample's program and bound, with these rows and lines, all readable
-- Assumes nothing.
use Rattle.std.specs.Prelude.{◌≡◌, List, [], ◌∷◌, map, length, Ok, Err}
use Rattle.machine.specs.Marked as steps
use Rattle.dossier.specs.declared.record.Line.{Line}
use Rattle.dossier.specs.declared.record.Row.{Row}
use Rattle.dossier.specs.declared.refusal.Part.TheVariants as part
use Rattle.dossier.specs.Meaning.{Meaning}
use Rattle.run_log.specs.Sample.{rows_with, lines_with, sample_rows, sample_lines}
use Rattle.tinyram.specs.Sample.{sample_program}
use Rattle.rules.specs.declared.finding.Rule.TheVariants as rule
use Rattle.rules.specs.declared.finding.Finding.TheVariants as finding
use Rattle.rules.specs.declared.call.Call.TheVariants.{Advance}
use Rattle.rules.specs.declared.call.Refused.TheVariants as refused-case
use Rattle.rules.specs.declared.call.Outcome.TheVariants as outcome
use Rattle.rules.specs.Course.{begun, advance_answer, after, closing}

abbrev pub sample : List Row → List Line → Meaning
sample rs ls = record {
  head = Ok (record { instructions = 7; words = 0; lines = length ls; rows = length rs; bound = 9 });
  instructions = map Ok sample_program;
  words = [];
  lines = map Ok ls;
  rows = map Ok rs;
}

pub record Marked : Type 0 where
  pub step_cases : steps.Marked
  pub accepted : closing (after (sample sample_rows sample_lines) (Advance 14 ∷ [])) ≡ outcome.Accepted 6
  -- with row 2's next 0, row 3 does not come from where it says
  pub next : closing (after (sample (rows_with 0) sample_lines) (Advance 14 ∷ [])) ≡ outcome.Found (finding.Broken rule.Origin part.Row 2)
  -- with the line's step 3, the line's row is no touch from it
  pub step : closing (after (sample sample_rows (lines_with 3)) (Advance 14 ∷ [])) ≡ outcome.Found (finding.Broken rule.LineStep part.Line 0)
  pub many : advance_answer (sample sample_rows sample_lines) (begun (sample sample_rows sample_lines)) 15 ≡ Err (refused-case.TooMany 14)
