-- The number of each finding and of each refusal to advance, and the values that it returns.
--   finding_number, finding_values   a finding gives the part and place of its unit; 22 also the fault
--   refused_number, refused_values   3 gives 0, 4 the units left, 5 the finding
-- Assumes nothing.
use Rattle.std.specs.Prelude.{ℕ, List, [], ◌∷◌}
use Rattle.dossier.specs.Meaning.{part_number}
use Rattle.rules.specs.declared.finding.Finding.{Finding}
use Rattle.rules.specs.declared.finding.Finding.TheVariants.{Broken, Unreadable}
use Rattle.rules.specs.declared.call.Refused.{Refused}
use Rattle.rules.specs.declared.call.Refused.TheVariants.{ByZero, TooMany, AfterFinding}
use Rattle.rules.specs.Text.{rule_number}

abbrev pub finding_number : Finding → ℕ
finding_number (Broken r p k) = rule_number r
finding_number (Unreadable p k f) = 22

abbrev pub finding_values : Finding → List ℕ
finding_values (Broken r p k) = part_number p ∷ k ∷ []
finding_values (Unreadable p k f) = part_number p ∷ k ∷ part_number f.part ∷ f.place ∷ f.layer ∷ []

abbrev pub refused_number : Refused → ℕ
refused_number ByZero = 3
refused_number (TooMany l) = 4
refused_number (AfterFinding f) = 5

abbrev pub refused_values : Refused → List ℕ
refused_values ByZero = 0 ∷ []
refused_values (TooMany l) = l ∷ []
refused_values (AfterFinding f) = finding_number f ∷ finding_values f
