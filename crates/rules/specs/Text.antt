-- The numbers of rules, and findings and outcomes as text.
--   rule_number r    the number of the finding that the rule is broken
--   finding_text f   NUMBER PART PLACE, and for 22 also fault PART PLACE LAYER
--   outcome_text o   accepted, or unfinished LEFT, or finding and the finding's text
-- Assumes nothing.
use Rattle.std.specs.Prelude.{ℕ, List, ◌++◌, codes, decimal}
use Rattle.dossier.specs.Meaning.{part_number}
use Rattle.rules.specs.declared.finding.Rule.{Rule}
use Rattle.rules.specs.declared.finding.Rule.TheVariants as rule
use Rattle.rules.specs.declared.finding.Finding.{Finding}
use Rattle.rules.specs.declared.finding.Finding.TheVariants.{Broken, Unreadable}
use Rattle.rules.specs.declared.call.Outcome.{Outcome}
use Rattle.rules.specs.declared.call.Outcome.TheVariants.{Accepted, Found, Unfinished}

abbrev pub rule_number : Rule → ℕ
rule_number rule.Head = 20
rule_number rule.Limits = 21
rule_number rule.WellFormed = 23
rule_number rule.LineOrder = 24
rule_number rule.LineStep = 25
rule_number rule.OtherAnswer = 26
rule_number rule.LastAnswer = 27
rule_number rule.Kind = 28
rule_number rule.AdviceEnd = 29
rule_number rule.Touch = 30
rule_number rule.Origin = 31
rule_number rule.Next = 32

abbrev pub finding_text : Finding → List ℕ
finding_text (Broken r p k) =
    decimal (rule_number r) ++ (codes " " ++ (decimal (part_number p) ++ (codes " " ++ decimal k)))
finding_text (Unreadable p k f) =
    codes "22 " ++ (decimal (part_number p) ++ (codes " " ++ (decimal k ++ (codes " fault "
    ++ (decimal (part_number f.part) ++ (codes " " ++ (decimal f.place ++ (codes " " ++ decimal f.layer))))))))

abbrev pub outcome_text : Outcome → List ℕ
outcome_text (Accepted T) = codes "accepted"
outcome_text (Found f) = codes "finding " ++ finding_text f
outcome_text (Unfinished l) = codes "unfinished " ++ decimal l
