-- The text of a receipt: four lines, each ended by a line feed.
--   TinyRAM hv 32 16
--   program L primary n bound B
--   steps T
--   accepted, or unfinished LEFT, or finding NUMBER PART PLACE, and for 22 also fault PART PLACE LAYER
-- Assumes nothing.
use Rattle.std.specs.Prelude.{ℕ, List, [], ◌∷◌, ◌++◌, codes, decimal}
use Rattle.rules.specs.Text.{outcome_text}
use Rattle.course.specs.declared.receipt.Receipt.{Receipt}

abbrev pub receipt_text : Receipt → List ℕ
receipt_text r =
    codes "TinyRAM hv 32 16" ++ (10 ∷ (codes "program " ++ (decimal r.head.instructions
    ++ (codes " primary " ++ (decimal r.head.words ++ (codes " bound " ++ (decimal r.head.bound
    ++ (10 ∷ (codes "steps " ++ (decimal r.head.rows ++ (10 ∷ (outcome_text r.outcome ++ (10 ∷ [])))))))))))))
