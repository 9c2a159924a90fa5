-- Text and instructions agree.
--   Printable p       the instructions of p are well formed, and their numbers are words
--   PrintedAssembles  what is printed of at most 4,096 such instructions assembles to just these
-- Assumes nothing.
use Rattle.std.specs.Prelude.{◌≡◌, ◌^◌, ◌<◌, ◌≤◌, true, List, [], ◌∷◌, length, Ok}
use Rattle.encoding.specs.declared.instruction.Instruction.{Instruction}
use Rattle.encoding.specs.Formed.{well_formed}
use Rattle.assembler.specs.Text.{assembled}
use Rattle.printer.specs.Listing.{printed}

abbrev pub Printable : List Instruction → Type 0
Printable [] = Unit {0}
Printable (n ∷ p) = (well_formed n ≡ true) × (n.second < 2 ^ 32) × Printable p

abbrev pub PrintedAssembles : Type 0
PrintedAssembles = (p : List Instruction) → length p ≤ 4096 → Printable p → assembled (printed p) ≡ Ok p
