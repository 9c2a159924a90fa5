-- The receipt of the dossier in some bytes.
--   within_limit bs   the bytes that are taken for a dossier: none of more than 65,536
--   receipt_of m      the receipt of a checking that takes all units of m, up to a finding
-- Assumes nothing.
use Rattle.std.specs.Prelude.{ℕ, cond, List, [], ◌∷◌, length, nat_le}
use Rattle.dossier.specs.Meaning.{Meaning}
use Rattle.rules.specs.declared.call.Call.TheVariants.{Advance}
use Rattle.rules.specs.declared.progress.Progress.{Progress}
use Rattle.rules.specs.Course.{begun, after, left, closing}
use Rattle.course.specs.declared.receipt.Receipt.{Receipt}

abbrev pub within_limit : List ℕ → List ℕ
within_limit bs = cond (nat_le (length bs) 65536) bs []

abbrev pub taken : Meaning → Progress
taken m = after m (Advance (left (begun m)) ∷ [])

abbrev pub receipt_of : Meaning → Receipt
receipt_of m = record { head = (taken m).head; outcome = closing (taken m) }
