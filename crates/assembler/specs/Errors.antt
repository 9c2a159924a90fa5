-- The refusals of the assembler.
--   refusal_of e  the number of a refusal, and what is returned with it
-- Assumes nothing.
use Rattle.std.specs.Prelude.{ℕ}
use Rattle.assembler.specs.declared.error.AssemblyError.{AssemblyError}
use Rattle.assembler.specs.declared.error.AssemblyError.TheVariants.{Header, Unreadable, Redefined, TooMany, Undefined, TableTooShort}
use Rattle.assembler.specs.declared.error.Refusal.{Refusal}

abbrev pub refuse : ℕ → ℕ → Refusal
refuse n v = record { number = n; value = v }

abbrev pub refusal_of : AssemblyError → Refusal
refusal_of Header = refuse 9 1
refusal_of (Unreadable line) = refuse 10 line
refusal_of (Redefined line) = refuse 11 line
refusal_of (TooMany line) = refuse 13 line
refusal_of (Undefined line) = refuse 12 line
refusal_of (TableTooShort needed) = refuse 14 needed
