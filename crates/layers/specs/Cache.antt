-- What a cache of rows keeps: each stored row is the row as it stands below.
use Rattle.std.specs.Prelude.{◌≡◌, ℕ, ◌<◌, List, Some, None, Ok, Option, slice_index_or}
use Rattle.layers.specs.declared.cache.Stored.{Stored}
use Rattle.dossier.specs.Meaning.{Meaning, row_answer}

abbrev pub Stands : Meaning → Option Stored → Type 0
Stands m None = Unit {0}
Stands m (Some s) = row_answer m s.place ≡ Ok s.row

abbrev pub Slots : Meaning → List (Option Stored) → Type 0
Slots m slots = (i : ℕ) → i < 32 → Stands m (slice_index_or slots i None)
