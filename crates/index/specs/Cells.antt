-- What a map that owns its entries is seen as: the entries by number, and how many it has room for.
--
--   `HasEntry es c r`   r is the number of the entry of cell c, if it has one
--   `Opens x e r y`     y is x with an entry for the cell of e: r is its number, as new, where there was none and it is e,
--                       or as known; r is none if there was none and there is no room
--
-- Assumes nothing.
use Rattle.std.specs.Prelude.{◌≡◌, ℕ, ◌<◌, List, [], ◌∷◌, ◌++◌, length, Some, None, Option}
use Rattle.index.specs.declared.entry.CellEntry.{CellEntry}
use Rattle.index.specs.declared.map.Entered.{Entered}
use Rattle.index.specs.declared.map.Entered.TheVariants.{New, Known}
use Rattle.index.specs.Tree.{cell_of, Absent}

pub record Cells : Type 0 where
  pub entries : List CellEntry
  pub limit : ℕ

abbrev pub HasEntry : List CellEntry → ℕ → Option ℕ → Type 0
HasEntry es c (Some k) = (k < length es) × (cell_of es k ≡ c)
HasEntry es c None = Absent es (length es) c

abbrev pub Opens : Cells → CellEntry → Option Entered → Cells → Type 0
Opens x e (Some (Known k)) y = HasEntry x.entries e.cell (Some k) × (y ≡ x)
Opens x e (Some (New k)) y =
    HasEntry x.entries e.cell None × (k ≡ length x.entries) × (y ≡ record { entries = x.entries ++ e ∷ []; limit = x.limit })
Opens x e None y = HasEntry x.entries e.cell None × (length x.entries ≡ x.limit) × (y ≡ x)
