-- The map that an index makes of a table of entries: from the cells of its first entries to their numbers.
-- What its user needs of it is said here and in `Order`; the tree inside is in `Tree`.
--
--   `Keeps x es n`         x is the index of the first n entries of es, which are of different cells
--   `FindsIn x es n c r`   r is where the search for cell c ends: the number of its entry, or, where it has none, a free slot
--   `RoomFor x n`          x has room for n entries
--
-- Assumes nothing.
use Rattle.std.specs.Prelude.{ℕ, List, vec_items}
use Rattle.index.specs.declared.entry.CellEntry.{CellEntry}
use Rattle.index.specs.declared.tree.Seat.{Seat}
use Rattle.index.specs.declared.tree.Index.{Index}
use Rattle.index.specs.Tree.{Kept, Finds, Room}

abbrev pub Keeps : Index → List CellEntry → ℕ → Type 0
Keeps x es n = Kept x.roots (vec_items x.links) es n

abbrev pub FindsIn : Index → List CellEntry → ℕ → ℕ → Seat → Type 0
FindsIn x es n c r = Finds x.roots (vec_items x.links) es n c r

abbrev pub RoomFor : Index → ℕ → Type 0
RoomFor x n = Room x.roots (vec_items x.links) n
