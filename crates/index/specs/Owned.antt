-- What a map that owns its entries keeps: the tree of all of them, and room for as many as its limit.
--
-- Assumes nothing.
use Rattle.std.specs.Prelude.{◌≤◌, length, vec_items, vec_capacity}
use Rattle.index.specs.declared.map.CellMap.TheInside.{Inside}
use Rattle.index.specs.Map.{Keeps, RoomFor}

pub record Owned (x : Inside) : Type 0 where
  pub tree : Keeps x.index (vec_items x.entries) (length (vec_items x.entries))
  pub room : RoomFor x.index x.limit
  pub within : length (vec_items x.entries) ≤ x.limit
  pub lent : x.limit ≤ vec_capacity x.entries
