-- The first entries of a table, put in the order of their cells.
--
--   `Apart n es`         the first n entries are of different cells
--   `Arranged n es zs`   zs has the first n entries of es by rising cell, and beyond them is es
--
-- Assumes nothing.
use Rattle.std.specs.Prelude.{◌≡◌, ℕ, ◌<◌, ◌≤◌, List, length, slice_index_or}
use Rattle.index.specs.declared.entry.CellEntry.{CellEntry}
use Rattle.index.specs.Tree.{none, cell_of}

abbrev pub Apart : ℕ → List CellEntry → Type 0
Apart n es = (i j : ℕ) → i < n → j < n → cell_of es i ≡ cell_of es j → i ≡ j

pub record Arranged (n : ℕ) (es zs : List CellEntry) : Type 0 where
  pub long : length zs ≡ length es
  pub beyond : (k : ℕ) → n ≤ k → slice_index_or zs k none ≡ slice_index_or es k none
  pub from : (j : ℕ) → j < n → (k : ℕ) × (k < n) × (slice_index_or zs j none ≡ slice_index_or es k none)
  pub into : (k : ℕ) → k < n → (j : ℕ) × (j < n) × (slice_index_or zs j none ≡ slice_index_or es k none)
  pub rises : (i j : ℕ) → i < j → j < n → cell_of zs i < cell_of zs j
