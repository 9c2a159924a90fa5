-- The search tree over a table of entries, held as a list of links. A link is 0, or one more than the number of an entry.
-- The tree has m roots; entry k has the four slots from m + 4 k on. A cell's number in words, divided by m, gives the root
-- by its rest, and by its quotient the digits of base 4 that are followed from there.
--
--   `cell_of es k`                    the cell of entry k
--   `root_of m c`, `rest_of m c`      the slot where the search for a cell starts, and the digits that are left
--   `Leads m ls js s r k`             from slot s with digits r left, the links lead over the entries js to entry k
--   `Kept m ls es n`                  ls is the tree of the first n entries, which are of different cells
--   `FreeFor m ls n c s`              an entry for cell c that is put at slot s will be led to
--   `Finds m ls es n c r`             r is where the search for c ends
--   `renewed es k last value`         entry k after a touch of its cell
--
-- Assumes nothing.
use Rattle.std.specs.Prelude.{◌≡◌, ℕ, suc, ◌+◌, ◌*◌, ◌/◌, ◌%◌, ◌^◌, ◌<◌, ◌≤◌, List, [], ◌∷◌, length, ◌≢◌, slice_index, slice_index_or}
use Rattle.index.specs.declared.entry.CellEntry.{CellEntry}
use Rattle.index.specs.declared.tree.Seat.{Seat}
use Rattle.index.specs.declared.tree.Seat.TheVariants.{Taken, Free}

abbrev pub none : CellEntry
none = record { cell = 0; first = 0; last = 0; value = 0 }

abbrev pub cell_of : List CellEntry → ℕ → ℕ
cell_of es k = (slice_index_or es k none).cell

abbrev pub root_of : ℕ → ℕ → ℕ
root_of m c = (c / 4) % m

abbrev pub rest_of : ℕ → ℕ → ℕ
rest_of m c = (c / 4) / m

abbrev pub Leads : ℕ → List ℕ → List ℕ → ℕ → ℕ → ℕ → Type 0
Leads m ls [] s r k = slice_index ls s ≡ suc k
Leads m ls (j ∷ js) s r k = (slice_index ls s ≡ suc j) × Leads m ls js (m + 4 * j + r % 4) (r / 4) k

abbrev pub Led : ℕ → List ℕ → ℕ → ℕ → ℕ → Type 0
Led m ls s r k = (js : List ℕ) × Leads m ls js s r k

-- there are slots for n entries
abbrev pub Room : ℕ → List ℕ → ℕ → Type 0
Room m ls n = m + 4 * n ≤ length ls

pub record Kept (m : ℕ) (ls : List ℕ) (es : List CellEntry) (n : ℕ) : Type 0 where
  pub some : 0 < m
  pub room : Room m ls n
  pub few : m ≤ 2 ^ 32
  pub slots : length ls + 4 ≤ 5 * m
  pub within : n ≤ length es
  pub apart : (i j : ℕ) → i < n → j < n → cell_of es i ≡ cell_of es j → i ≡ j
  pub inside : (s j : ℕ) → slice_index ls s ≡ suc j → (j < n) × (s < m + 4 * j)
  pub led : (k : ℕ) → k < n → Led m ls (root_of m (cell_of es k)) (rest_of m (cell_of es k)) k

abbrev pub Absent : List CellEntry → ℕ → ℕ → Type 0
Absent es n c = (k : ℕ) → k < n → cell_of es k ≢ c

-- every link stays
abbrev pub Extends : List ℕ → List ℕ → Type 0
Extends ls ls' = (s j : ℕ) → slice_index ls s ≡ suc j → slice_index ls' s ≡ suc j

-- what a slot leads to is led to from the root of c, whatever links are added
abbrev pub OnWay : ℕ → List ℕ → ℕ → ℕ → ℕ → Type 0
OnWay m ls c s r = (ls' : List ℕ) → Extends ls ls' → (k : ℕ) → Led m ls' s r k → Led m ls' (root_of m c) (rest_of m c) k

pub record FreeFor (m : ℕ) (ls : List ℕ) (n c s : ℕ) : Type 0 where
  pub empty : slice_index_or ls s 0 ≡ 0
  pub under : s < m + 4 * n
  pub way : (ls' : List ℕ) → Extends ls ls' → (k : ℕ) → slice_index ls' s ≡ suc k → Led m ls' (root_of m c) (rest_of m c) k

abbrev pub Finds : ℕ → List ℕ → List CellEntry → ℕ → ℕ → Seat → Type 0
Finds m ls es n c (Taken k) = (k < n) × (cell_of es k ≡ c)
Finds m ls es n c (Free s) = Absent es n c × FreeFor m ls n c s

abbrev pub renewed : List CellEntry → ℕ → ℕ → ℕ → CellEntry
renewed es k last value = record { cell = cell_of es k; first = (slice_index_or es k none).first; last = last; value = value }
