-- Cells: memory is a function from a cell's address, a multiple of 4, to its word.
--   cell_of k              the address of the cell that holds the byte at address k
--   loaded size k n        what a load at k takes from its cell, which holds n
--   stored size k w n      what a store of w at k leaves in its cell, which held n
--   byte_at m k            the byte of memory m at address k
--   Bytewise size k w n r  leaving r in the cell stores w at k: byte by byte, and nothing else
-- Assumes nothing.
use Rattle.std.specs.Prelude.{◌≡◌, ℕ, ◌+◌, ◌-◌, ◌*◌, ◌/◌, ◌%◌, Bool, cond, List, [], ◌∷◌, ◌==◌, slice_index, slice_set}
use Rattle.word.specs.declared.cell.Size.{Size}
use Rattle.word.specs.declared.cell.Size.TheVariants.{Byte, Word}

-- the four bytes of a word, the lowest first
abbrev pub bytes_of : ℕ → List ℕ
bytes_of n = (n % 256) ∷ (n / 256 % 256) ∷ (n / 65536 % 256) ∷ (n / 16777216 % 256) ∷ []

abbrev pub word_of : List ℕ → ℕ
word_of b = slice_index b 0 + slice_index b 1 * 256 + slice_index b 2 * 65536 + slice_index b 3 * 16777216

abbrev pub cell_of : ℕ → ℕ
cell_of k = k - k % 4

-- a byte is loaded with zeros in front
abbrev pub loaded : Size → ℕ → ℕ → ℕ
loaded Byte k n = slice_index (bytes_of n) (k % 4)
loaded Word k n = n

-- of a word that is stored as a byte, the lowest byte
abbrev pub stored : Size → ℕ → ℕ → ℕ → ℕ
stored Byte k w n = word_of (slice_set (bytes_of n) (k % 4) (w % 256))
stored Word k w n = w

abbrev pub byte_at : (ℕ → ℕ) → ℕ → ℕ
byte_at m k = loaded Byte k (m (cell_of k))

-- memory m with r in cell c
abbrev pub with_cell : (ℕ → ℕ) → ℕ → ℕ → ℕ → ℕ
with_cell m c r d = cond (d == c) r (m d)

-- a store at k covers address j: that byte, or the four bytes of the cell
abbrev pub covers : Size → ℕ → ℕ → Bool
covers Byte k j = j == k
covers Word k j = cell_of j == cell_of k

-- the byte that a store of w puts at address j: of a word the lowest byte comes first
abbrev pub byte_stored : Size → ℕ → ℕ → ℕ
byte_stored Byte w j = w % 256
byte_stored Word w j = slice_index (bytes_of w) (j % 4)

abbrev pub Bytewise : Size → ℕ → ℕ → ℕ → ℕ → Type 0
Bytewise size k w n r =
    (m : ℕ → ℕ) → m (cell_of k) ≡ n → (j : ℕ) → byte_at (with_cell m (cell_of k) r) j ≡ cond (covers size k j) (byte_stored size w j) (byte_at m j)
