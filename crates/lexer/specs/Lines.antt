-- A text as lines.
--   lines bs        the lines of a text, without their ends
--   first_line bs   the first line
--   other_lines bs  the text of the others
-- Assumes nothing.
use Rattle.std.specs.Prelude.{ℕ, cond, ◌&&◌, ◌||◌, List, [], ◌∷◌, drop, ◌==◌, slice_index}
use Rattle.lexer.specs.declared.class.Class.TheVariants.{Line}
use Rattle.lexer.specs.Classes.{front, past}

-- b in front of the first line
abbrev pub onto : ℕ → List (List ℕ) → List (List ℕ)
onto b [] = (b ∷ []) ∷ []
onto b (l ∷ ls) = (b ∷ l) ∷ ls

-- an LF ends a line, and so does a CR that stands before no LF; a CR before an LF is passed over
abbrev pub lines : List ℕ → List (List ℕ)
lines [] = []
lines (b ∷ bs) =
    cond (b == 10) ([] ∷ lines bs)
    (cond (b == 13) (cond (slice_index bs 0 == 10) (lines bs) ([] ∷ lines bs))
    (onto b (lines bs)))

abbrev pub first_line : List ℕ → List ℕ
first_line bs = front Line bs

abbrev pub past_end : List ℕ → List ℕ
past_end bs =
    cond (slice_index bs 0 == 13 && slice_index bs 1 == 10) (drop 1 (drop 1 bs))
    (cond (slice_index bs 0 == 13 || slice_index bs 0 == 10) (drop 1 bs) bs)

abbrev pub other_lines : List ℕ → List ℕ
other_lines bs = past_end (past Line bs)
