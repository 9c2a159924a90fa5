-- Classes of bytes.
--   belongs class b  the byte b is of the class
--   front class bs   the longest front of bs whose bytes are of the class
--   past class bs    what follows that front
-- Assumes nothing.
use Rattle.std.specs.Prelude.{ℕ, Bool, not, ◌&&◌, ◌||◌, List, drop, ◌==◌, nat_le}
use Rattle.std.specs.List.{prefix_len, take_while}
use Rattle.lexer.specs.declared.class.Class.{Class}
use Rattle.lexer.specs.declared.class.Class.TheVariants.{Blank, Word, Name, Digit, Line}

abbrev pub between : ℕ → ℕ → ℕ → Bool
between low high b = nat_le low b && nat_le b high

abbrev pub belongs : Class → ℕ → Bool
belongs Blank b = b == 32 || b == 9
belongs Word b = b == 45 || b == 46 || between 48 57 b || between 65 90 b || b == 95 || between 97 122 b
belongs Name b = between 48 57 b || between 65 90 b || b == 95 || between 97 122 b
belongs Digit b = between 48 57 b
belongs Line b = not (b == 10 || b == 13)

abbrev pub front : Class → List ℕ → List ℕ
front class bs = take_while (belongs class) bs

abbrev pub past : Class → List ℕ → List ℕ
past class bs = drop (prefix_len (belongs class) bs) bs
