-- Where the parts of a file begin: the head's field of 23 bytes, then fields of 11, 7, 11 and 24 bytes.
use Rattle.std.specs.Prelude.{ℕ, ◌+◌, ◌*◌}
use Rattle.dossier.specs.declared.record.Head.{Head}

abbrev pub instructions_start : Head → ℕ
instructions_start h = 23

abbrev pub words_start : Head → ℕ
words_start h = 23 + 11 * h.instructions

abbrev pub lines_start : Head → ℕ
lines_start h = words_start h + 7 * h.words

abbrev pub rows_start : Head → ℕ
rows_start h = lines_start h + 11 * h.lines

abbrev pub file_size : Head → ℕ
file_size h = rows_start h + 24 * h.rows
