-- The labels that a program defines.
--   known t        the labels of a table, each with the number that it stands for, in the order of the text
--   found name ls  the number that a name stands for among the labels ls
--   Known          what some lines define: labels, and how many instructions there are
-- Assumes nothing.
use Rattle.std.specs.Prelude.{ℕ, List, [], map, take, Option}
use Rattle.std.specs.List.{find}
use Rattle.std.specs.Option.{option_map}
use Rattle.std.specs.Str.{bytes_eq}
use Rattle.assembler.specs.declared.labels.Label.{Label}
use Rattle.assembler.specs.declared.labels.Labels as declared

abbrev pub entry : Label → List ℕ × ℕ
entry l = (l.name.now, l.number)

-- the first label of a name
abbrev pub label_in : List ℕ → List Label → Option Label
label_in name ls = find (λ l. bytes_eq l.name.now name) ls

abbrev pub known : declared.Labels → List (List ℕ × ℕ)
known t = map entry (take t.count t.labels)

abbrev pub found : List ℕ → List (List ℕ × ℕ) → Option ℕ
found name ls = option_map (λ l. l.1) (find (λ l. bytes_eq l.0 name) ls)

pub record Known : Type 0 where
  pub labels : List (List ℕ × ℕ)
  pub instructions : ℕ

abbrev pub summary : declared.Labels → Known
summary t = record { labels = known t; instructions = t.instructions }

abbrev pub none : Known
none = record { labels = []; instructions = 0 }
