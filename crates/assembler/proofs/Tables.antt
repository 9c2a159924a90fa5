-- The labels of a table as pairs. Assumes nothing.
use Rattle.std.proofs.Common.{◌≡◌, ℕ, ◌+◌, ◌<◌, ◌≤◌, Bool, true, false, List, [], ◌∷◌, ◌++◌, length, map, take, set, Option, refl, ap, ◌∙◌, length-take-le}
use Rattle.std.proofs.lemmas.List.{length-map, map-append, take_more_set}
use Rattle.std.specs.Option.{option_map}
use Rattle.std.specs.Str.{bytes_eq}
use Rattle.assembler.specs.declared.labels.Label.{Label}
use Rattle.assembler.specs.Labels.{entry, label_in, found}

abbrev pub number_in : List ℕ → List Label → Option ℕ
number_in name ls = option_map (λ l. l.number) (label_in name ls)

first_or : (name : List ℕ) (l : Label) (ls : List Label) (b : Bool) → bytes_eq l.name.now name ≡ b → number_in name ls ≡ found name (map entry ls) → number_in name (l ∷ ls) ≡ found name (map entry (l ∷ ls))
first_or name l ls true e h = rw e refl
first_or name l ls false e h = rw e h

pub found_entries : (name : List ℕ) (ls : List Label) → number_in name ls ≡ found name (map entry ls)
found_entries name [] = refl
found_entries name (l ∷ ls) = first_or name l ls _ refl (found_entries name ls)

-- of the first n labels, how many pairs there are, and what one label more adds
pub entries_length : (ls : List Label) (n : ℕ) → n ≤ length ls → length (map entry (take n ls)) ≡ n
entries_length ls n h = length-map (take n ls) entry ∙ length-take-le n ls h

pub entries_more : (ls : List Label) (n : ℕ) (l : Label) → n < length ls → map entry (take (n + 1) (set ls n l)) ≡ map entry (take n ls) ++ entry l ∷ []
entries_more ls n l h = ap (map entry) (take_more_set ls n l h) ∙ map-append entry (take n ls) (l ∷ [])
