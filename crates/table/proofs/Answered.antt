-- The item that the entry at a place of a table gives.
-- Assumes nothing.
use Rattle.std.proofs.Common.{◌≡◌, ℕ, ◌<◌, ◌≤◌, List, map, length, get_or, Some, None, Ok, Err, Option, sym, refl, ap}
use Rattle.std.specs.List.{slice_get}
use Rattle.std.proofs.lemmas.List.{length-map}
use Rattle.std.proofs.lemmas.Option.{slice_get-map, slice_get_read, slice_get_past}
use Rattle.dossier.specs.declared.record.Head.{Head}
use Rattle.dossier.specs.declared.refusal.Part.{Part}
use Rattle.dossier.specs.declared.refusal.Refusal.TheVariants.{Past}
use Rattle.dossier.specs.Meaning.{Item, item_answer}
use Rattle.table.specs.Held.{listed}

module _ {E R : Type 0} (f : E → R) (p : Part) where
  pub inside : (h : Head) (xs : List E) (k : ℕ) (x : E) → k < length xs → x ≡ get_or xs k x →
      Ok (f x) ≡ item_answer p k (slice_get (listed (Some h) (map f xs)) k)
  inside h xs k x l e = rw (slice_get-map {B = Item R} Ok (map f xs) k, slice_get-map f xs k, slice_get_read xs (length xs) k x refl l e)

  pub beyond : (h : Option Head) (xs : List E) (k : ℕ) → length xs ≤ k → Err (Past p k) ≡ item_answer p k (slice_get (listed h (map f xs)) k)
  beyond None xs k l = refl
  beyond (Some h) xs k l = sym (ap (item_answer p k) (slice_get_past (map Ok (map f xs)) k (rw (length-map, length-map) l)))
