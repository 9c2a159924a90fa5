-- One more item is put after those of its part. Assumes nothing.
use Rattle.std.proofs.Common.{◌≡◌, ℕ, zero, suc, ◌+◌, ◌-◌, ◌*◌, ◌<◌, ◌≤◌, List, [], ◌∷◌, ◌++◌, length, get_or, take, drop, Some, Ok, Err, Option, sym, ap, ◌∙◌, arith, length-drop, length-take}
use borrow.Rule.Slice.PartMut.{put_mid}
use Rattle.std.specs.List.{slice_get, flat_map}
use Rattle.std.proofs.lemmas.List.{take_more, flat_map_more}
use Rattle.std.proofs.lemmas.Option.{slice_get-get_or}
use Rattle.std.proofs.lemmas.Slice.{take-put_mid}
use Rattle.dossier.specs.declared.refusal.Part.{Part}
use Rattle.dossier.specs.Meaning.{Item, Each, IsRecord, item_answer}
use Rattle.field.specs.Bytes.{Form, field_bytes}
use Rattle.field.specs.Fields.{filled_is}
use Rattle.codec.specs.Written.{item_bytes}
use Rattle.codec.proofs.Items.{room}
use Rattle.codec.proofs.PartForm.{length_item}
use Rattle.writer.specs.Write.{put}

-- the field at place k of a part ends within the file
pub field_within : (start z size b k n m len : ℕ) → size ≡ z → b ≡ start → m ≡ n → k < m → start + z * n ≤ len → b + size * k + size ≤ len
field_within start z size b k n m len e f c inside all =
    let last = room z k n (omega arith) in
    let same = ap (λ x. x * k) e in
    omega arith

pub record_at : {R : Type 0} (xs : List (Item R)) (k : ℕ) → Each IsRecord xs → k < length xs → IsRecord (get_or xs k (Err 0))
record_at [] k all h = absurd (omega arith)
record_at (x ∷ xs) zero all h = all.0
record_at (x ∷ xs) (suc k) all h = record_at xs k all.1 (omega arith)

module _ {R : Type 0} (t s : ℕ) (numbers payload : R → List ℕ) (parsed : List ℕ → Option R) (form : Form s numbers payload parsed) where
  put_item : (p : Part) (k : ℕ) (x : Item R) (old : List ℕ) → IsRecord x → length old ≡ 3 + s → put t s payload (item_answer p k (Some x)) old ≡ item_bytes t s payload x
  put_item p k (Ok r) old is long = let l = form.long r in filled_is (field_bytes t s (payload r)) old (omega arith)
  put_item p k (Err l) old none long = absurd none

  pub put_more : (p : Part) (k at w b : ℕ) (xs : List (Item R)) (out ys front : List ℕ) → w ≡ 3 + s → at + w ≤ length out → k < length xs → Each IsRecord xs → take at out ≡ front ++ flat_map (item_bytes t s payload) (take k xs) → ys ≡ put t s payload (item_answer p k (slice_get xs k)) (take (at + w - at) (drop at out)) → take (at + w) (put_mid at b out ys) ≡ front ++ flat_map (item_bytes t s payload) (take (k + 1) xs)
  put_more p k at w b xs out ys front size room h all before is =
      let x = get_or xs k (Err 0) in
      let old = take (at + w - at) (drop at out) in
      let record-here = record_at xs k all h in
      let long-old : length old ≡ 3 + s = let e = length-take (at + w - at) (drop at out) in let f = length-drop at out in omega arith in
      let ys-is : ys ≡ item_bytes t s payload x = is ∙ ap (λ (y : Option (Item R)). put t s payload (item_answer p k y) old) (slice_get-get_or xs k (Err 0) h) ∙ put_item p k x old record-here long-old in
      let long-ys : length ys ≡ 3 + s = ap length ys-is ∙ length_item t s numbers payload parsed form x record-here in
      let step = take-put_mid at b out ys (at + w) (omega arith) (omega arith) in
      let more = flat_map_more (item_bytes t s payload) front (take k xs) x in
      let last = take_more xs k (Err 0) h in
      step ∙ ap (λ (y : List ℕ). y ++ ys) before ∙ ap (λ (y : List ℕ). (front ++ flat_map (item_bytes t s payload) (take k xs)) ++ y) ys-is ∙ more ∙ ap (λ (y : List (Item R)). front ++ flat_map (item_bytes t s payload) y) (sym last)
