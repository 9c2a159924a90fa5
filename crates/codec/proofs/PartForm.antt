-- A field of any kind of record, and the items of a part. Assumes nothing.
use Rattle.std.proofs.Common.{◌≡◌, ℕ, zero, suc, ◌+◌, ◌*◌, ◌<◌, ◌≤◌, Bool, true, false, cond, ◌&&◌, eqb, List, [], ◌∷◌, ◌++◌, length, get_or, take, drop, Some, None, Ok, Err, Option, sym, refl, ap, ◌∙◌, mul-zero, zero-add, mul-suc, arith, length-append, length-drop, length-take}
use Rattle.std.proofs.lemmas.List.{get_or-take, get_or-drop, append_assoc, take_at, drop_at, drop-drop, take-append-drop}
use Rattle.dossier.specs.declared.record.Head.{Head}
use Rattle.dossier.specs.Numbers.{Fit}
use Rattle.dossier.specs.Meaning.{Item, ItemFits, IsRecord, Each, Listed}
use Rattle.field.specs.Bytes.{Bytes, Form, field_bytes, field_read}
use Rattle.field.specs.Fields.{field_back, field_only}
use Rattle.std.specs.List.{flat_map}
use Rattle.codec.specs.Held.{item_of, items}
use Rattle.codec.specs.Written.{item_bytes}
use Rattle.codec.proofs.Items.{length_items}

pub bytes_take : (n : ℕ) (bs : List ℕ) → Bytes bs → Bytes (take n bs)
bytes_take n bs small k h =
    let e = length-take n bs in
    let inside : k < n = omega arith in
    let same = get_or-take n bs k 0 inside in
    let b = small k (omega arith) in
    omega arith

pub bytes_drop : (n : ℕ) (bs : List ℕ) → Bytes bs → Bytes (drop n bs)
bytes_drop n bs small k h =
    let e = length-drop n bs in
    let same = get_or-drop n bs k 0 in
    let b = small (n + k) (omega arith) in
    omega arith

take_none : {X : Type 0} (n : ℕ) → take {A = X} n [] ≡ []
take_none zero = refl
take_none (suc n) = refl

pub take_add : {X : Type 0} (m n : ℕ) (xs : List X) → take m xs ++ take n (drop m xs) ≡ take (m + n) xs
take_add zero n xs = ap (λ x. take x xs) (sym (zero-add n))
take_add (suc m) n [] = take_none n ∙ sym (take_none (suc m + n))
take_add {X = X} (suc m) n (x ∷ xs) = let e : suc (m + n) ≡ suc m + n = omega arith in ap (λ (ys : List X). x ∷ ys) (take_add m n xs) ∙ ap (λ k. take k (x ∷ xs)) e

passed : {R : Type 0} (b : Bool) (x : Option R) (r : R) → cond b x None ≡ Some r → x ≡ Some r
passed true x r is = is
passed false x r is = let z : ◌≡◌ {A = ℕ} 0 1 = cc in absurd (omega arith)

module _ {R : Type 0} (t s : ℕ) (numbers payload : R → List ℕ) (parsed : List ℕ → Option R) (form : Form s numbers payload parsed) where
  pub read_fits : (bs : List ℕ) (r : R) → Bytes bs → field_read t s parsed bs ≡ Some r → Fit numbers r
  read_fits bs r small is =
      form.fits (drop 3 bs) r (bytes_drop 3 bs small) (passed (eqb (length bs) (3 + s) && (eqb (get_or bs 0 0) t && eqb (get_or bs 1 0 + get_or bs 2 0 * 256) s)) (parsed (drop 3 bs)) r is)

  pub read_back : (r : R) → Fit numbers r → field_read t s parsed (field_bytes t s (payload r)) ≡ Some r
  read_back r fit = field_back t s parsed payload r (form.long r) (form.back r fit)

  pub read_only : (bs : List ℕ) (r : R) → Bytes bs → field_read t s parsed bs ≡ Some r → bs ≡ field_bytes t s (payload r)
  read_only bs r small is = field_only t s parsed payload bs r small is (form.only (drop 3 bs) r (bytes_drop 3 bs small))

  item_fits : (bs : List ℕ) (x : Option R) → Bytes bs → field_read t s parsed bs ≡ x → ItemFits numbers (item_of x)
  item_fits bs None small is = omega arith
  item_fits bs (Some r) small is = read_fits bs r small is

  items_fit : (z n : ℕ) (bs : List ℕ) → Bytes bs → Each (ItemFits numbers) (items (field_read t s parsed) z n bs)
  items_fit z zero bs small = tt
  items_fit z (suc n) bs small = (item_fits (take z bs) (field_read t s parsed (take z bs)) (bytes_take z bs small) refl, items_fit z n (drop z bs) (bytes_drop z bs small))

  pub items_listed : (z : ℕ) (h : Head) (count : Head → ℕ) (bs : List ℕ) → Bytes bs → Listed (Ok h) count numbers (items (field_read t s parsed) z (count h) bs)
  items_listed z h count bs small = record { counts = length_items (field_read t s parsed) z (count h) bs; fits = items_fit z (count h) bs small }

  pub length_item : (x : Item R) → IsRecord x → length (item_bytes t s payload x) ≡ 3 + s
  length_item (Ok r) yes-record = let l = form.long r in omega arith
  length_item (Err l) none = absurd none

  -- a part of n records takes n fields
  pub length_part : (xs : List (Item R)) → Each IsRecord xs → length (flat_map (item_bytes t s payload) xs) ≡ (3 + s) * length xs
  length_part [] all = sym (mul-zero (3 + s))
  length_part (x ∷ xs) all =
      let one = length_item x all.0 in
      let more = length_part xs all.1 in
      let both = length-append (item_bytes t s payload x) (flat_map (item_bytes t s payload) xs) in
      let step = mul-suc (3 + s) (length xs) in
      omega arith

  back_item : (x : Item R) → IsRecord x → ItemFits numbers x → item_of (field_read t s parsed (item_bytes t s payload x)) ≡ x
  back_item (Ok r) is fit = ap item_of (read_back r fit)
  back_item (Err l) none fit = absurd none

  -- the items that are written are read back, whatever follows them
  pub part_back : (xs : List (Item R)) (rest : List ℕ) → Each IsRecord xs → Each (ItemFits numbers) xs → items (field_read t s parsed) (3 + s) (length xs) (flat_map (item_bytes t s payload) xs ++ rest) ≡ xs
  part_back [] rest all fit = refl
  part_back (x ∷ xs) rest all fit =
      let field = item_bytes t s payload x in
      let others = flat_map (item_bytes t s payload) xs ++ rest in
      let assoc = append_assoc field (flat_map (item_bytes t s payload) xs) rest in
      let first : take (3 + s) ((field ++ flat_map (item_bytes t s payload) xs) ++ rest) ≡ field = ap (take (3 + s)) assoc ∙ take_at field others (3 + s) (length_item x all.0) in
      let after : drop (3 + s) ((field ++ flat_map (item_bytes t s payload) xs) ++ rest) ≡ others = ap (drop (3 + s)) assoc ∙ drop_at field others (3 + s) (length_item x all.0) in
      let here = ap (λ (y : List ℕ). item_of (field_read t s parsed y)) first ∙ back_item x all.0 fit.0 in
      let there = ap (items (field_read t s parsed) (3 + s) (length xs)) after ∙ part_back xs rest all.1 fit.1 in
      cc

  only_item : (bs : List ℕ) (x : Option R) → Bytes bs → field_read t s parsed bs ≡ x → IsRecord (item_of x) → item_bytes t s payload (item_of x) ≡ bs
  only_item bs None small is none = absurd none
  only_item bs (Some r) small is yes-record = sym (read_only bs r small is)

  -- bytes that read as records are these records' fields
  pub part_only : (z n : ℕ) (bs : List ℕ) → Bytes bs → z * n ≤ length bs → Each IsRecord (items (field_read t s parsed) z n bs) → flat_map (item_bytes t s payload) (items (field_read t s parsed) z n bs) ≡ take (z * n) bs
  part_only z zero bs small room all = sym (ap (λ x. take x bs) (mul-zero z))
  part_only z (suc n) bs small room all =
      let step = mul-suc z n in
      let len = length-drop z bs in
      let here = only_item (take z bs) (field_read t s parsed (take z bs)) (bytes_take z bs small) refl all.0 in
      let there = part_only z n (drop z bs) (bytes_drop z bs small) (omega arith) all.1 in
      let sum : z * suc n ≡ z + z * n = omega arith in
      let join = take_add z (z * n) bs in
      ap (λ (y : List ℕ). y ++ flat_map (item_bytes t s payload) (items (field_read t s parsed) z n (drop z bs))) here ∙ ap (λ (y : List ℕ). take z bs ++ y) there ∙ join ∙ ap (λ x. take x bs) (sym sum)

  -- a part that stands at a place, and what stands after it
  pub part_here : (n : ℕ) (xs : List (Item R)) (bs rest : List ℕ) → length xs ≡ n → bs ≡ flat_map (item_bytes t s payload) xs ++ rest → Each IsRecord xs → Each (ItemFits numbers) xs → items (field_read t s parsed) (3 + s) n bs ≡ xs
  part_here n xs bs rest e is all fit = ap (λ k. items (field_read t s parsed) (3 + s) k bs) (sym e) ∙ ap (items (field_read t s parsed) (3 + s) (length xs)) is ∙ part_back xs rest all fit

  pub part_next : (n start : ℕ) (xs : List (Item R)) (bs rest : List ℕ) → length xs ≡ n → drop start bs ≡ flat_map (item_bytes t s payload) xs ++ rest → Each IsRecord xs → drop (start + (3 + s) * n) bs ≡ rest
  part_next n start xs bs rest e is all = sym (drop-drop ((3 + s) * n) start bs) ∙ ap (drop ((3 + s) * n)) is ∙ drop_at (flat_map (item_bytes t s payload) xs) rest ((3 + s) * n) (length_part xs all ∙ ap (λ k. (3 + s) * k) e)

  pub part_whole : (n start : ℕ) (bs rest : List ℕ) → Bytes bs → start + (3 + s) * n ≤ length bs → Each IsRecord (items (field_read t s parsed) (3 + s) n (drop start bs)) → rest ≡ drop (start + (3 + s) * n) bs → flat_map (item_bytes t s payload) (items (field_read t s parsed) (3 + s) n (drop start bs)) ++ rest ≡ drop start bs
  part_whole n start bs rest small room all after =
      let len = length-drop start bs in
      let here = part_only (3 + s) n (drop start bs) (bytes_drop start bs small) (omega arith) all in
      ap (λ (x : List ℕ). x ++ rest) here ∙ ap (λ (x : List ℕ). take ((3 + s) * n) (drop start bs) ++ x) (after ∙ sym (drop-drop ((3 + s) * n) start bs)) ∙ take-append-drop ((3 + s) * n) (drop start bs)
