-- What is read at a computed place of a part is the answer to the question for that place. Assumes nothing.
use Rattle.std.proofs.Common.{◌≡◌, ℕ, ◌+◌, ◌-◌, ◌*◌, ◌<◌, ◌≤◌, List, length, take, drop, Some, None, Err, Option, Result, sym, refl, ap, ◌∙◌, arith}
use Rattle.std.specs.List.{slice_get}
use Rattle.std.specs.Option.{ok_or}
use Rattle.dossier.specs.declared.record.Head.{Head}
use Rattle.dossier.specs.declared.refusal.Part.{Part}
use Rattle.dossier.specs.declared.refusal.Refusal.{Refusal}
use Rattle.dossier.specs.declared.refusal.Refusal.TheVariants.{Past, Unreadable}
use Rattle.dossier.specs.Meaning.{Item, Meaning, item_answer}
use Rattle.field.specs.Bytes.{field_read}
use Rattle.codec.specs.Held.{PartOfFile, item_of, items, held, head_of, meaning_of}
use Rattle.codec.proofs.Items.{room, nth_none, item_found}
use Rattle.codec.proofs.Meant.{long_enough}

-- the error that is made of none
pub refused : {T E : Type 0} (o : Option T) (e : E) (r : Result T E) (x : E) → None ≡ o → r ≡ ok_or o e → r ≡ Err x → x ≡ e
refused None e r x none made was = cc
refused (Some t) e r x none made was = let z : ◌≡◌ {A = ℕ} 0 1 = cc in absurd (omega arith)

told : {R : Type 0} (p : Part) (k : ℕ) (x : Option R) → ok_or x (Unreadable (record { part = p; place = k; layer = 1 })) ≡ item_answer p k (Some (item_of x))
told p k None = refl
told p k (Some r) = refl

module _ {R : Type 0} (t s : ℕ) (parsed : List ℕ → Option R) (list : Meaning → List (Item R)) (count start : Head → ℕ) (placed : PartOfFile t s parsed list count start) (p : Part) (k : ℕ) (bs : List ℕ) where
  answer : Option Head → Result R Refusal
  answer x = item_answer p k (slice_get (list (held x bs)) k)

  pub no_head : None ≡ head_of bs → Err (Past p k) ≡ item_answer p k (slice_get (list (meaning_of bs)) k)
  unfolding answer
  no_head e = ap (λ (xs : List (Item R)). item_answer p k (slice_get xs k)) (sym (placed.none bs)) ∙ ap answer e

  module _ (h : Head) (is : Some h ≡ head_of bs) where
    under : item_answer p k (slice_get (items (field_read t s parsed) (3 + s) (count h) (drop (start h) bs)) k) ≡ item_answer p k (slice_get (list (meaning_of bs)) k)
    unfolding answer
    under = ap (λ (xs : List (Item R)). item_answer p k (slice_get xs k)) (sym (placed.stands h bs)) ∙ ap answer is

    pub past_end : count h ≤ k → Err (Past p k) ≡ item_answer p k (slice_get (list (meaning_of bs)) k)
    past_end past = ap (item_answer p k) (sym (nth_none (field_read t s parsed) (3 + s) (count h) k (drop (start h) bs) past)) ∙ under

    -- the field stands between these two places
    module _ (from to : ℕ) (begins : from ≡ start h + (3 + s) * k) (ends : to ≡ start h + (3 + s) * (k + 1)) (inside : k < count h) where
      pub in_file : to ≤ length bs
      in_file =
          let long = long_enough bs (Some h) h is refl in
          let last = room (3 + s) k (count h) inside in
          let within = placed.within h in
          omega arith

      pub found : (x : Option R) → x ≡ field_read t s parsed (take (to - from) (drop from bs)) → ok_or x (Unreadable (record { part = p; place = k; layer = 1 })) ≡ item_answer p k (slice_get (list (meaning_of bs)) k)
      found x read =
          let b = start h + (3 + s) * k in
          let after : to ≡ b + (3 + s) = omega arith in
          let here = read ∙ ap (λ n. field_read t s parsed (take (to - n) (drop n bs))) begins ∙ ap (λ n. field_read t s parsed (take (n - b) (drop b bs))) after in
          told p k x
          ∙ item_found (field_read t s parsed) (3 + s) p (3 + s) (count h) k (start h) bs x refl inside here
          ∙ under
