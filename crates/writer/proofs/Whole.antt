-- The whole of a dossier, tried and put. Assumes nothing.
use Rattle.std.proofs.Common.{◌≡◌, ℕ, ◌≤◌, Bool, true, cond, leb, List, ◌++◌, take, Some, Ok, Err, Result, sym, refl, ap, ◌∙◌, subst, arith}
use Rattle.std.proofs.lemmas.List.{take_at}
use Rattle.std.proofs.lemmas.Bool.Decides.{nat_tests}
use Rattle.dossier.specs.declared.record.Head.{Head}
use Rattle.dossier.specs.declared.refusal.Part.TheVariants as part
use Rattle.dossier.specs.declared.refusal.Refusal.{Refusal}
use Rattle.dossier.specs.Meaning.{Item, Meaning, Made, Readable, IsRecord, item_answer, head_answer}
use Rattle.writer.specs.declared.refusal.WriteRefusal.TheVariants.{Room}
use Rattle.codec.specs.Layout.{file_size}
use Rattle.codec.specs.Held.{meaning_of}
use Rattle.codec.specs.Written.{written}
use Rattle.writer.specs.Write.{then_try, first_fault, items_answer, answered, under_head, write_answer}
use Rattle.writer.proofs.Faults.{all_records}
use Rattle.codec.proofs.Laws.{length_written, reads_back}

pub head_is : (x : Item Head) (h : Head) → Ok h ≡ item_answer part.Head 0 (Some x) → x ≡ Ok h
head_is (Ok g) h is = let e = sym is in cc
head_is (Err l) h is = let z : ◌≡◌ {A = ℕ} 0 1 = cc in absurd (omega arith)

tried : (x y : Result Unit Refusal) → then_try x y ≡ Ok tt → (x ≡ Ok tt) × (y ≡ Ok tt)
tried (Ok u) y is = (refl, is)
tried (Err e) y is = let z : ◌≡◌ {A = ℕ} 0 1 = cc in absurd (omega arith)

record_head : (x : Item Head) (h : Head) → x ≡ Ok h → IsRecord x
record_head x h is = subst IsRecord (sym is) tt

pub all_readable : (m : Meaning) (h : Head) → m.head ≡ Ok h → items_answer m ≡ Ok tt → Readable m
all_readable m h under is =
    let rows = first_fault part.Row 0 m.rows in
    let lines = first_fault part.Line 0 m.lines in
    let words = first_fault part.Word 0 m.words in
    let i = tried (first_fault part.Instruction 0 m.instructions) (then_try words (then_try lines rows)) is in
    let w = tried words (then_try lines rows) i.1 in
    let l = tried lines rows w.1 in
    record {
      head = record_head m.head h under;
      instructions = all_records part.Instruction 0 m.instructions i.0;
      words = all_records part.Word 0 m.words w.0;
      lines = all_records part.Line 0 m.lines l.0;
      rows = all_records part.Row 0 m.rows l.1;
    }

pub write_ok : (m : Meaning) (h : Head) (n room : ℕ) → Ok h ≡ head_answer m → items_answer m ≡ Ok tt → n ≡ file_size h → n ≤ room → Ok n ≡ write_answer m room
write_ok m h n room under is size enough =
    let passes : leb (file_size h) room ≡ true = grind (arith, nat_tests) in
    ap Ok size ∙ sym (ap (λ x. answered x (file_size h)) is) ∙ sym (ap (λ (b : Bool). cond b (answered (items_answer m) (file_size h)) (Err (Room (file_size h)))) passes) ∙ ap (λ x. under_head x (items_answer m) room) under

-- what was written at the start is read back
pub write_back : (m : Meaning) (h : Head) (n k : ℕ) (out rest : List ℕ) → m.head ≡ Ok h → Made m → Readable m → n ≡ file_size h → out ≡ written m ++ rest → n ≡ k → meaning_of (take k out) ≡ m
write_back m h n k out rest under made all size is same =
    ap (λ (x : List ℕ). meaning_of (take k x)) is ∙ ap meaning_of (take_at (written m) rest k (length_written m h under made all ∙ sym size ∙ same)) ∙ reads_back m made all
