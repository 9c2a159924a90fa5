-- The meaning of bytes counts its items and holds numbers that fit. Assumes nothing.
use Rattle.std.proofs.Common.{◌≡◌, ℕ, Bool, true, false, cond, eqb, List, length, take, drop, Some, None, Option, sym, refl, ap, ◌∙◌, arith, eqb-true}
use Rattle.dossier.specs.declared.record.Head.{Head}
use Rattle.dossier.specs.Numbers.{head_numbers, instruction_numbers, word_numbers, line_numbers, row_numbers}
use Rattle.dossier.specs.Meaning.{Made}
use Rattle.field.specs.Bytes.{Bytes}
use Rattle.field.specs.Payload.{head_payload, head_parsed, instruction_payload, instruction_parsed, word_payload, word_parsed, line_payload, line_parsed, row_payload, row_parsed}
use Rattle.field.specs.Forms.{head_form, instruction_form, word_form, line_form, row_form}
use Rattle.codec.specs.Layout.{words_start, lines_start, rows_start, file_size}
use Rattle.codec.specs.Held.{head_read, measured, head_of, held, meaning_of}
use Rattle.codec.proofs.PartForm.{bytes_take, bytes_drop, read_fits, items_listed}

whole : (h g : Head) (n : ℕ) (b : Bool) → eqb n (file_size h) ≡ b → cond b (Some h) None ≡ Some g → (h ≡ g) × (n ≡ file_size h)
whole h g n true e is = (cc, eqb-true n (file_size h) e)
whole h g n false e is = let z : ◌≡◌ {A = ℕ} 0 1 = cc in absurd (omega arith)

-- a head that is found was read, and the file is as long as it says
pub measured_some : (x : Option Head) (n : ℕ) (h : Head) → measured x n ≡ Some h → (x ≡ Some h) × (n ≡ file_size h)
measured_some None n h is = let z : ◌≡◌ {A = ℕ} 0 1 = cc in absurd (omega arith)
measured_some (Some g) n h is = let w = whole g h n (eqb n (file_size g)) refl is in let e = w.0 in (ap Some e, w.1 ∙ ap file_size e)

made_held : (bs : List ℕ) → Bytes bs → (x : Option Head) → head_of bs ≡ x → Made (held x bs)
made_held bs small None is = record {
  head = omega arith;
  instructions = record { counts = refl; fits = tt };
  words = record { counts = refl; fits = tt };
  lines = record { counts = refl; fits = tt };
  rows = record { counts = refl; fits = tt };
}
made_held bs small (Some h) is = record {
  head = read_fits 1 20 head_numbers head_payload head_parsed head_form (take 23 bs) h (bytes_take 23 bs small) (measured_some (head_read (take 23 bs)) (length bs) h is).0;
  instructions = items_listed 2 8 instruction_numbers instruction_payload instruction_parsed instruction_form 11 h (λ g. g.instructions) (drop 23 bs) (bytes_drop 23 bs small);
  words = items_listed 3 4 word_numbers word_payload word_parsed word_form 7 h (λ g. g.words) (drop (words_start h) bs) (bytes_drop (words_start h) bs small);
  lines = items_listed 4 8 line_numbers line_payload line_parsed line_form 11 h (λ g. g.lines) (drop (lines_start h) bs) (bytes_drop (lines_start h) bs small);
  rows = items_listed 5 21 row_numbers row_payload row_parsed row_form 24 h (λ g. g.rows) (drop (rows_start h) bs) (bytes_drop (rows_start h) bs small);
}

pub made_meaning : (bs : List ℕ) → Bytes bs → Made (meaning_of bs)
made_meaning bs small = made_held bs small (head_of bs) refl

-- under a head that is found, the file has the length that it says
pub long_enough : (bs : List ℕ) (x : Option Head) (h : Head) → x ≡ head_of bs → x ≡ Some h → length bs ≡ file_size h
long_enough bs x h e is = (measured_some (head_read (take 23 bs)) (length bs) h (sym e ∙ is)).1
