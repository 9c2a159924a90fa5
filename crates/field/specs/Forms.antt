-- The five kinds of record and their payloads answer each other. Assumes nothing.
use Rattle.std.specs.Prelude.{◌≡◌, ℕ, ◌*◌, List, length, Some, ◌==◌, refl}
use Rattle.std.proofs.Common.{sym, ap, subst, ◌∙◌, arith, rules}
use Rattle.std.specs.List.{flat_map}
use Rattle.dossier.specs.declared.record.Row.{Row}
use Rattle.dossier.specs.declared.record.Row.TheVariants.{Plain, FromLine, FromStep, Advice, AdviceEnd}
use Rattle.dossier.specs.Numbers.{Fit, Words, head_numbers, instruction_numbers, word_numbers, line_numbers, row_numbers}
use Rattle.field.specs.Bytes.{Form, bytes_of, word_at, words_at}
use Rattle.field.specs.Payload.{sized, head_payload, head_parsed, instruction_payload, instruction_parsed, word_payload, word_parsed, line_payload, line_parsed, row_payload, row_parsed}
use Rattle.field.specs.Fields.{opened}
use Rattle.field.specs.LittleEndian.{word_back, words_only, words_fit}
use Rattle.field.specs.RowForm.{row_length, row_only, row_fits}

-- a record whose payload is its k numbers, and the record that bytes hold
module _ {R : Type 0} (k : ℕ) (numbers : R → List ℕ) (held : List ℕ → R) (all : (bs : List ℕ) → words_at bs 0 k ≡ numbers (held bs)) where
  whole : (bs : List ℕ) (r : R) → sized (4 * k) (held bs) bs ≡ Some r → (length bs ≡ 4 * k) × (words_at bs 0 k ≡ numbers r)
  whole bs r is = let o = opened (4 * k) bs (Some (held bs)) r (length bs == 4 * k) refl is in let e = o.1 in let same : held bs ≡ r = cc in (o.0, all bs ∙ ap numbers same)

  words_form : ((r : R) → length (flat_map bytes_of (numbers r)) ≡ 4 * k) → ((r : R) → Fit numbers r → sized (4 * k) (held (flat_map bytes_of (numbers r))) (flat_map bytes_of (numbers r)) ≡ Some r) → Form (4 * k) numbers (λ r. flat_map bytes_of (numbers r)) (λ bs. sized (4 * k) (held bs) bs)
  words_form long back = record {
    long = long;
    back = back;
    only = λ bs r small is. let w = whole bs r is in sym (words_only bs 0 k small (omega arith)) ∙ ap (flat_map bytes_of) w.1;
    fits = λ bs r small is. let w = whole bs r is in subst Words w.1 (words_fit bs 0 k small (omega arith));
  }

pub head_form : Form 20 head_numbers head_payload head_parsed
head_form = words_form 5 head_numbers (λ bs. record { instructions = word_at bs 0; words = word_at bs 4; lines = word_at bs 8; rows = word_at bs 12; bound = word_at bs 16 }) (λ bs. refl) (λ r. refl) (λ r f. search (rules, word_back))

pub instruction_form : Form 8 instruction_numbers instruction_payload instruction_parsed
instruction_form = words_form 2 instruction_numbers (λ bs. record { first = word_at bs 0; second = word_at bs 4 }) (λ bs. refl) (λ r. refl) (λ r f. search (rules, word_back))

pub word_form : Form 4 word_numbers word_payload word_parsed
word_form = words_form 1 word_numbers (λ bs. word_at bs 0) (λ bs. refl) (λ r. refl) (λ r f. search (rules, word_back))

pub line_form : Form 8 line_numbers line_payload line_parsed
line_form = words_form 2 line_numbers (λ bs. record { cell = word_at bs 0; step = word_at bs 4 }) (λ bs. refl) (λ r. refl) (λ r f. search (rules, word_back))

row_back : (r : Row) → Fit row_numbers r → row_parsed (row_payload r) ≡ Some r
row_back Plain f = refl
row_back (FromLine t) f = search (rules, word_back)
row_back (FromStep t) f = search (rules, word_back)
row_back (Advice w) f = search (rules, word_back)
row_back AdviceEnd f = refl

pub row_form : Form 21 row_numbers row_payload row_parsed
row_form = record { long = row_length; back = row_back; only = row_only; fits = row_fits }
