-- What is written is read back, and bytes that are readable throughout are the written form of their meaning. Assumes nothing.
use Rattle.std.proofs.Common.{◌≡◌, ℕ, ◌+◌, ◌*◌, Bool, cond, List, [], ◌++◌, length, take, drop, Some, None, Ok, Err, Option, sym, refl, ap, ◌∙◌, arith, length-append, eq-eqb}
use Rattle.std.proofs.lemmas.List.{append-nil, take_at, drop_at, drop_all, take-append-drop}
use Rattle.encoding.specs.declared.instruction.Instruction.{Instruction}
use Rattle.dossier.specs.declared.record.Head.{Head}
use Rattle.dossier.specs.declared.record.Line.{Line}
use Rattle.dossier.specs.declared.record.Row.{Row}
use Rattle.dossier.specs.Numbers.{head_numbers, instruction_numbers, word_numbers, line_numbers, row_numbers}
use Rattle.dossier.specs.Meaning.{Item, Meaning, Made, Readable, counted}
use Rattle.field.specs.Bytes.{Bytes, field_bytes}
use Rattle.field.specs.Payload.{head_payload, head_parsed, instruction_payload, instruction_parsed, word_payload, word_parsed, line_payload, line_parsed, row_payload, row_parsed}
use Rattle.field.specs.Forms.{head_form, instruction_form, word_form, line_form, row_form}
use Rattle.codec.specs.Layout.{words_start, lines_start, rows_start, file_size}
use Rattle.codec.specs.Held.{head_read, word_read, line_read, row_read, measured, head_of, items, held, meaning_of}
use Rattle.codec.specs.Written.{head_bytes, instructions_bytes, words_bytes, lines_bytes, rows_bytes, written}
use Rattle.codec.proofs.PartForm.{bytes_take, read_back, read_only, length_part, part_here, part_next, part_whole}
use Rattle.codec.proofs.Meant.{measured_some}

written_size : (h : Head) (x : Item Head) (m : Meaning) → x ≡ Ok h → m.head ≡ x → Made m → Readable m → length (written m) ≡ file_size h
written_size h x m is e made all =
    let head : head_bytes m.head ≡ field_bytes 1 20 (head_payload h) = ap head_bytes (e ∙ is) in
    let first : length (head_bytes m.head) ≡ 23 = ap length head in
    let i = length_part 2 8 instruction_numbers instruction_payload instruction_parsed instruction_form m.instructions all.instructions in
    let w = length_part 3 4 word_numbers word_payload word_parsed word_form m.words all.words in
    let l = length_part 4 8 line_numbers line_payload line_parsed line_form m.lines all.lines in
    let r = length_part 5 21 row_numbers row_payload row_parsed row_form m.rows all.rows in
    let ci = made.instructions.counts ∙ ap (λ y. counted y (λ g. g.instructions)) (e ∙ is) in
    let cw = made.words.counts ∙ ap (λ y. counted y (λ g. g.words)) (e ∙ is) in
    let cl = made.lines.counts ∙ ap (λ y. counted y (λ g. g.lines)) (e ∙ is) in
    let cr = made.rows.counts ∙ ap (λ y. counted y (λ g. g.rows)) (e ∙ is) in
    let a = length-append (head_bytes m.head) (instructions_bytes m.instructions ++ (words_bytes m.words ++ (lines_bytes m.lines ++ rows_bytes m.rows))) in
    let b = length-append (instructions_bytes m.instructions) (words_bytes m.words ++ (lines_bytes m.lines ++ rows_bytes m.rows)) in
    let c = length-append (words_bytes m.words) (lines_bytes m.lines ++ rows_bytes m.rows) in
    let d = length-append (lines_bytes m.lines) (rows_bytes m.rows) in
    omega arith

-- the length of the written form
pub length_written : (m : Meaning) (h : Head) → m.head ≡ Ok h → Made m → Readable m → length (written m) ≡ file_size h
length_written m h is made all = written_size h m.head m is refl made all

-- four equal lists under one head
joined_parts : (h : Head) (is ks : List (Item Instruction)) (ws vs : List (Item ℕ)) (ls ms : List (Item Line)) (rs qs : List (Item Row)) → is ≡ ks → ws ≡ vs → ls ≡ ms → rs ≡ qs → ◌≡◌ {A = Meaning} (record { head = Ok h; instructions = is; words = ws; lines = ls; rows = rs }) (record { head = Ok h; instructions = ks; words = vs; lines = ms; rows = qs })
joined_parts h is ks ws vs ls ms rs qs i w l r = cc

pub back : (x : Item Head) (is : List (Item Instruction)) (ws : List (Item ℕ)) (ls : List (Item Line)) (rs : List (Item Row)) → Made (record { head = x; instructions = is; words = ws; lines = ls; rows = rs }) → Readable (record { head = x; instructions = is; words = ws; lines = ls; rows = rs }) → meaning_of (written (record { head = x; instructions = is; words = ws; lines = ls; rows = rs })) ≡ record { head = x; instructions = is; words = ws; lines = ls; rows = rs }
back (Err l) is ws ls rs made all = absurd all.head
back (Ok h) is ws ls rs made all =
    let m : Meaning = record { head = Ok h; instructions = is; words = ws; lines = ls; rows = rs } in
    let bs = written m in
    let field = field_bytes 1 20 (head_payload h) in
    let rest = instructions_bytes is ++ (words_bytes ws ++ (lines_bytes ls ++ rows_bytes rs)) in
    let found : head_read (take 23 bs) ≡ Some h = ap head_read (take_at field rest 23 refl) ∙ read_back 1 20 head_numbers head_payload head_parsed head_form h made.head in
    let long : length bs ≡ file_size h = length_written m h refl made all in
    let head : head_of bs ≡ Some h = ap (λ x. measured x (length bs)) found ∙ ap (λ (b : Bool). cond b (Some h) None) (eq-eqb (length bs) (file_size h) long) in
    let at-instructions : drop 23 bs ≡ rest = drop_at field rest 23 refl in
    let at_words : drop (words_start h) bs ≡ words_bytes ws ++ (lines_bytes ls ++ rows_bytes rs) = part_next 2 8 instruction_numbers instruction_payload instruction_parsed instruction_form h.instructions 23 is bs (words_bytes ws ++ (lines_bytes ls ++ rows_bytes rs)) made.instructions.counts at-instructions all.instructions in
    let at-lines : drop (lines_start h) bs ≡ lines_bytes ls ++ rows_bytes rs = part_next 3 4 word_numbers word_payload word_parsed word_form h.words (words_start h) ws bs (lines_bytes ls ++ rows_bytes rs) made.words.counts at_words all.words in
    let at_rows : drop (rows_start h) bs ≡ rows_bytes rs = part_next 4 8 line_numbers line_payload line_parsed line_form h.lines (lines_start h) ls bs (rows_bytes rs) made.lines.counts at-lines all.lines in
    let i = part_here 2 8 instruction_numbers instruction_payload instruction_parsed instruction_form h.instructions is (drop 23 bs) (words_bytes ws ++ (lines_bytes ls ++ rows_bytes rs)) made.instructions.counts at-instructions all.instructions made.instructions.fits in
    let w = part_here 3 4 word_numbers word_payload word_parsed word_form h.words ws (drop (words_start h) bs) (lines_bytes ls ++ rows_bytes rs) made.words.counts at_words all.words made.words.fits in
    let l = part_here 4 8 line_numbers line_payload line_parsed line_form h.lines ls (drop (lines_start h) bs) (rows_bytes rs) made.lines.counts at-lines all.lines made.lines.fits in
    let r = part_here 5 21 row_numbers row_payload row_parsed row_form h.rows rs (drop (rows_start h) bs) [] made.rows.counts (at_rows ∙ sym (append-nil (rows_bytes rs))) all.rows made.rows.fits in
    ap (λ x. held x bs) head ∙ joined_parts h _ is _ ws _ ls _ rs i w l r

-- what is written is read back with the same meaning
pub reads_back : (m : Meaning) → Made m → Readable m → meaning_of (written m) ≡ m
reads_back m made all = back m.head m.instructions m.words m.lines m.rows made all

whole : (bs : List ℕ) → Bytes bs → (x : Option Head) → head_of bs ≡ x → Readable (held x bs) → bs ≡ written (held x bs)
whole bs small None is all = absurd all.head
whole bs small (Some h) is all =
    let found = measured_some (head_read (take 23 bs)) (length bs) h is in
    let long : length bs ≡ file_size h = found.1 in
    let head = read_only 1 20 head_numbers head_payload head_parsed head_form (take 23 bs) h (bytes_take 23 bs small) found.0 in
    let end : [] ≡ drop (rows_start h + 24 * h.rows) bs = sym (drop_all (rows_start h + 24 * h.rows) bs (omega arith)) in
    let rows-here = rows_bytes (items row_read 24 h.rows (drop (rows_start h) bs)) in
    let r : rows-here ≡ drop (rows_start h) bs = sym (append-nil rows-here) ∙ part_whole 5 21 row_numbers row_payload row_parsed row_form h.rows (rows_start h) bs [] small (omega arith) all.rows end in
    let l = part_whole 4 8 line_numbers line_payload line_parsed line_form h.lines (lines_start h) bs rows-here small (omega arith) all.lines r in
    let w = part_whole 3 4 word_numbers word_payload word_parsed word_form h.words (words_start h) bs (lines_bytes (items line_read 11 h.lines (drop (lines_start h) bs)) ++ rows-here) small (omega arith) all.words l in
    let i = part_whole 2 8 instruction_numbers instruction_payload instruction_parsed instruction_form h.instructions 23 bs (words_bytes (items word_read 7 h.words (drop (words_start h) bs)) ++ (lines_bytes (items line_read 11 h.lines (drop (lines_start h) bs)) ++ rows-here)) small (omega arith) all.instructions w in
    sym (take-append-drop 23 bs) ∙ ap (λ (y : List ℕ). y ++ drop 23 bs) head ∙ ap (λ (y : List ℕ). field_bytes 1 20 (head_payload h) ++ y) (sym i)

-- bytes that are readable throughout are the written form of their meaning
pub written_form : (bs : List ℕ) → Bytes bs → Readable (meaning_of bs) → bs ≡ written (meaning_of bs)
written_form bs small all = whole bs small (head_of bs) refl all
