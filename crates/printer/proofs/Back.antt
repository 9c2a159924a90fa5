-- A printed program assembles to itself. Assumes nothing.
use Rattle.std.proofs.Common.{◌≡◌, ℕ, ◌+◌, ◌^◌, ◌<◌, ◌≤◌, true, false, cond, eqb, ltb, List, [], ◌∷◌, ◌++◌, map, length, get_or, take, is_some, Some, None, Ok, Err, Option, Result, unwrap_or, sym, refl, ap, ◌∙◌, append_assoc, arith}
use Rattle.std.proofs.lemmas.List.{take_more, flat_map_more}
use Rattle.std.proofs.lemmas.Bool.{and_parts}
use Rattle.std.specs.List.{list_all}
use Rattle.std.proofs.lemmas.Bool.Decides.{nat_tests}
use Rattle.encoding.specs.declared.instruction.Instruction as encoding
use Rattle.encoding.specs.Encoding.{decoded, encoded, meant}
use Rattle.encoding.specs.Formed.{well_formed}
use Rattle.encoding.proofs.Inverse.{decoded_only}
use Rattle.encoding.proofs.Formed.{formed_is}
use Rattle.lexer.specs.declared.class.Class.TheVariants.{Line}
use Rattle.lexer.specs.Classes.{belongs}
use Rattle.lexer.specs.Lines.{lines, onto, past_end, other_lines}
use Rattle.assembler.specs.declared.error.AssemblyError.{AssemblyError}
use Rattle.assembler.specs.Labels.{Known}
use Rattle.assembler.specs.Scan.{onwards, stepped_by, stepped, scanned}
use Rattle.assembler.specs.Resolve.{given, read_gives, line_gives}
use Rattle.assembler.specs.Program.{listed, program, entries, checked}
use Rattle.assembler.specs.Text.{header, body}
use Rattle.assembler.specs.declared.error.AssemblyError.TheVariants.{Header}
use Rattle.std.specs.Str.{bytes_eq}
use Rattle.printer.specs.Listing.{operation_text, line_text, listing, printed}
use Rattle.printer.specs.Back.{Printable, PrintedAssembles}
use Rattle.printer.proofs.Fronts.{front_append, past_append}
use Rattle.printer.proofs.Lines.{line_of_lem, encoded_of, plain_of}

-- ONE INSTRUCTION

value_of : {A : Type 0} (r : Option A) (d : A) → is_some r ≡ true → r ≡ Some (unwrap_or r d)
value_of None d h = let z : ◌≡◌ {A = ℕ} 0 1 = cc in absurd (omega arith)
value_of (Some x) d h = refl

abbrev line_of : encoding.Instruction → List ℕ
line_of n = operation_text (meant n)

module _ (n : encoding.Instruction) (f : well_formed n ≡ true) (s : n.second < 2 ^ 32) where
  says : encoded (meant n) ≡ Some n
  says = decoded_only n (meant n) (value_of (decoded n) _ (formed_is n ∙ f))

  line_plain : list_all (belongs Line) (line_of n) ≡ true
  line_plain = plain_of (meant n) n says s

  line_steps : (k : Known) (at : ℕ) → ltb k.instructions 4096 ≡ true → stepped k at (line_of n) ≡ Ok (record { labels = k.labels; instructions = k.instructions + 1 })
  line_steps k at room = ap (stepped_by k at) (line_of_lem (meant n) n says s) ∙ (rw room refl)

  line_gives_lem : line_gives [] (line_of n) ≡ Ok (Some n)
  line_gives_lem = ap (read_gives []) (line_of_lem (meant n) n says s) ∙ ap given (encoded_of (meant n) ∙ says)

-- THE LINES

line_first : (b : ℕ) (ls : List (List ℕ)) (bs : List ℕ) → belongs Line b ≡ true → lines bs ≡ ls → lines (b ∷ bs) ≡ onto b ls
line_first b ls bs h e =
    let p : eqb b 10 ≡ false = grind (arith, nat_tests) in
    let q : eqb b 13 ≡ false = grind (arith, nat_tests) in
    rw (p, q, e) refl

lines_line : (l rest : List ℕ) → list_all (belongs Line) l ≡ true → lines (l ++ (10 ∷ rest)) ≡ l ∷ lines rest
lines_line [] rest h = refl
lines_line (b ∷ l) rest h =
    line_first b (l ∷ lines rest) (l ++ (10 ∷ rest)) ((and_parts (belongs Line b) (list_all (belongs Line) l) h).0) (lines_line l rest ((and_parts (belongs Line b) (list_all (belongs Line) l) h).1))

listing_more : (n : encoding.Instruction) (p : List encoding.Instruction) → listing (n ∷ p) ≡ line_of n ++ (10 ∷ listing p)
listing_more n p = append_assoc (line_of n) (10 ∷ []) (listing p)

lines_listing : (p : List encoding.Instruction) → Printable p → lines (listing p) ≡ map line_of p
lines_listing [] h = refl
lines_listing (n ∷ p) h =
    ap lines (listing_more n p) ∙ (lines_line (line_of n) (listing p) (line_plain n h.0 h.1) ∙ ap (λ ls. line_of n ∷ ls) (lines_listing p h.2))

-- THE PASSES

abbrev bare : ℕ → Known
bare c = record { labels = []; instructions = c }

scan_all : (p : List encoding.Instruction) (at c : ℕ) → Printable p → c + length p ≤ 4096 → scanned at (bare c) (map line_of p) ≡ Ok (bare (c + length p))
scan_all [] at c h l = ap (λ x. Ok (bare x)) (omega arith)
scan_all (n ∷ p) at c h l =
    let room : ltb c 4096 ≡ true = grind (arith, nat_tests) in
    ap (λ q. onwards q (λ k. scanned (at + 1) k (map line_of p))) (line_steps n h.0 h.1 (bare c) at room)
    ∙ (scan_all p (at + 1) (c + 1) h.2 (omega arith) ∙ ap (λ x. Ok (bare x)) (omega arith))

check_all : (p : List encoding.Instruction) (at : ℕ) → Printable p → checked at [] (map line_of p) ≡ Ok tt
check_all [] at h = refl
check_all (n ∷ p) at h =
    ap (λ g. onwards (entries at g) (λ _. checked (at + 1) [] (map line_of p))) (line_gives_lem n h.0 h.1) ∙ check_all p (at + 1) h.2

program_all : (p : List encoding.Instruction) → Printable p → program [] (map line_of p) ≡ p
program_all [] h = refl
program_all (n ∷ p) h =
    ap (λ g. listed g ++ program [] (map line_of p)) (line_gives_lem n h.0 h.1) ∙ ap (λ q. n ∷ q) (program_all p h.2)

body_all : (p : List encoding.Instruction) → length p ≤ 4096 → Printable p → body (map line_of p) ≡ Ok p
body_all p l h =
    ap (λ q. onwards q (λ k. onwards (checked 2 k.labels (map line_of p)) (λ _. Ok (program k.labels (map line_of p))))) (scan_all p 2 0 h (omega arith))
    ∙ (ap (λ q. onwards q (λ _. Ok (program [] (map line_of p)))) (check_all p 2 h) ∙ ap Ok (program_all p h))

abbrev on_header : List ℕ → List (List ℕ) → Result (List encoding.Instruction) AssemblyError
on_header first ls = cond (bytes_eq first header) (body ls) (Err Header)

header_plain : list_all (belongs Line) header ≡ true
header_plain = refl

pub printed_assembles : PrintedAssembles
printed_assembles p l h =
    let rest = 10 ∷ listing p in
    ap (λ f. on_header f (lines (other_lines (header ++ rest)))) (front_append Line header rest header_plain refl)
    ∙ (ap (λ r. body (lines (past_end r))) (past_append Line header rest header_plain refl)
    ∙ (ap body (lines_listing p h) ∙ body_all p l h))

-- THE LOOP OF THE PRINTER

pub printed_more : (p : List encoding.Instruction) (i : ℕ) (d : encoding.Instruction) → i < length p → printed (take i p) ++ line_text (get_or p i d) ≡ printed (take (i + 1) p)
printed_more p i d h =
    flat_map_more line_text (header ++ (10 ∷ [])) (take i p) (get_or p i d) ∙ ap printed (sym (take_more p i d h))
