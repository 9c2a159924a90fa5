-- The log of events whose numbers are words has no other numbers.
-- Assumes nothing.
use Rattle.std.proofs.Common.{◌≡◌, ℕ, zero, suc, ◌^◌, ◌<◌, ◌≤◌, true, false, List, [], ◌∷◌, length, get_or, refl, subst, inl, inr, arith}
use Rattle.std.proofs.lemmas.Bool.{both_ways, eqb-true}
use Rattle.dossier.specs.declared.record.Row.{Row}
use Rattle.dossier.specs.declared.record.Row.TheVariants.{Plain, FromLine, FromStep, Advice, AdviceEnd}
use Rattle.dossier.specs.declared.record.Touch.{Touch}
use Rattle.dossier.specs.declared.record.Line.{Line}
use Rattle.dossier.specs.Meaning.{Each}
use Rattle.dossier.specs.Numbers.{Words, Fit, line_numbers, touch_numbers, row_numbers}
use Rattle.run_log.specs.Log.{Event, quiet, word, ended, touch, event_at, hits, left, add_line, open_for, openings, log_lines, log_rows}
use Rattle.run_log.specs.Rules.{row_at, line_at}
use Rattle.run_log.specs.Words.{After, Holds, Recorded, Records}
use Rattle.run_log.proofs.Lines.{add_ways, touch_inside, log_opens}
use Rattle.run_log.proofs.Rows.{length_log}
use Rattle.run_log.proofs.Worded.{rows_of}

-- each element, by its place
pub each_at : {X : Type 0} (P : X → Type 0) (xs : List X) (d : X) → Each P xs → P d → (i : ℕ) → P (get_or xs i d)
each_at P [] d h k i = k
each_at P (x ∷ xs) d h k zero = h.0
each_at P (x ∷ xs) d h k (suc i) = each_at P xs d h.1 k i

pub each_from : {X : Type 0} (P : X → Type 0) (xs : List X) (d : X) → ((i : ℕ) → i < length xs → P (get_or xs i d)) → Each P xs
each_from P [] d h = tt
each_from P (x ∷ xs) d h = (h 0 (omega arith), each_from P xs d (λ i l. h (suc i) (omega arith)))

pub words_at : (ws : List ℕ) → Words ws → (i : ℕ) → get_or ws i 0 < 2 ^ 32
words_at [] h i = omega arith
words_at (w ∷ ws) h zero = h.0
words_at (w ∷ ws) h (suc i) = words_at ws h.1 i

-- EVENTS

abbrev pub EventWords : Event → Type 0
EventWords quiet = Unit {0}
EventWords (word w) = w < 2 ^ 32
EventWords ended = Unit {0}
EventWords (touch c a) = (c < 2 ^ 32) × (a < 2 ^ 32)

left_word : (v : Event) → EventWords v → left v < 2 ^ 32
left_word quiet h = omega arith
left_word (word w) h = omega arith
left_word ended h = omega arith
left_word (touch c a) h = h.1

-- a cell that is touched
cell_word : (v : Event) (c : ℕ) → hits c v ≡ true → EventWords v → c < 2 ^ 32
cell_word quiet c e h = absurd (both_ways false refl e)
cell_word (word w) c e h = absurd (both_ways false refl e)
cell_word ended c e h = absurd (both_ways false refl e)
cell_word (touch d a) c e h = let k = eqb-true d c e in omega (arith, h.0)

-- LINES, AT MOST ONE FOR EACH STEP

add_length : (c t : ℕ) (ls : List Line) → length (add_line c t ls) ≤ suc (length ls)
add_length c t [] = omega arith
add_length c t (l ∷ ls) =
    let k = add_length c t ls in
    add_ways c t l ls (λ ks. length ks ≤ suc (suc (length ls))) (λ h. omega arith) (λ h. omega arith) (λ h. omega arith)

open_length : (t : ℕ) (v : Event) (ls : List Line) → length (open_for t v ls) ≤ suc (length ls)
open_length t quiet ls = omega arith
open_length t (word w) ls = omega arith
open_length t ended ls = omega arith
open_length t (touch c a) ls = add_length c t ls

pub openings_length : (es : List Event) (t : ℕ) → length (openings es t) ≤ t
openings_length es zero = omega arith
openings_length es (suc t) =
    let k = openings_length es t in
    let n = open_length (suc t) (event_at es (suc t)) (openings es t) in
    omega arith

module _ (initial : ℕ → ℕ) (es : List Event) (starts : (c : ℕ) → initial c < 2 ^ 32) (events : (t : ℕ) → EventWords (event_at es t)) (short : length es < 2 ^ 32) where
  before_word : (c t v : ℕ) → Holds initial es c t v → v < 2 ^ 32
  before_word c t v h = elim h [
    | inl k ↦ let b = starts c in omega (arith, k.0)
    | inr k ↦ let b = left_word (event_at es k.0) (events k.0) in omega (arith, k.2)
  ]

  next_word : (c t s : ℕ) → After es c t s → s < 2 ^ 32
  next_word c t s h = elim h [
    | inl k ↦ omega (arith, k.0)
    | inr k ↦ let i = touch_inside es c s k.hit in omega arith
  ]

  touch_words_lem : (t : ℕ) (x : Touch) → Recorded initial es t x → x.origin < 2 ^ 32 → Fit touch_numbers x
  touch_words_lem t x h o =
      let k : EventWords (touch x.cell x.after) = subst EventWords h.shown (events t) in
      (k.0, (before_word x.cell t x.before h.before, (k.1, (o, (next_word x.cell t x.next h.next, tt)))))

  row_words : (t : ℕ) (r : Row) → t ≤ length es → Records initial es (log_lines es) t r → Fit row_numbers r
  row_words t Plain l h = (omega arith, (omega arith, (omega arith, (omega arith, (omega arith, (omega arith, tt))))))
  row_words t (FromLine x) l h =
      let n = openings_length es (length es) in
      (omega arith, touch_words_lem t x h.0 (omega (arith, h.2.0)))
  row_words t (FromStep x) l h = (omega arith, touch_words_lem t x h.0 (omega (arith, h.1.earlier)))
  row_words t (Advice w) l h =
      let k : w < 2 ^ 32 = subst EventWords h (events t) in
      (omega arith, (k, (omega arith, (omega arith, (omega arith, (omega arith, tt))))))
  row_words t AdviceEnd l h = (omega arith, (omega arith, (omega arith, (omega arith, (omega arith, (omega arith, tt))))))

  pub log_rows_words : Each (Fit row_numbers) (log_rows initial es)
  log_rows_words = each_from (Fit row_numbers) (log_rows initial es) Plain (λ i l.
      let n = length_log initial es in
      row_words (suc i) (row_at (log_rows initial es) (suc i)) (omega arith) ((rows_of initial es).each (suc i) (omega arith) (omega arith)))

  pub log_lines_words : Each (Fit line_numbers) (log_lines es)
  log_lines_words = each_from (Fit line_numbers) (log_lines es) (record { cell = 0; step = 0 }) (λ j l.
      let c = (line_at (log_lines es) j).cell in
      let t = (line_at (log_lines es) j).step in
      let f = (log_opens es).each j l in
      let i = touch_inside es c t f.hit in
      (cell_word (event_at es t) c f.hit (events t), (omega arith, tt)))
