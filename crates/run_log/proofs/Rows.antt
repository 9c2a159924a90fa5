-- A row, the event that it shows, and the row that a log has of an event.
-- Assumes nothing.
use Rattle.std.proofs.Common.{◌≡◌, ℕ, zero, suc, ◌<◌, ◌≤◌, true, List, length, get_or, sym, refl, ap, ◌∙◌, inl, inr, arith}
use lib.ListN.{get_or-eq_default, get_or-map}
use Rattle.std.proofs.lemmas.Bool.{cases_lt, eqb-true, eq-eqb}
use Rattle.std.proofs.lemmas.List.{length-map, ext_get_or}
use Rattle.std.proofs.lemmas.List.FromFn.{length-map-range_with_len, get_or-map-range_with_len}
use Rattle.dossier.specs.declared.record.Row.{Row}
use Rattle.dossier.specs.declared.record.Row.TheVariants.{Plain, FromLine, FromStep, Advice, AdviceEnd}
use Rattle.run_log.specs.Log.{Event, quiet, event_at, hits, left, row_of, log_rows, event_of, events_of}
use Rattle.run_log.specs.Rules.{row_at, kind_of, touch_of}

pub event_row : (rs : List Row) (t : ℕ) → event_at (events_of rs) t ≡ event_of (row_at rs t)
event_row rs zero = refl
event_row rs (suc i) = get_or-map event_of rs i Plain

pub row_past : (rs : List Row) (t : ℕ) → length rs < t → row_at rs t ≡ Plain
row_past rs zero h = refl
row_past rs (suc i) h = get_or-eq_default rs Plain (omega arith)

pub row_inside : (rs : List Row) (t : ℕ) → 1 ≤ kind_of (row_at rs t) → (1 ≤ t) × (t ≤ length rs)
row_inside rs zero h = absurd (omega arith)
row_inside rs (suc i) h = elim (cases_lt i (length rs)) [
  | inl l ↦ (omega arith, l)
  | inr l ↦ absurd (omega (arith, ap kind_of (row_past rs (suc i) (omega arith))))
]

-- a row that shows a touch of c is a touch of c
pub touched : (r : Row) (c : ℕ) → hits c (event_of r) ≡ true → (1 ≤ kind_of r) × (kind_of r ≤ 2) × ((touch_of r).cell ≡ c)
touched Plain c e = absurd (cc)
touched (FromLine x) c e = (omega arith, omega arith, eqb-true x.cell c e)
touched (FromStep x) c e = (omega arith, omega arith, eqb-true x.cell c e)
touched (Advice w) c e = absurd (cc)
touched AdviceEnd c e = absurd (cc)

pub hitting : (r : Row) (c : ℕ) → (1 ≤ kind_of r) × (kind_of r ≤ 2) × ((touch_of r).cell ≡ c) → hits c (event_of r) ≡ true
hitting Plain c h = absurd (omega arith)
hitting (FromLine x) c h = eq-eqb x.cell c h.2
hitting (FromStep x) c h = eq-eqb x.cell c h.2
hitting (Advice w) c h = absurd (omega arith)
hitting AdviceEnd c h = absurd (omega arith)

pub left_is : (r : Row) → left (event_of r) ≡ (touch_of r).after
left_is Plain = refl
left_is (FromLine x) = refl
left_is (FromStep x) = refl
left_is (Advice w) = refl
left_is AdviceEnd = refl

pub length_events : (rs : List Row) → length (events_of rs) ≡ length rs
length_events rs = length-map rs event_of

module _ (initial : ℕ → ℕ) (es : List Event) where
  pub length_log : length (log_rows initial es) ≡ length es
  length_log = length-map-range_with_len (λ t. row_of initial es t (event_at es t)) 1 (length es)

  -- row t of a log
  pub log_row : (t : ℕ) → row_at (log_rows initial es) t ≡ row_of initial es t (event_at es t)
  log_row zero = refl
  log_row (suc i) = elim (cases_lt i (length es)) [
    | inl l ↦ get_or-map-range_with_len (λ t. row_of initial es t (event_at es t)) 1 (length es) i (suc i) Plain l (omega arith)
    | inr l ↦
        let d : get_or es i quiet ≡ quiet = get_or-eq_default es quiet l in
        let n = length_log in
        get_or-eq_default (log_rows initial es) Plain (omega arith) ∙ rw d
  ]

  -- rows that are at each step what the log has are the log's
  pub same_rows : (rs : List Row) → length rs ≡ length es → ((t : ℕ) → 1 ≤ t → t ≤ length es → row_at rs t ≡ row_of initial es t (event_at es t)) → rs ≡ log_rows initial es
  same_rows rs n h = ext_get_or Plain rs (log_rows initial es) (n ∙ sym length_log) (λ i l. h (suc i) (omega arith) (omega arith) ∙ sym (log_row (suc i)))
