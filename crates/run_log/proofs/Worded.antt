-- The log's definitions compute what the relations in words say.
-- Assumes nothing.
use Rattle.std.proofs.Common.{◌≡◌, ℕ, ◌-◌, true, false, eqb, List, length, sym, refl, ap, ◌∙◌, subst, inl, inr, arith}
use Rattle.std.proofs.lemmas.Bool.{eqb-true, eqb-false, eq-eqb, ne_eqb, cond_both}
use Rattle.dossier.specs.declared.record.Row.{Row}
use Rattle.dossier.specs.declared.record.Row.TheVariants.{Plain, FromLine, FromStep, Advice, AdviceEnd}
use Rattle.dossier.specs.declared.record.Line.{Line}
use Rattle.run_log.specs.Log.{Event, quiet, word, ended, touch, event_at, hits, left, touches, memory, touch_before, touch_after, line_of, log_lines, row_of, log_rows}
use Rattle.run_log.specs.Rules.{row_at}
use Rattle.run_log.specs.Words.{Exactly, IsLast, IsNext, NoneBefore, Before, After, Holds, LineFor, Opens, Records, InRows, Worded}
use Rattle.std.proofs.lemmas.Bool.{false_from_ne_true}
use Rattle.run_log.proofs.Find.{last_cases, latest_none, latest_is, next_cases, after_none, after_is}
use Rattle.run_log.proofs.Lines.{line_of_lem, same_opens, log_opens, touch_inside}
use Rattle.run_log.proofs.Rows.{log_row, length_log, same_rows}

-- a relation that holds of x and of nothing else
exactly : {A : Type 0} (P : A → Type 0) (x : A) → P x → ((y : A) → P y → y ≡ x) → (y : A) → Exactly (y ≡ x) (P y)
exactly P x h one y = (λ e. subst P (sym e) h, one y)

module _ (es : List Event) (c t : ℕ) where
  pub before_of : Before es c t (touch_before es c t)
  before_of = elim (last_cases (touches es c) t) [
    | inl n ↦ inl (latest_none (touches es c) (λ s. s) 0 t n, n)
    | inr h ↦ inr (subst (IsLast (touches es c) t) (sym (latest_is (touches es c) (λ s. s) 0 t h.0 h.1)) h.1)
  ]

  before_is : (s : ℕ) → Before es c t s → s ≡ touch_before es c t
  before_is s h = elim h [
    | inl n ↦ n.0 ∙ sym (latest_none (touches es c) (λ s. s) 0 t n.1)
    | inr l ↦ sym (latest_is (touches es c) (λ s. s) 0 t s l)
  ]

  pub after_of : After es c t (touch_after es c t)
  after_of = elim (next_cases (touches es c) t (length es - t)) [
    | inl n ↦ inl (
      after_none (touches es c) t (length es - t) n,
      λ u l. false_from_ne_true (touches es c u) (λ e.
          let i = touch_inside es c u e in
          let f = n u l (omega arith) in
          cc),
    )
    | inr h ↦ inr (subst (IsNext (touches es c) t) (sym (after_is (touches es c) t (length es - t) h.0 h.1 h.2)) h.1)
  ]

  next_is : (s : ℕ) → After es c t s → s ≡ touch_after es c t
  next_is s h = elim h [
    | inl n ↦ n.0 ∙ sym (after_none (touches es c) t (length es - t) (λ u a b. n.1 u a))
    | inr l ↦
        let i = touch_inside es c s l.hit in
        sym (after_is (touches es c) t (length es - t) s l (omega arith))
  ]

  module _ (initial : ℕ → ℕ) where
    pub holds_of : Holds initial es c t (memory initial es c t)
    holds_of = elim (last_cases (touches es c) t) [
      | inl n ↦ inl (latest_none (touches es c) (λ s. left (event_at es s)) (initial c) t n, n)
      | inr h ↦ inr (h.0, h.1, latest_is (touches es c) (λ s. left (event_at es s)) (initial c) t h.0 h.1)
    ]

    pub holds_is : (v : ℕ) → Holds initial es c t v → v ≡ memory initial es c t
    holds_is v h = elim h [
      | inl n ↦ n.0 ∙ sym (latest_none (touches es c) (λ s. left (event_at es s)) (initial c) t n.1)
      | inr l ↦ l.2 ∙ sym (latest_is (touches es c) (λ s. left (event_at es s)) (initial c) t l.0 l.1)
    ]

-- ROWS

module _ (initial : ℕ → ℕ) (es : List Event) where
  -- the line of a cell that is touched
  line_for : (c t : ℕ) → touches es c t ≡ true → LineFor c (log_lines es) (line_of (log_lines es) c)
  line_for c t hit =
      let k = (log_opens es).all c t hit in
      let e : k.0 ≡ line_of (log_lines es) c = sym (line_of_lem (log_lines es) (log_opens es).rising k.0 k.1.0) ∙ ap (line_of (log_lines es)) k.1.1 in
      subst (LineFor c (log_lines es)) e k.1

  -- whether a touch has one before it
  none_before : (c t : ℕ) → touch_before es c t ≡ 0 → NoneBefore es c t
  none_before c t e = elim (before_of es c t) [
    | inl n ↦ n.1
    | inr l ↦ let i = touch_inside es c (touch_before es c t) l.hit in absurd (omega arith)
  ]

  last_before : (c t : ℕ) → (touch_before es c t ≡ 0 → ⊥) → IsLast (touches es c) t (touch_before es c t)
  last_before c t n = elim (before_of es c t) [ inl z ↦ absurd (n z.0) | inr l ↦ l ]

  -- the row of a step records it
  row_records : (t : ℕ) (v : Event) → event_at es t ≡ v → Records initial es (log_lines es) t (row_of initial es t v)
  row_records t quiet e = e
  row_records t (word w) e = e
  row_records t ended e = e
  row_records t (touch c a) e =
      let hit : touches es c t ≡ true = ap (hits c) e ∙ eq-eqb c c refl in
      cond_both (eqb (touch_before es c t) 0)
      (FromLine (record { cell = c; before = memory initial es c t; after = a; origin = line_of (log_lines es) c; next = touch_after es c t }))
      (FromStep (record { cell = c; before = memory initial es c t; after = a; origin = touch_before es c t; next = touch_after es c t }))
      (Records initial es (log_lines es) t)
      (λ b. (record { shown = e; before = holds_of es c t initial; next = after_of es c t }, none_before c t (eqb-true (touch_before es c t) 0 b), line_for c t hit))
      (λ b. (record { shown = e; before = holds_of es c t initial; next = after_of es c t }, last_before c t (eqb-false (touch_before es c t) 0 b)))

  -- what records a step is the row of the step
  records_row : (t : ℕ) (r : Row) → Records initial es (log_lines es) t r → r ≡ row_of initial es t (event_at es t)
  records_row t Plain h = rw h
  records_row t (Advice w) h = rw h
  records_row t AdviceEnd h = rw h
  records_row t (FromLine x) h =
      let c = x.cell in
      let none : touch_before es c t ≡ 0 = sym (before_is es c t 0 (inl (refl, h.1))) in
      let held : x.before ≡ memory initial es c t = holds_is es c t initial x.before h.0.before in
      let from : x.origin ≡ line_of (log_lines es) c =
      sym (line_of_lem (log_lines es) (log_opens es).rising x.origin h.2.0) ∙ ap (line_of (log_lines es)) h.2.1 in
      let on : x.next ≡ touch_after es c t = next_is es c t x.next h.0.next in
      rw (h.0.shown, none) (λ i. FromLine (record { cell = c; before = held i; after = x.after; origin = from i; next = on i }))
  records_row t (FromStep x) h =
      let c = x.cell in
      let i = touch_inside es c x.origin h.1.hit in
      let from : x.origin ≡ touch_before es c t = before_is es c t x.origin (inr h.1) in
      let some : eqb (touch_before es c t) 0 ≡ false = ne_eqb (touch_before es c t) 0 (omega arith) in
      let held : x.before ≡ memory initial es c t = holds_is es c t initial x.before h.0.before in
      let on : x.next ≡ touch_after es c t = next_is es c t x.next h.0.next in
      rw (h.0.shown, some) (λ i. FromStep (record { cell = c; before = held i; after = x.after; origin = from i; next = on i }))

  pub rows_of : InRows initial es (log_lines es) (log_rows initial es)
  rows_of = record {
    count = length_log initial es;
    each = λ t a b. subst (Records initial es (log_lines es) t) (sym (log_row initial es t)) (row_records t (event_at es t) refl);
  }

  pub rows_are : (rs : List Row) → InRows initial es (log_lines es) rs → rs ≡ log_rows initial es
  rows_are rs h = same_rows initial es rs h.count (λ t a b. records_row t (row_at rs t) (h.each t a b))

pub lines_are : (es : List Event) (ls : List Line) → Opens es ls → ls ≡ log_lines es
lines_are es ls o = same_opens es ls (log_lines es) o (log_opens es)

pub worded : Worded
worded initial es = record {
  before = λ c t. exactly (Before es c t) (touch_before es c t) (before_of es c t) (before_is es c t);
  after = λ c t. exactly (After es c t) (touch_after es c t) (after_of es c t) (next_is es c t);
  holds = λ c t. exactly (Holds initial es c t) (memory initial es c t) (holds_of es c t initial) (holds_is es c t initial);
  lines = exactly (Opens es) (log_lines es) (log_opens es) (lines_are es);
  rows = exactly (InRows initial es (log_lines es)) (log_rows initial es) (rows_of initial es) (rows_are initial es);
}
