-- Rows and lines that keep the link rules are the log of what the rows say.
-- The rules give the chains of touches, and these give each row in words.
-- Assumes nothing.
use Rattle.std.proofs.Common.{◌≡◌, ℕ, zero, suc, ◌%◌, ◌<◌, ◌≤◌, true, false, List, length, sym, refl, ap, ◌∙◌, subst, inl, inr, arith}
use Rattle.std.proofs.lemmas.Bool.{cases_lt}
use Rattle.dossier.specs.declared.record.Row.{Row}
use Rattle.dossier.specs.declared.record.Row.TheVariants.{Plain, FromLine, FromStep, Advice, AdviceEnd}
use Rattle.dossier.specs.declared.record.Touch.{Touch}
use Rattle.dossier.specs.declared.record.Line.{Line}
use Rattle.run_log.specs.Log.{Event, event_at, hits, left, touches, log_rows, log_lines, event_of, events_of, Aligned, IsLog}
use Rattle.run_log.specs.Rules.{row_at, line_at, kind_of, touch_of, LineOrder, LineOrigin, StepOrigin, NextLink, RowLinks, Linked, Sound, Unique}
use Rattle.run_log.specs.Words.{IsLast, NoneBefore, After, Rising, Opens, Records, InRows}
use Rattle.run_log.proofs.Chain.{Chained, At, first_is_first, origin_last, next_none, next_some, line_at_lem, line_for}
use Rattle.std.proofs.lemmas.Bool.{false_from_ne_true}
use Rattle.run_log.proofs.Rows.{event_row, row_inside, touched, hitting, left_is, length_events}
use Rattle.run_log.proofs.Worded.{rows_are, lines_are}

-- each line above the former: each above all before it
all_rising : (ls : List Line) → ((j : ℕ) → j < length ls → LineOrder ls j) → Rising ls
all_rising ls h i zero l k = absurd (omega arith)
all_rising ls h i (suc j) l k =
    let above = (h (suc j) k).above j refl in
    elim (cases_lt i j) [
      | inl m ↦ let r = all_rising ls h i j m (omega arith) in omega arith
      | inr m ↦ let z : i ≡ j = omega arith in rw z above
    ]

module _ (initial : ℕ → ℕ) (rs : List Row) (ls : List Line) where
  -- what a row of a kind keeps
  line_origin : (t : ℕ) (r : Row) → kind_of r ≡ 1 → RowLinks initial rs ls t r → LineOrigin initial ls t (touch_of r)
  line_origin t Plain k h = absurd (omega arith)
  line_origin t (FromLine x) k h = h.0
  line_origin t (FromStep x) k h = absurd (omega arith)
  line_origin t (Advice w) k h = absurd (omega arith)
  line_origin t AdviceEnd k h = absurd (omega arith)

  step_origin : (t : ℕ) (r : Row) → kind_of r ≡ 2 → RowLinks initial rs ls t r → StepOrigin rs t (touch_of r)
  step_origin t Plain k h = absurd (omega arith)
  step_origin t (FromLine x) k h = absurd (omega arith)
  step_origin t (FromStep x) k h = h.0
  step_origin t (Advice w) k h = absurd (omega arith)
  step_origin t AdviceEnd k h = absurd (omega arith)

  next_link : (t : ℕ) (r : Row) → 1 ≤ kind_of r → kind_of r ≤ 2 → RowLinks initial rs ls t r → NextLink rs t (touch_of r)
  next_link t Plain j k h = absurd (omega arith)
  next_link t (FromLine x) j k h = h.1
  next_link t (FromStep x) j k h = h.1
  next_link t (Advice w) j k h = absurd (omega arith)
  next_link t AdviceEnd j k h = absurd (omega arith)

module _ (initial : ℕ → ℕ) (rs : List Row) (ls : List Line) (ok : Linked initial rs ls) where
  abbrev es : List Event
  es = events_of rs

  abbrev kind : ℕ → ℕ
  kind t = kind_of (row_at rs t)

  abbrev at : ℕ → Touch
  at t = touch_of (row_at rs t)

  rule : (t : ℕ) → 1 ≤ kind t → RowLinks initial rs ls t (row_at rs t)
  rule t h = let k = row_inside rs t h in ok.row t k.0 k.1

  chained : Chained (length ls) kind (λ t. (at t).cell) (λ t. (at t).origin) (λ t. (at t).next) (λ j. (line_at ls j).cell) (λ j. (line_at ls j).step)
  chained = record {
    rising = all_rising ls ok.order;
    opens = λ j h. let r = ok.step j h in (r.kind, r.back);
    firsts = λ t k. let r = line_origin initial rs ls t (row_at rs t) k (rule t (omega arith)) in (r.exists, r.cell, r.step);
    laters = λ t k. let r = step_origin initial rs ls t (row_at rs t) k (rule t (omega arith)) in (r.earlier, r.touch.0, r.touch.1, r.cell, r.next);
    nexts = λ t j k. elim (next_link initial rs ls t (row_at rs t) j k (rule t j)) [ inl e ↦ inl e | inr r ↦ inr (r.later, r.kind, r.back) ];
  }

  -- a touch among the rows is a touch among the events
  to_at : (c t : ℕ) → touches es c t ≡ true → At chained c t
  to_at c t e = touched (row_at rs t) c (ap (hits c) (sym (event_row rs t)) ∙ e)

  from_at : (c t : ℕ) → At chained c t → touches es c t ≡ true
  from_at c t h = ap (hits c) (event_row rs t) ∙ hitting (row_at rs t) c h

  not_at : (c t : ℕ) → (At chained c t → ⊥) → touches es c t ≡ false
  not_at c t h = false_from_ne_true (touches es c t) (λ e. h (to_at c t e))

  -- LINES

  opens : Opens es ls
  opens = record {
    rising = chained.rising;
    each = λ j h.
        let l = line_at ls j in
        let a = line_at_lem chained j h in
        record {
          hit = from_at l.cell l.step a;
          none = λ u b. not_at l.cell u (first_is_first chained l.step l.cell (ok.step j h).kind a.2 u b);
        };
    all = λ c s e. line_for chained c s (to_at c s e);
  }

  aligned : Aligned es
  aligned c t e =
      let k = line_for chained c t (to_at c t e) in
      ap (λ d. d % 4) (sym k.1.1) ∙ (ok.order k.0 k.1.0).fourth

  -- ROWS

  after : (c t : ℕ) → At chained c t → After es c t (at t).next
  after c t a = elim (cases_lt 0 (at t).next) [
    | inl h ↦
        let x = next_some chained t c a h in
        inr (record { hit = from_at c (at t).next x.1; later = x.0; none = λ u b d. not_at c u (x.2 u b d) })
    | inr h ↦
        let e : (at t).next ≡ 0 = omega arith in
        inl (e, λ u b. not_at c u (next_none chained t c a e u b))
  ]

  none_before : (c t : ℕ) → kind t ≡ 1 → (at t).cell ≡ c → NoneBefore es c t
  none_before c t k e u l = not_at c u (first_is_first chained t c k e u l)

  last_before : (c t : ℕ) → kind t ≡ 2 → (at t).cell ≡ c → IsLast (touches es c) t (at t).origin
  last_before c t k e =
      let r = chained.laters t k in
      record {
        hit = from_at c (at t).origin (r.1, r.2, r.3 ∙ e);
        earlier = r.0;
        none = λ u a b. not_at c u (λ z. origin_last chained t k u a b (z.0, z.1, z.2 ∙ sym e));
      }

  -- what a touch leaves its successor
  handed : (t : ℕ) → (at t).after ≡ left (event_at es t)
  handed t = sym (ap left (event_row rs t) ∙ left_is (row_at rs t))

  records : (t : ℕ) (r : Row) → row_at rs t ≡ r → RowLinks initial rs ls t r → Records initial es ls t r
  records t Plain e h = event_row rs t ∙ ap event_of e
  records t (Advice w) e h = event_row rs t ∙ ap event_of e
  records t AdviceEnd e h = event_row rs t ∙ ap event_of e
  records t (FromLine x) e h =
      let k : kind t ≡ 1 = ap kind_of e in
      let c : (at t).cell ≡ x.cell = ap (λ r. (touch_of r).cell) e in
      let n = none_before x.cell t k c in (
        record {
          shown = event_row rs t ∙ ap event_of e;
          before = inl (h.0.starts, n);
          next = subst (After es x.cell t) (ap (λ r. (touch_of r).next) e) (after x.cell t (omega arith, omega arith, c));
        },
        n,
        (h.0.exists, h.0.cell),
      )
  records t (FromStep x) e h =
      let k : kind t ≡ 2 = ap kind_of e in
      let c : (at t).cell ≡ x.cell = ap (λ r. (touch_of r).cell) e in
      let l = subst (IsLast (touches es x.cell) t) (ap (λ r. (touch_of r).origin) e) (last_before x.cell t k c) in (
        record {
          shown = event_row rs t ∙ ap event_of e;
          before = inr (x.origin, l, sym h.0.after ∙ handed x.origin);
          next = subst (After es x.cell t) (ap (λ r. (touch_of r).next) e) (after x.cell t (omega arith, omega arith, c));
        },
        l,
      )

  in_rows : InRows initial es ls rs
  in_rows = record {
    count = sym (length_events rs);
    each = λ t a b. records t (row_at rs t) refl (ok.row t a (let n = length_events rs in omega arith));
  }

  is_log : IsLog initial rs ls
  is_log = record {
    rows = rows_are initial es rs (subst (λ k. InRows initial es k rs) (lines_are es ls opens) in_rows);
    lines = lines_are es ls opens;
    aligned = aligned;
  }

pub sound : Sound
sound initial rs ls ok = is_log initial rs ls ok

pub unique : Unique
unique initial rs rs' ls ls' ok ok' e =
    let a = sound initial rs ls ok in
    let b = sound initial rs' ls' ok' in
    (a.rows ∙ ap (log_rows initial) e ∙ sym b.rows, a.lines ∙ ap log_lines e ∙ sym b.lines)
