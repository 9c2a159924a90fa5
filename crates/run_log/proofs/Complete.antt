-- The log of any events keeps the link rules, and its rows say these events.
-- Each rule is read off the rows in words. Assumes nothing.
use Rattle.std.proofs.Common.{◌≡◌, ℕ, suc, ◌<◌, true, List, length, sym, refl, ap, ◌∙◌, subst, subst₂, inl, inr, arith}
use Rattle.std.proofs.lemmas.Bool.{both_ways, eqb-true, eq-eqb}
use Rattle.std.proofs.lemmas.List.{ext_get_or}
use Rattle.dossier.specs.declared.record.Row.{Row}
use Rattle.dossier.specs.declared.record.Row.TheVariants.{Plain, FromLine, FromStep, Advice, AdviceEnd}
use Rattle.dossier.specs.declared.record.Touch.{Touch}
use Rattle.dossier.specs.declared.record.Line.{Line}
use Rattle.run_log.specs.Log.{Event, quiet, event_at, hits, left, touches, line_of, log_lines, log_rows, event_of, events_of, Aligned, IsLog}
use Rattle.run_log.specs.Rules.{row_at, line_at, kind_of, touch_of, IsTouch, LineStep, LineOrigin, StepOrigin, NextLink, RowLinks, Linked, Complete}
use Rattle.run_log.specs.Words.{IsLast, IsFirst, After, LineFor, Opens, Recorded, Records, InRows}
use Rattle.run_log.proofs.Find.{one_last, one_next, last_next, next_last}
use Rattle.run_log.proofs.Lines.{one_first, line_of_lem, log_opens, touch_inside}
use Rattle.run_log.proofs.Rows.{event_row, length_events}
use Rattle.run_log.proofs.Worded.{rows_of}

-- what a row records is what it says
says : (initial : ℕ → ℕ) (es : List Event) (ls : List Line) (t : ℕ) (r : Row) → Records initial es ls t r → event_of r ≡ event_at es t
says initial es ls t Plain h = sym h
says initial es ls t (FromLine x) h = sym h.0.shown
says initial es ls t (FromStep x) h = sym h.0.shown
says initial es ls t (Advice w) h = sym h
says initial es ls t AdviceEnd h = sym h

module _ (initial : ℕ → ℕ) (es : List Event) (ls : List Line) (rs : List Row) (o : Opens es ls) (w : InRows initial es ls rs) where
  recorded : (c t : ℕ) → touches es c t ≡ true → Records initial es ls t (row_at rs t)
  recorded c t hit = let i = touch_inside es c t hit in w.each t i.0 i.1

  -- A ROW THAT RECORDS A TOUCH OF CELL c

  record Touched (c t : ℕ) (x : Touch) : Type 0 where
    cell : x.cell ≡ c
    after : x.after ≡ left (event_at es t)
    next : After es c t x.next

  touched_by : (c t : ℕ) → touches es c t ≡ true → (x : Touch) → Recorded initial es t x → Touched c t x
  touched_by c t hit x h =
      let e : x.cell ≡ c = eqb-true x.cell c (sym (ap (hits c) h.shown) ∙ hit) in
      record { cell = e; after = sym (ap left h.shown); next = subst (λ d. After es d t x.next) e h.next }

  touched : (c t : ℕ) → touches es c t ≡ true → (r : Row) → Records initial es ls t r → IsTouch r × Touched c t (touch_of r)
  touched c t hit Plain h = absurd (both_ways (touches es c t) (ap (hits c) h) hit)
  touched c t hit (FromLine x) h = ((omega arith, omega arith), touched_by c t hit x h.0)
  touched c t hit (FromStep x) h = ((omega arith, omega arith), touched_by c t hit x h.0)
  touched c t hit (Advice v) h = absurd (both_ways (touches es c t) (ap (hits c) h) hit)
  touched c t hit AdviceEnd h = absurd (both_ways (touches es c t) (ap (hits c) h) hit)

  -- the first touch of c is from the line of c
  from_line_lem : (c t : ℕ) → IsFirst es c t → (r : Row) → Records initial es ls t r → (kind_of r ≡ 1) × LineFor c ls (touch_of r).origin
  from_line_lem c t f Plain h = absurd (both_ways (touches es c t) (ap (hits c) h) f.hit)
  from_line_lem c t f (FromLine x) h = (refl, subst (λ d. LineFor d ls x.origin) (touched_by c t f.hit x h.0).cell h.2)
  from_line_lem c t f (FromStep x) h =
      let l = subst (λ d. IsLast (touches es d) t x.origin) (touched_by c t f.hit x h.0).cell h.1 in
      absurd (both_ways (touches es c x.origin) (f.none x.origin l.earlier) l.hit)
  from_line_lem c t f (Advice v) h = absurd (both_ways (touches es c t) (ap (hits c) h) f.hit)
  from_line_lem c t f AdviceEnd h = absurd (both_ways (touches es c t) (ap (hits c) h) f.hit)

  -- a touch of c with one before it is from the step of the last
  from_step : (c t s : ℕ) → touches es c t ≡ true → IsLast (touches es c) t s → (r : Row) → Records initial es ls t r → (kind_of r ≡ 2) × ((touch_of r).origin ≡ s)
  from_step c t s hit l Plain h = absurd (both_ways (touches es c t) (ap (hits c) h) hit)
  from_step c t s hit l (FromLine x) h =
      let n = ap (λ d. touches es d s) (sym (touched_by c t hit x h.0).cell) ∙ h.1 s l.earlier in
      absurd (both_ways (touches es c s) n l.hit)
  from_step c t s hit l (FromStep x) h =
      (refl, one_last (touches es c) t x.origin s (subst (λ d. IsLast (touches es d) t x.origin) (touched_by c t hit x h.0).cell h.1) l)
  from_step c t s hit l (Advice v) h = absurd (both_ways (touches es c t) (ap (hits c) h) hit)
  from_step c t s hit l AdviceEnd h = absurd (both_ways (touches es c t) (ap (hits c) h) hit)

  -- THE RULES

  hit_of : (t : ℕ) (x : Touch) → Recorded initial es t x → touches es x.cell t ≡ true
  hit_of t x h = ap (hits x.cell) h.shown ∙ eq-eqb x.cell x.cell refl

  line_origin : (t : ℕ) (x : Touch) → Records initial es ls t (FromLine x) → LineOrigin initial ls t x
  line_origin t x h =
      let c = x.cell in
      let l = line_at ls x.origin in
      let f : IsFirst es c l.step = subst (λ d. IsFirst es d l.step) h.2.1 (o.each x.origin h.2.0) in
      record {
        exists = h.2.0;
        cell = h.2.1;
        step = one_first es c l.step t f (record { hit = hit_of t x h.0; none = h.1 });
        starts = elim h.0.before [
          | inl e ↦ e.0
          | inr k ↦ absurd (both_ways (touches es c k.0) (h.1 k.0 k.1.earlier) k.1.hit)
        ];
      }

  step_origin : (t : ℕ) (x : Touch) → Records initial es ls t (FromStep x) → StepOrigin rs t x
  step_origin t x h =
      let c = x.cell in
      let s = x.origin in
      let l = h.1 in
      let hit = hit_of t x h.0 in
      let m = touched c s l.hit (row_at rs s) (recorded c s l.hit) in
      record {
        earlier = l.earlier;
        touch = m.0;
        cell = m.1.cell;
        after = m.1.after ∙ elim h.0.before [
          | inl e ↦ absurd (both_ways (touches es c s) (e.1 s l.earlier) l.hit)
          | inr k ↦ sym (k.2 ∙ ap (λ u. left (event_at es u)) (one_last (touches es c) t k.0 s k.1 l))
        ];
        next = elim m.1.next [
          | inl n ↦ absurd (both_ways (touches es c t) (n.1 t l.earlier) hit)
          | inr n ↦ one_next (touches es c) s (touch_of (row_at rs s)).next t n (last_next (touches es c) t s hit l)
        ];
      }

  next_link : (t : ℕ) (x : Touch) → Recorded initial es t x → NextLink rs t x
  next_link t x h = elim h.next [
    | inl e ↦ inl e.0
    | inr n ↦
        let c = x.cell in
        let r = row_at rs x.next in
        let l = next_last (touches es c) t x.next (hit_of t x h) n in
        let k = from_step c x.next t n.hit l r (recorded c x.next n.hit) in
        inr (record { later = n.later; kind = k.0; back = k.1 })
  ]

  row_links : (t : ℕ) (r : Row) → Records initial es ls t r → RowLinks initial rs ls t r
  row_links t Plain h = tt
  row_links t (FromLine x) h = (line_origin t x h, next_link t x h.0)
  row_links t (FromStep x) h = (step_origin t x h, next_link t x h.0)
  row_links t (Advice v) h = tt
  row_links t AdviceEnd h = tt

  line_step : (j : ℕ) → j < length ls → LineStep rs ls j
  line_step j h =
      let c = (line_at ls j).cell in
      let t = (line_at ls j).step in
      let f = o.each j h in
      let i = touch_inside es c t f.hit in
      let k = from_line_lem c t f (row_at rs t) (recorded c t f.hit) in
      let n = (touch_of (row_at rs t)).origin in
      record {
        starts = i.0;
        ends = omega (arith, w.count);
        kind = k.0;
        back = sym (line_of_lem ls o.rising n k.1.0) ∙ ap (line_of ls) k.1.1 ∙ line_of_lem ls o.rising j h;
      }

  linked : Aligned es → Linked initial rs ls
  linked al = record {
    order = λ j h. record {
      fourth = al (line_at ls j).cell (line_at ls j).step (o.each j h).hit;
      above = λ i e. o.rising i j (omega arith) h;
    };
    step = line_step;
    row = λ t a b. row_links t (row_at rs t) (w.each t a (omega (arith, w.count)));
  }

  said : events_of rs ≡ es
  said = ext_get_or quiet (events_of rs) es (length_events rs ∙ w.count) (λ i l.
      let n = length_events rs in
      event_row rs (suc i) ∙ says initial es ls (suc i) (row_at rs (suc i)) (w.each (suc i) (omega arith) (omega (arith, w.count))))

pub complete : Complete
complete initial es al = (
  linked initial es (log_lines es) (log_rows initial es) (log_opens es) (rows_of initial es) al,
  said initial es (log_lines es) (log_rows initial es) (log_opens es) (rows_of initial es),
)

-- a log keeps the link rules
pub log_linked : (initial : ℕ → ℕ) (rs : List Row) (ls : List Line) → IsLog initial rs ls → Linked initial rs ls
log_linked initial rs ls h = subst₂ (Linked initial) (sym h.rows) (sym h.lines) (complete initial (events_of rs) h.aligned).0
