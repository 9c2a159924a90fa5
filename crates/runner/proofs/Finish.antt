-- The filled tables are the log.
-- Assumes nothing.
use Rattle.std.proofs.Common.{◌≡◌, ℕ, zero, suc, ◌-◌, ◌%◌, ◌<◌, ◌≤◌, true, eqb, List, map, length, take, sym, refl, ap, ◌∙◌, subst, inl, inr, arith}
use Rattle.std.proofs.lemmas.List.{get_or-take, get_or-map, length-map, length-take-le, ext_get_or}
use Rattle.std.proofs.lemmas.Bool.{cases_lt, cases_eq, cond_both}
use Rattle.dossier.specs.declared.record.Row.{Row}
use Rattle.dossier.specs.declared.record.Row.TheVariants.{Plain, FromLine, FromStep, Advice, AdviceEnd}
use Rattle.dossier.specs.declared.record.Line.{Line}
use Rattle.run_log.specs.Log.{Event, quiet, touch, zeroed, event_at, hits, left, touches, memory, touch_before, touch_after, line_of, log_lines, log_rows, row_of, event_of, events_of, Aligned}
use Rattle.run_log.specs.Rules.{row_at, line_at, kind_of, touch_of, IsTouch, LineOrder, LineStep, LineOrigin, StepOrigin, NextLink, RowLinks, Linked}
use Rattle.run_log.specs.Words.{IsLast}
use Rattle.run_log.proofs.Sound.{sound}
use Rattle.run_log.proofs.Find.{latest_is, next_cases, after_is}
use Rattle.run_log.proofs.Rows.{event_row, hitting, log_row, length_events}
use Rattle.index.specs.declared.entry.CellEntry.{CellEntry}
use Rattle.index.specs.Tree.{none, cell_of}
use Rattle.index.specs.Order.{Arranged}
use Rattle.runner.specs.Sofar.{LastAt, Sofar}
use Rattle.runner.specs.Filling.{entry_at}
use Rattle.runner.specs.Label.{with_line, first_of, Openings, Labelled}
use Rattle.runner.specs.Ending.{entry_of, log_cells}
use Rattle.runner.proofs.Tables.{touch_pos}

-- what the label leaves
record Alike (r s : Row) : Type 0 where
  kind : kind_of s ≡ kind_of r
  cell : (touch_of s).cell ≡ (touch_of r).cell
  before : (touch_of s).before ≡ (touch_of r).before
  after : (touch_of s).after ≡ (touch_of r).after
  next : (touch_of s).next ≡ (touch_of r).next
  event : event_of s ≡ event_of r

alike_refl : (r : Row) → Alike r r
alike_refl r = record { kind = refl; cell = refl; before = refl; after = refl; next = refl; event = refl }

line_alike : (j : ℕ) (r : Row) → Alike r (with_line j r)
line_alike j Plain = alike_refl Plain
line_alike j (FromLine x) = record { kind = refl; cell = refl; before = refl; after = refl; next = refl; event = refl }
line_alike j (FromStep x) = alike_refl (FromStep x)
line_alike j (Advice w) = alike_refl (Advice w)
line_alike j AdviceEnd = alike_refl AdviceEnd

line_origin : (j : ℕ) (r : Row) → kind_of r ≡ 1 → (touch_of (with_line j r)).origin ≡ j
line_origin j Plain k = absurd (omega arith)
line_origin j (FromLine x) k = refl
line_origin j (FromStep x) k = absurd (omega arith)
line_origin j (Advice w) k = absurd (omega arith)
line_origin j AdviceEnd k = absurd (omega arith)

abbrev pub line_for : CellEntry → Line
line_for e = record { cell = e.cell; step = e.first }

-- BEFORE THE LABELS: the first touches, by rising cell

module _ {ev : ℕ → Event} {T n : ℕ} (rows0 : List Row) (es zs : List CellEntry) (s : Sofar ev T n (row_at rows0) (entry_at es)) (a : Arranged n es zs) where
  record Opened (j : ℕ) : Type 0 where
    low : 1 ≤ first_of zs j
    high : first_of zs j ≤ T
    kind : kind_of (row_at rows0 (first_of zs j)) ≡ 1
    cell : (touch_of (row_at rows0 (first_of zs j))).cell ≡ cell_of zs j
    from : ℕ
    back : (touch_of (row_at rows0 (first_of zs j))).origin ≡ from
    same : entry_at zs j ≡ entry_at es from

  opened : (j : ℕ) → j < n → Opened j
  opened j l =
      let x = a.from j l in
      let o = s.opens x.0 x.1 in
      let t : first_of zs j ≡ (entry_at es x.0).first = ap (λ e. e.first) x.2 in
      let k : kind_of (row_at rows0 (first_of zs j)) ≡ 1 = ap (λ u. kind_of (row_at rows0 u)) t ∙ o.kind in
      let b : (touch_of (row_at rows0 (first_of zs j))).origin ≡ x.0 = ap (λ u. (touch_of (row_at rows0 u)).origin) t ∙ o.back in
      let f = s.firsts (first_of zs j) (omega (arith, o.done)) k in
      record {
        low = touch_pos rows0 (first_of zs j) (omega arith, omega arith);
        high = omega (arith, o.done);
        kind = k;
        cell = sym f.cell ∙ ap (λ u. (entry_at es u).cell) b ∙ ap (λ e. e.cell) (sym x.2);
        from = x.0;
        back = b;
        same = x.2;
      }

  pub openings : Openings n T (first_of zs)
  openings = record {
    above = λ j l. (opened j l).low;
    inside = λ j l. (opened j l).high;
    apart = λ i j li lj e.
        let x = opened i li in
        let y = opened j lj in
        let c : cell_of zs i ≡ cell_of zs j = sym x.cell ∙ ap (λ u. (touch_of (row_at rows0 u)).cell) e ∙ y.cell in
        elim (cases_lt i j) [
          | inl h ↦ let z = a.rises i j h lj in absurd (omega arith)
          | inr h ↦ elim (cases_lt j i) [
            | inl k ↦ let z = a.rises j i k li in absurd (omega arith)
            | inr k ↦ omega arith
          ]
        ];
  }

  -- AFTER THE LABELS

  module _ (rows : List Row) (l : Labelled n (first_of zs) (row_at rows0) (row_at rows))
      (evs : List Event) (is : (i : ℕ) → i < T → event_at evs (suc i) ≡ ev i) (whole : T ≡ length evs) (room : T ≤ length rows) (few : n ≤ length zs) (four : Aligned evs) where
    abbrev row : ℕ → Row
    row t = row_at rows0 t

    -- the events, by steps counted from 1
    shown_at_lem : (t : ℕ) → 1 ≤ t → t ≤ T → event_of (row t) ≡ event_at evs t
    shown_at_lem t l h =
        let e : suc (t - 1) ≡ t = omega arith in
        let P : ℕ → Type 0 = λ u. event_of (row u) ≡ event_at evs u in
        subst P e (s.shown (t - 1) (omega arith) ∙ sym (is (t - 1) (omega arith)))

    abbrev rs : List Row
    rs = take T rows

    abbrev ls : List Line
    ls = map line_for (take n zs)

    in_rs : (t : ℕ) → t ≤ T → row_at rs t ≡ row_at rows t
    in_rs zero h = refl
    in_rs (suc i) h = get_or-take T rows i Plain h

    len_rs : length rs ≡ T
    len_rs = length-take-le T rows room

    len_zs : length (take n zs) ≡ n
    len_zs = length-take-le n zs few

    len_ls : length ls ≡ n
    len_ls = length-map (take n zs) line_for ∙ len_zs

    line_is : (j : ℕ) → j < n → line_at ls j ≡ line_for (entry_at zs j)
    line_is j h = let m = len_zs in get_or-map line_for (take n zs) j none (record { cell = 0; step = 0 }) (omega arith) ∙ ap line_for (get_or-take n zs j none h)

    record Way (t j : ℕ) : Type 0 where
      old : j < n
      step : first_of zs j ≡ t
      cell : cell_of zs j ≡ (touch_of (row t)).cell
      zero : (touch_of (row t)).before ≡ 0
      new : row_at rows t ≡ with_line j (row t)

    first_way : (t : ℕ) → t ≤ T → kind_of (row t) ≡ 1 → (j : ℕ) × Way t j
    first_way t h k =
        let f = s.firsts t h k in
        let x = a.into (touch_of (row t)).origin f.old in
        let e : first_of zs x.0 ≡ t = ap (λ u. u.first) x.2 ∙ f.first in (
          x.0,
          record {
            old = x.1;
            step = e;
            cell = ap (λ u. u.cell) x.2 ∙ f.cell;
            zero = f.zero;
            new = ap (row_at rows) (sym e) ∙ l.done x.0 x.1 ∙ ap (λ u. with_line x.0 (row u)) e;
          },
        )

    other_way : (t : ℕ) → (kind_of (row t) ≡ 1 → ⊥) → row_at rows t ≡ row t
    other_way t ne = l.rest t (λ j h e. ne (ap (λ u. kind_of (row u)) (sym e) ∙ (opened j h).kind))

    alike : (t : ℕ) → t ≤ T → Alike (row t) (row_at rs t)
    alike t h = elim (cases_eq (kind_of (row t)) 1) [
      | inl k ↦ let w = first_way t h k in rw (in_rs t h, w.1.new) (line_alike w.0 (row t))
      | inr k ↦ rw (in_rs t h, other_way t k) (alike_refl (row t))
    ]

    touched : (t : ℕ) → t ≤ T → IsTouch (row t) → IsTouch (row_at rs t)
    touched t h x = let q = alike t h in (omega (arith, q.kind, x.0), omega (arith, q.kind, x.1))

    line_order : (j : ℕ) → j < length ls → LineOrder ls j
    line_order j h =
        let m = len_ls in
        let jn : j < n = omega arith in
        let o = opened j jn in
        let e : (line_at ls j).cell ≡ cell_of zs j = ap (λ u. u.cell) (line_is j jn) in
        let hit : touches evs (cell_of zs j) (first_of zs j) ≡ true =
        ap (hits (cell_of zs j)) (sym (shown_at_lem (first_of zs j) o.low o.high))
        ∙ hitting (row (first_of zs j)) (cell_of zs j) (omega (arith, o.kind), omega (arith, o.kind), o.cell) in
        record {
          fourth = ap (λ u. u % 4) e ∙ four (cell_of zs j) (first_of zs j) hit;
          above = λ i q.
              let f : (line_at ls i).cell ≡ cell_of zs i = ap (λ u. u.cell) (line_is i (omega arith)) in
              let g = a.rises i j (omega arith) jn in
              omega arith;
        }

    line_step : (j : ℕ) → j < length ls → LineStep rs ls j
    line_step j h =
        let m = len_ls in
        let k = len_rs in
        let jn : j < n = omega arith in
        let o = opened j jn in
        let e : (line_at ls j).step ≡ first_of zs j = ap (λ u. u.step) (line_is j jn) in
        let r : row_at rs (first_of zs j) ≡ with_line j (row (first_of zs j)) = in_rs (first_of zs j) o.high ∙ l.done j jn in
        let q = line_alike j (row (first_of zs j)) in
        record {
          starts = omega (arith, o.low);
          ends = omega (arith, o.high);
          kind = ap (λ u. kind_of (row_at rs u)) e ∙ ap kind_of r ∙ q.kind ∙ o.kind;
          back = ap (λ u. (touch_of (row_at rs u)).origin) e ∙ ap (λ u. (touch_of u).origin) r ∙ line_origin j (row (first_of zs j)) o.kind;
        }

    line_origin_kept : (t : ℕ) → t ≤ T → kind_of (row t) ≡ 1 → LineOrigin zeroed ls t (touch_of (row_at rs t))
    line_origin_kept t h k =
        let w = first_way t h k in
        let q = alike t h in
        let m = len_ls in
        let o : (touch_of (row_at rs t)).origin ≡ w.0 = ap (λ u. (touch_of u).origin) (in_rs t h ∙ w.1.new) ∙ line_origin w.0 (row t) k in
        let e : line_at ls (touch_of (row_at rs t)).origin ≡ line_for (entry_at zs w.0) = ap (line_at ls) o ∙ line_is w.0 w.1.old in
        record {
          exists = omega (arith, w.1.old);
          cell = ap (λ u. u.cell) e ∙ w.1.cell ∙ sym q.cell;
          step = ap (λ u. u.step) e ∙ w.1.step;
          starts = q.before ∙ w.1.zero;
        }

    step_origin : (t : ℕ) → t ≤ T → kind_of (row t) ≡ 2 → StepOrigin rs t (touch_of (row_at rs t))
    step_origin t h k =
        let f = s.laters t h k in
        let same : row_at rs t ≡ row t = in_rs t h ∙ other_way t (λ e. omega arith) in
        let q = alike (touch_of (row t)).origin (omega (arith, f.earlier)) in
        rw same (record {
          earlier = f.earlier;
          touch = touched (touch_of (row t)).origin (omega (arith, f.earlier)) f.touch;
          cell = q.cell ∙ f.cell;
          after = q.after ∙ f.after;
          next = q.next ∙ f.next;
        })

    next_link : (t : ℕ) → t ≤ T → IsTouch (row t) → NextLink rs t (touch_of (row_at rs t))
    next_link t h x =
        let q = alike t h in
        elim (s.nexts t h x) [
          | inl z ↦ inl (q.next ∙ z)
          | inr z ↦
              let m = (touch_of (row t)).next in
              let p = alike m z.done in
              let same : row_at rs m ≡ row m = in_rs m z.done ∙ other_way m (λ e. omega (arith, z.kind)) in
              inr (rw q.next (record { later = z.above; kind = p.kind ∙ z.kind; back = ap (λ u. (touch_of u).origin) same ∙ z.back }))
        ]

    row_rule : (t : ℕ) → t ≤ T → (r : Row) → row_at rs t ≡ r → RowLinks zeroed rs ls t r
    row_rule t h Plain e = tt
    row_rule t h (Advice w) e = tt
    row_rule t h AdviceEnd e = tt
    row_rule t h (FromLine x) e =
        let k : kind_of (row t) ≡ 1 = sym (alike t h).kind ∙ ap kind_of e in
        let c = line_origin_kept t h k in
        let d = next_link t h (omega arith, omega arith) in
        (subst (λ r. LineOrigin zeroed ls t (touch_of r)) e c, subst (λ r. NextLink rs t (touch_of r)) e d)
    row_rule t h (FromStep x) e =
        let k : kind_of (row t) ≡ 2 = sym (alike t h).kind ∙ ap kind_of e in
        let c = step_origin t h k in
        let d = next_link t h (omega arith, omega arith) in
        (subst (λ r. StepOrigin rs t (touch_of r)) e c, subst (λ r. NextLink rs t (touch_of r)) e d)

    rules : Linked zeroed rs ls
    rules = record {
      order = line_order;
      step = line_step;
      row = λ t p q. let m = len_rs in row_rule t (omega arith) (row_at rs t) refl;
    }

    shows : events_of rs ≡ evs
    shows = let m = len_rs in let k = length_events rs in ext_get_or quiet (events_of rs) evs (omega arith)
        (λ i h. event_row rs (suc i) ∙ (alike (suc i) (omega arith)).event ∙ shown_at_lem (suc i) (omega arith) (omega arith))

    pub rows_are : take T rows ≡ log_rows zeroed evs
    rows_are = (sound zeroed rs ls rules).rows ∙ ap (log_rows zeroed) shows

    pub lines_are : map line_for (take n zs) ≡ log_lines evs
    lines_are = (sound zeroed rs ls rules).lines ∙ ap log_lines shows

    pub count_is : n ≡ length (log_lines evs)
    count_is = sym len_ls ∙ ap length lines_are

    -- THE CELLS AT THE END

    -- the touch that a row of the log shows has the log's next
    next_is : (r : Row) (t c v : ℕ) → r ≡ row_of zeroed evs t (touch c v) → (touch_of r).next ≡ touch_after evs c t
    next_is r t c v e = ap (λ u. (touch_of u).next) e ∙ cond_both (eqb (touch_before evs c t) 0)
        (FromLine (record { cell = c; before = memory zeroed evs c t; after = v; origin = line_of (log_lines evs) c; next = touch_after evs c t }))
        (FromStep (record { cell = c; before = memory zeroed evs c t; after = v; origin = touch_before evs c t; next = touch_after evs c t }))
        (λ u. (touch_of u).next ≡ touch_after evs c t) (λ _. refl) (λ _. refl)

    shows_touch : (r : Row) → IsTouch r → event_of r ≡ touch (touch_of r).cell (touch_of r).after
    shows_touch Plain h = absurd (omega arith)
    shows_touch (FromLine x) h = refl
    shows_touch (FromStep x) h = refl
    shows_touch (Advice w) h = absurd (omega arith)
    shows_touch AdviceEnd h = absurd (omega arith)

    entry_is : (j : ℕ) → j < n → entry_of evs (line_for (entry_at zs j)) ≡ entry_at zs j
    entry_is j h =
        let x = a.from j h in
        let z = entry_at zs j in
        let o : LastAt T row z z.last = rw x.2 (s.lasts x.0 x.1) in
        let p = z.last in
        let low : 1 ≤ p = touch_pos rows0 p o.touch in
        let ev : event_at evs p ≡ touch z.cell z.value =
        sym (shown_at_lem p low o.done) ∙ shows_touch (row p) o.touch ∙ ap (λ u. touch u (touch_of (row p)).after) o.cell ∙ ap (touch z.cell) o.after in
        let hit : touches evs z.cell p ≡ true =
        ap (hits z.cell) (sym (shown_at_lem p low o.done)) ∙ hitting (row p) z.cell (o.touch.0, o.touch.1, o.cell) in
        let log : row_at rs p ≡ row_of zeroed evs p (touch z.cell z.value) = ap (λ u. row_at u p) rows_are ∙ log_row zeroed evs p ∙ ap (row_of zeroed evs p) ev in
        let end : touch_after evs z.cell p ≡ 0 = sym (next_is (row_at rs p) p z.cell z.value log) ∙ (alike p o.done).next ∙ o.next in
        let is_last : IsLast (touches evs z.cell) (suc (length evs)) p = record {
          hit = hit;
          earlier = omega (arith, o.done);
          none = λ u b d. elim (next_cases (touches evs z.cell) p (length evs - p)) [
            | inl f ↦ f u b (omega (arith, o.done))
            | inr f ↦ let y : f.0 ≡ 0 = sym (after_is (touches evs z.cell) p (length evs - p) f.0 f.1 f.2) ∙ end in absurd (omega (arith, f.1.later))
          ];
        } in
        let last : touch_before evs z.cell (suc (length evs)) ≡ p = latest_is (touches evs z.cell) (λ u. u) 0 (suc (length evs)) p is_last in
        let value : memory zeroed evs z.cell (suc (length evs)) ≡ z.value =
        latest_is (touches evs z.cell) (λ u. left (event_at evs u)) 0 (suc (length evs)) p is_last ∙ ap left ev in
        λ i. record { cell = z.cell; first = z.first; last = last i; value = value i }

    pub cells_are : take n zs ≡ log_cells evs
    cells_are =
        let m = len_zs in
        let k : length (log_cells evs) ≡ n = length-map (log_lines evs) (entry_of evs) ∙ sym count_is in
        ext_get_or none (take n zs) (log_cells evs) (omega arith) (λ j h.
        let jn : j < n = omega arith in
        get_or-take n zs j none jn ∙ sym (
        get_or-map (entry_of evs) (log_lines evs) j (record { cell = 0; step = 0 }) none (omega (arith, count_is))
        ∙ ap (λ u. entry_of evs (line_at u j)) (sym lines_are) ∙ ap (entry_of evs) (line_is j jn) ∙ entry_is j jn))
