-- Rows and lines that keep all rules log an accepting run on the tape of their advice words.
-- Assumes nothing.
use Rattle.std.proofs.Common.{◌≡◌, ℕ, zero, suc, ◌+◌, ◌<◌, ◌≤◌, List, [], ◌∷◌, length, get_or, drop, sym, refl, ap, ◌∙◌, subst, arith, drop-cons}
use Rattle.std.proofs.lemmas.List.{ext_get_or, get_or-drop}
use Rattle.dossier.specs.declared.record.Row.{Row}
use Rattle.dossier.specs.declared.record.Row.TheVariants.{Plain, FromLine, FromStep, Advice, AdviceEnd}
use Rattle.dossier.specs.declared.record.Touch.{Touch}
use Rattle.dossier.specs.declared.record.Line.{Line}
use Rattle.run_log.specs.Log.{Event, quiet, touch, event_at, memory, log_lines, log_rows, row_of, event_of, events_of}
use Rattle.run_log.specs.Rules.{row_at, kind_of, touch_of, Linked}
use Rattle.run_log.specs.Run.{Demand, alone, advice, access, answer, Machine, Config, heard, tail, shown, unread, asked, after, shown_at, trace, Accepts, Logs}
use Rattle.run_log.specs.Run.{advice_of, state_at, TouchFits, RowFits, Fits, RunSound}
use Rattle.run_log.proofs.Sound.{sound}
use Rattle.run_log.proofs.Rows.{event_row, log_row, row_inside, length_events}
use Rattle.run_log.proofs.Along.{touch_row, Held, Along, along_none, along_more, trace_at, length_trace}

-- rows with no advice word have no advice
no_words : (rs : List Row) → ((i : ℕ) → kind_of (get_or rs i Plain) ≡ 3 → ⊥) → advice_of rs ≡ []
no_words [] h = refl
no_words (Plain ∷ rs) h = no_words rs (λ i. h (suc i))
no_words (FromLine x ∷ rs) h = no_words rs (λ i. h (suc i))
no_words (FromStep x ∷ rs) h = no_words rs (λ i. h (suc i))
no_words (Advice w ∷ rs) h = absurd (h 0 refl)
no_words (AdviceEnd ∷ rs) h = no_words rs (λ i. h (suc i))

-- an advice word follows no advice end
fits_word : (leaves : ℕ → ℕ) (rs : List Row) (t : ℕ) (d : Demand) (r : Row) → kind_of r ≡ 3 → RowFits leaves rs t d r →
    (u : ℕ) → u < t → kind_of (row_at rs u) ≡ 4 → ⊥
fits_word leaves rs t alone r k f u l h = omega (arith, ap kind_of f.1)
fits_word leaves rs t advice Plain k f u l h = f.1
fits_word leaves rs t advice (FromLine x) k f u l h = f.1
fits_word leaves rs t advice (FromStep x) k f u l h = f.1
fits_word leaves rs t advice (Advice w) k f u l h = f.1 u l h
fits_word leaves rs t advice AdviceEnd k f u l h = omega arith
fits_word leaves rs t (access c) r k f u l h = omega (arith, f.1.touch.1)
fits_word leaves rs t (answer v) r k f u l h = omega (arith, ap kind_of f.1.1)

module _ {S : Type 0} (M : Machine S) (rs : List Row) (ls : List Line) (ok : Linked M.initial rs ls) (fits : Fits M rs) where
  abbrev es : List Event
  es = events_of rs

  abbrev ws : List ℕ
  ws = advice_of rs

  log : (t : ℕ) → row_at rs t ≡ row_of M.initial es t (event_at es t)
  log t = ap (λ x. row_at x t) (sound M.initial rs ls ok).rows ∙ log_row M.initial es t

  -- a touch was given what its cell holds
  before_is : (t : ℕ) (r : Row) (x : Touch) → row_at rs t ≡ r → event_of r ≡ touch x.cell x.after → (touch_of r).before ≡ memory M.initial es x.cell t
  before_is t r x e v =
      ap (λ y. (touch_of y).before) (sym e ∙ log t ∙ ap (row_of M.initial es t) (event_row rs t ∙ ap event_of e ∙ v))
      ∙ (touch_row M.initial es t x.cell x.after).before

  -- after an advice end there is no advice
  no_more : (i : ℕ) → kind_of (row_at rs (suc i)) ≡ 4 → advice_of (drop (suc i) rs) ≡ []
  no_more i e = no_words (drop (suc i) rs) (λ j k.
      let n = suc i + j in
      let k' : kind_of (row_at rs (suc n)) ≡ 3 = ap kind_of (sym (get_or-drop (suc i) rs j Plain)) ∙ k in
      let b = row_inside rs (suc n) (omega arith) in
      fits_word (M.leaves (state_at M rs n)) rs (suc n) (M.asks (state_at M rs n)) (row_at rs (suc n)) k' (fits.each n (omega arith)) (suc i) (omega arith) e)

  advice_at : (i : ℕ) (r : Row) → i < length rs → row_at rs (suc i) ≡ r → advice_of (drop i rs) ≡ advice_of (r ∷ drop (suc i) rs)
  advice_at i r h e = ap advice_of (drop-cons rs i Plain h ∙ ap {B = List Row} (λ x. x ∷ drop (suc i) rs) e)

  -- ONE STEP, from the configuration g after i rows

  module _ (i : ℕ) (h : i < length rs) (g : Config S) (held : Held M es (suc i) g) (tape : g.tape ≡ advice_of (drop i rs)) where
    touch_is : (c : ℕ) (r : Row) (x : Touch) → row_at rs (suc i) ≡ r → event_of r ≡ touch x.cell x.after → touch_of r ≡ x →
        TouchFits (M.leaves g.state) c r → event_of r ≡ shown M (access c) g
    touch_is c r x e v same f =
        let b = before_is (suc i) r x e v in
        let m = held c in
        let k : x.cell ≡ c = ap (λ y. y.cell) (sym same) ∙ f.cell in
        let n : (touch_of r).before ≡ g.memory c = b ∙ ap (λ d. memory M.initial es d (suc i)) k ∙ sym m in
        let a : x.after ≡ M.leaves g.state (g.memory c) = ap (λ y. y.after) (sym same) ∙ f.after ∙ ap (M.leaves g.state) n in
        v ∙ ap (λ d. touch d x.after) k ∙ ap (touch c) a

    event_is : (d : Demand) (r : Row) → row_at rs (suc i) ≡ r → RowFits (M.leaves g.state) rs (suc i) d r → event_of r ≡ shown M d g
    event_is alone r e f = ap event_of f.1
    event_is (answer v) r e f = ap event_of f.1.1
    event_is advice Plain e f = absurd f.1
    event_is advice (FromLine x) e f = absurd f.1
    event_is advice (FromStep x) e f = absurd f.1
    event_is advice (Advice w) e f = ap heard (sym (tape ∙ advice_at i (Advice w) h e))
    event_is advice AdviceEnd e f = ap heard (sym (tape ∙ advice_at i AdviceEnd h e ∙ no_more i (ap kind_of e)))
    event_is (access c) Plain e f = absurd (omega (arith, f.1.touch.0))
    event_is (access c) (FromLine x) e f = touch_is c (FromLine x) x e refl refl f.1
    event_is (access c) (FromStep x) e f = touch_is c (FromStep x) x e refl refl f.1
    event_is (access c) (Advice w) e f = absurd (omega (arith, f.1.touch.1))
    event_is (access c) AdviceEnd e f = absurd (omega (arith, f.1.touch.1))

    tape_is : (d : Demand) (r : Row) → row_at rs (suc i) ≡ r → RowFits (M.leaves g.state) rs (suc i) d r → unread M d g ≡ advice_of (drop (suc i) rs)
    tape_is alone r e f = tape ∙ advice_at i Plain h (e ∙ f.1)
    tape_is (answer v) r e f = tape ∙ advice_at i Plain h (e ∙ f.1.1)
    tape_is advice Plain e f = absurd f.1
    tape_is advice (FromLine x) e f = absurd f.1
    tape_is advice (FromStep x) e f = absurd f.1
    tape_is advice (Advice w) e f = ap tail (tape ∙ advice_at i (Advice w) h e)
    tape_is advice AdviceEnd e f = let n = no_more i (ap kind_of e) in ap tail (tape ∙ advice_at i AdviceEnd h e ∙ n) ∙ sym n
    tape_is (access c) Plain e f = absurd (omega (arith, f.1.touch.0))
    tape_is (access c) (FromLine x) e f = tape ∙ advice_at i (FromLine x) h e
    tape_is (access c) (FromStep x) e f = tape ∙ advice_at i (FromStep x) h e
    tape_is (access c) (Advice w) e f = absurd (omega (arith, f.1.touch.1))
    tape_is (access c) AdviceEnd e f = absurd (omega (arith, f.1.touch.1))

  -- ALL STEPS

  record Sofar (i : ℕ) : Type 0 where
    along : Along M rs es ws i
    tape : (after M ws i).tape ≡ advice_of (drop i rs)

  -- the rule of the step, at the run's own state
  fits_at : (i : ℕ) → i < length rs → Sofar i → RowFits (M.leaves (after M ws i).state) rs (suc i) (asked M (after M ws i)) (row_at rs (suc i))
  fits_at i h a = subst (λ s. RowFits (M.leaves s) rs (suc i) (M.asks s) (row_at rs (suc i))) (sym a.along.state) (fits.each i h)

  event_at_lem : (i : ℕ) → i < length rs → Sofar i → event_at es (suc i) ≡ shown_at M ws i
  event_at_lem i h a =
      event_row rs (suc i) ∙ event_is i h (after M ws i) a.along.cells a.tape (asked M (after M ws i)) (row_at rs (suc i)) refl (fits_at i h a)

  so_far : (i : ℕ) → i ≤ length rs → Sofar i
  so_far zero h = record { along = along_none M rs es ws; tape = refl }
  so_far (suc i) h =
      let a = so_far i (omega arith) in
      record {
        along = along_more M rs es ws i (log (suc i)) a.along (event_at_lem i h a);
        tape = tape_is i h (after M ws i) a.along.cells a.tape (asked M (after M ws i)) (row_at rs (suc i)) refl (fits_at i h a);
      }

  events_are : es ≡ trace M ws (length rs)
  events_are = ext_get_or quiet es (trace M ws (length rs)) (length_events rs ∙ sym (length_trace M ws (length rs))) (λ i l.
      let h : i < length rs = omega (arith, length_events rs) in
      event_at_lem i h (so_far i (omega arith)) ∙ sym (trace_at M ws (length rs) i h))

  -- the last row's step answers 0, and no other does
  ends : (leaves : ℕ → ℕ) (t : ℕ) (d : Demand) (r : Row) → RowFits leaves rs t d r → t ≡ length rs → d ≡ answer 0
  ends leaves t alone r f e = absurd (omega arith)
  ends leaves t advice r f e = absurd (omega arith)
  ends leaves t (access c) r f e = absurd (omega arith)
  ends leaves t (answer v) r f e = ap answer f.0

  accepts : Accepts M ws (length rs)
  accepts = record {
    last = λ i e.
        let h : i < length rs = omega arith in
        ends (M.leaves (after M ws i).state) (suc i) (asked M (after M ws i)) (row_at rs (suc i)) (fits_at i h (so_far i (omega arith))) e;
    before = λ i v l e.
        let h : i < length rs = omega arith in
        let f = subst (λ d. RowFits (M.leaves (after M ws i).state) rs (suc i) d (row_at rs (suc i))) e (fits_at i h (so_far i (omega arith))) in
        omega (arith, f.1.0);
    some = fits.some;
  }

  logs : Logs M rs ls ws
  logs = record {
    rows = (sound M.initial rs ls ok).rows ∙ ap (log_rows M.initial) events_are;
    lines = (sound M.initial rs ls ok).lines ∙ ap log_lines events_are;
    accepts = accepts;
  }

pub run_sound : (S : Type 0) → RunSound S
run_sound S M rs ls ok fits = logs M rs ls ok fits
