-- A run beside its log.
-- Assumes nothing.
use Rattle.std.proofs.Common.{◌≡◌, ℕ, suc, ◌<◌, false, cond, eqb, List, [], ◌∷◌, length, Some, sym, refl, ap, ◌∙◌, arith}
use Rattle.std.proofs.lemmas.Bool.{cond_both}
use Rattle.std.proofs.lemmas.List.FromFn.{length-map-range_with_len, get_or-map-range_with_len}
use Rattle.dossier.specs.declared.record.Row.{Row}
use Rattle.dossier.specs.declared.record.Row.TheVariants.{FromLine, FromStep}
use Rattle.run_log.specs.Log.{Event, quiet, touch, event_at, hits, memory, touch_before, touch_after, line_of, log_lines, row_of}
use Rattle.run_log.specs.Rules.{row_at, touch_of, IsTouch}
use Rattle.run_log.specs.Run.{Demand, alone, advice, access, answer, Machine, Config, head, heard, given, shown, stored, asked, after, shown_at, trace, input_of, state_at}

-- the row of a touch
pub record TouchRow (v c a : ℕ) (r : Row) : Type 0 where
  pub touch : IsTouch r
  pub cell : (touch_of r).cell ≡ c
  pub after : (touch_of r).after ≡ a
  pub before : (touch_of r).before ≡ v
  pub input : input_of r ≡ Some v

pub touch_row : (initial : ℕ → ℕ) (es : List Event) (t c a : ℕ) → TouchRow (memory initial es c t) c a (row_of initial es t (touch c a))
touch_row initial es t c a = cond_both (eqb (touch_before es c t) 0)
    (FromLine (record { cell = c; before = memory initial es c t; after = a; origin = line_of (log_lines es) c; next = touch_after es c t }))
    (FromStep (record { cell = c; before = memory initial es c t; after = a; origin = touch_before es c t; next = touch_after es c t }))
    (TouchRow (memory initial es c t) c a)
    (λ e. record { touch = omega arith; cell = refl; after = refl; before = refl; input = refl })
    (λ e. record { touch = omega arith; cell = refl; after = refl; before = refl; input = refl })

heard_input : (initial : ℕ → ℕ) (es : List Event) (t : ℕ) (ws : List ℕ) → input_of (row_of initial es t (heard ws)) ≡ head ws
heard_input initial es t [] = refl
heard_input initial es t (w ∷ ws) = refl

pub heard_misses : (c : ℕ) (ws : List ℕ) → hits c (heard ws) ≡ false
heard_misses c [] = refl
heard_misses c (w ∷ ws) = refl

module _ {S : Type 0} (M : Machine S) where
  -- the cells hold what the events left
  abbrev pub Held : List Event → ℕ → Config S → Type 0
  Held es t g = (c : ℕ) → g.memory c ≡ memory M.initial es c t

  given_is : (es : List Event) (t : ℕ) (d : Demand) (g : Config S) → Held es t g → input_of (row_of M.initial es t (shown M d g)) ≡ given M d g
  given_is es t alone g h = refl
  given_is es t advice g h = heard_input M.initial es t g.tape
  given_is es t (access c) g h = (touch_row M.initial es t c (M.leaves g.state (g.memory c))).input ∙ ap Some (sym (h c))
  given_is es t (answer v) g h = refl

  stored_is : (es : List Event) (t : ℕ) (d : Demand) (g : Config S) → Held es t g → event_at es t ≡ shown M d g →
      (c : ℕ) → stored M d g c ≡ memory M.initial es c (suc t)
  stored_is es t alone g h e c = rw e (h c)
  stored_is es t advice g h e c = rw (e, heard_misses c g.tape) (h c)
  stored_is es t (access d) g h e c = rw e (ap (cond (eqb d c) (M.leaves g.state (g.memory d))) (h c))
  stored_is es t (answer v) g h e c = rw e (h c)

  -- the run and the log after i steps
  pub record Along (rs : List Row) (es : List Event) (ws : List ℕ) (i : ℕ) : Type 0 where
    pub state : (after M ws i).state ≡ state_at M rs i
    pub cells : Held es (suc i) (after M ws i)

  module _ (rs : List Row) (es : List Event) (ws : List ℕ) where
    pub along_none : Along rs es ws 0
    along_none = record { state = refl; cells = λ c. refl }

    pub along_more : (i : ℕ) → row_at rs (suc i) ≡ row_of M.initial es (suc i) (event_at es (suc i)) → Along rs es ws i →
        event_at es (suc i) ≡ shown_at M ws i → Along rs es ws (suc i)
    along_more i log a e =
        let g = after M ws i in
        let k : input_of (row_at rs (suc i)) ≡ given M (asked M g) g =
        ap input_of (log ∙ ap (row_of M.initial es (suc i)) e) ∙ given_is es (suc i) (asked M g) g a.cells in
        record {
          state = ap (λ x. M.makes x (given M (asked M g) g)) a.state ∙ ap (M.makes (state_at M rs i)) (sym k);
          cells = stored_is es (suc i) (asked M g) g a.cells e;
        }

  -- the event of step i + 1
  pub trace_at : (ws : List ℕ) (n i : ℕ) → i < n → event_at (trace M ws n) (suc i) ≡ shown_at M ws i
  trace_at ws n i h = get_or-map-range_with_len (shown_at M ws) 0 n i i quiet h (omega arith)

  pub length_trace : (ws : List ℕ) (n : ℕ) → length (trace M ws n) ≡ n
  length_trace ws n = length-map-range_with_len (shown_at M ws) 0 n
