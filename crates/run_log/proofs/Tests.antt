-- The tests decide the rules; the sample.
-- Assumes nothing.
use Rattle.std.proofs.Common.{◌≡◌, ℕ, zero, suc, ◌<◌, ◌≤◌, Bool, true, false, cond, ◌&&◌, eqb, ltb, List, length, Decides, refl, inl, inr, arith}
use Rattle.std.proofs.lemmas.Bool.{cases_lt, both_ways, eqb-false, ne_eqb, or_parts, or_from}
use Rattle.std.proofs.lemmas.Bool.Decides.{nat_tests, Decides-eqb, Decides-ltb, Decides-or}
use Rattle.dossier.specs.declared.record.Row.{Row}
use Rattle.dossier.specs.declared.record.Row.TheVariants.{Plain, FromLine, FromStep, Advice, AdviceEnd}
use Rattle.dossier.specs.declared.record.Touch.{Touch}
use Rattle.dossier.specs.declared.record.Line.{Line}
use Rattle.run_log.specs.Log.{IsLog}
use Rattle.run_log.specs.Rules.{row_at, line_at, kind_of, LineOrder, LineStep, LineOrigin, StepOrigin, LedOn, NextLink, RowLinks}
use Rattle.run_log.specs.Rules.{from_step, test_line_order, test_line_step, test_line_origin, test_step_origin, test_next_link, line_finding, link_finding, RowsPass, NoFinding, Decided}
use Rattle.run_log.specs.Run.{Demand, alone, advice, access, answer, Hears, TouchFits, RowFits, state_at, RunDecided}
use Rattle.run_log.specs.Run.{ended_by, plain_finding, advice_finding, touch_finding, step_finding}
use Rattle.run_log.specs.Sample.{Sample}
use Rattle.run_log.specs.Words.{Exactly}
use Rattle.run_log.proofs.Sound.{sound}
use Rattle.run_log.proofs.Complete.{log_linked}

pub sample : Sample
sample = record { rows = refl; lines = refl; row2 = refl; row3 = refl; line0 = refl }

-- RULES IN ORDER

-- a rule with number n + 1, and after it the finding x of those that follow
pub first : {P Q : Type 0} (b : Bool) (x n : ℕ) → Decides b P → Exactly (x ≡ 0) Q → Exactly (cond b x (suc n) ≡ 0) (P × Q)
first true x n p q = (λ e. (p.0 refl, q.0 e), λ h. q.1 h.1)
first false x n p q = (λ e. absurd (omega arith), λ h. absurd (both_ways false refl (p.1 h.0)))

-- the last rule
pub final : {P : Type 0} (b : Bool) (n : ℕ) → Decides b P → Exactly (cond b 0 (suc n) ≡ 0) P
final true n p = (λ e. p.0 refl, λ h. refl)
final false n p = (λ e. absurd (omega arith), λ h. absurd (both_ways false refl (p.1 h)))

-- THE LINK RULES

pub line_order : (ls : List Line) (j : ℕ) → Decides (test_line_order ls j) (LineOrder ls j)
line_order ls zero = (
  λ e. record { fourth = grind (arith, nat_tests); above = λ i z. absurd (omega arith) },
  λ h. grind (arith, nat_tests),
)
line_order ls (suc k) = (
  λ e. record { fourth = grind (arith, nat_tests); above = λ i z. let y : i ≡ k = omega arith in rw y (grind (arith, nat_tests)) },
  λ h. let y = h.above k refl in grind (arith, nat_tests),
)

pub line_step : (rs : List Row) (ls : List Line) (j : ℕ) → Decides (test_line_step rs j (line_at ls j)) (LineStep rs ls j)
line_step rs ls j = (λ e. grind (arith, nat_tests), λ h. grind (arith, nat_tests))

pub line_origin : (initial : ℕ → ℕ) (ls : List Line) (t : ℕ) (x : Touch) → Decides (test_line_origin initial ls t x) (LineOrigin initial ls t x)
line_origin initial ls t x = (λ e. grind (arith, nat_tests), λ h. grind (arith, nat_tests))

pub step_origin : (rs : List Row) (t : ℕ) (x : Touch) → Decides (test_step_origin rs t x) (StepOrigin rs t x)
step_origin rs t x = (λ e. grind (arith, nat_tests), λ h. grind (arith, nat_tests))

pub led_on : (rs : List Row) (t n : ℕ) → Decides (ltb t n && from_step t (row_at rs n)) (LedOn rs t n)
led_on rs t n = (λ e. grind (arith, nat_tests), λ h. grind (arith, nat_tests))

pub next_link : (rs : List Row) (t : ℕ) (x : Touch) → Decides (test_next_link rs t x) (NextLink rs t x)
next_link rs t x = Decides-or _ _ (Decides-eqb x.next 0) (led_on rs t x.next)

module _ (initial : ℕ → ℕ) (rs : List Row) (ls : List Line) where
  pub row_links : (t : ℕ) (r : Row) → Exactly (link_finding initial rs ls t r ≡ 0) (RowLinks initial rs ls t r)
  row_links t Plain = (λ e. tt, λ h. refl)
  row_links t (FromLine x) =
      first (test_line_origin initial ls t x) (cond (test_next_link rs t x) 0 32) 30 (line_origin initial ls t x) (final (test_next_link rs t x) 31 (next_link rs t x))
  row_links t (FromStep x) =
      first (test_step_origin rs t x) (cond (test_next_link rs t x) 0 32) 30 (step_origin rs t x) (final (test_next_link rs t x) 31 (next_link rs t x))
  row_links t (Advice w) = (λ e. tt, λ h. refl)
  row_links t AdviceEnd = (λ e. tt, λ h. refl)

  pub line_rules : (j : ℕ) → Exactly (line_finding rs ls j ≡ 0) (LineOrder ls j × LineStep rs ls j)
  line_rules j =
      first (test_line_order ls j) (cond (test_line_step rs j (line_at ls j)) 0 25) 23 (line_order ls j) (final (test_line_step rs j (line_at ls j)) 24 (line_step rs ls j))

  each_row : RowsPass initial rs ls → (t : ℕ) → 1 ≤ t → t ≤ length rs → RowLinks initial rs ls t (row_at rs t)
  each_row h zero a b = absurd (omega arith)
  each_row h (suc i) a b = (row_links (suc i) (row_at rs (suc i))).0 (h i b)

pub decided : Decided
decided initial rs ls = (
  λ p. record {
    order = λ j h. ((line_rules initial rs ls j).0 (p.lines j h)).0;
    step = λ j h. ((line_rules initial rs ls j).0 (p.lines j h)).1;
    row = each_row initial rs ls p.rows;
  },
  λ k. record {
    lines = λ j h. (line_rules initial rs ls j).1 (k.order j h, k.step j h);
    rows = λ i h. (row_links initial rs ls (suc i) (row_at rs (suc i))).1 (k.row (suc i) (omega arith) h);
  },
)

-- no line and no row has a finding exactly in a log
pub none_log : (initial : ℕ → ℕ) (rs : List Row) (ls : List Line) → Exactly (NoFinding initial rs ls) (IsLog initial rs ls)
none_log initial rs ls = (
  λ p. sound initial rs ls ((decided initial rs ls).0 p),
  λ h. (decided initial rs ls).1 (log_linked initial rs ls h),
)

-- THE RULES OF A STEP

pub plain_row : (r : Row) → Exactly (plain_finding r ≡ 0) (r ≡ Plain)
plain_row Plain = (λ e. refl, λ h. refl)
plain_row (FromLine x) = (λ e. absurd (omega arith), λ h. absurd (cc))
plain_row (FromStep x) = (λ e. absurd (omega arith), λ h. absurd (cc))
plain_row (Advice w) = (λ e. absurd (omega arith), λ h. absurd (cc))
plain_row AdviceEnd = (λ e. absurd (omega arith), λ h. absurd (cc))

-- no advice end among the first i rows
pub not_ended : (rs : List Row) (i : ℕ) → ended_by rs i ≡ false → (u : ℕ) → u < suc i → kind_of (row_at rs u) ≡ 4 → ⊥
not_ended rs i e zero l h = omega arith
not_ended rs zero e (suc k) l h = omega arith
not_ended rs (suc i) e (suc k) l h =
    let b = or_parts (eqb (kind_of (row_at rs (suc i))) 4) (ended_by rs i) e in
    elim (cases_lt k i) [
      | inl m ↦ not_ended rs i b.1 (suc k) (omega arith) h
      | inr m ↦ let z : k ≡ i = omega arith in eqb-false (kind_of (row_at rs (suc i))) 4 b.0 (rw z at h)
    ]

pub none_ended : (rs : List Row) (i : ℕ) → ((u : ℕ) → u < suc i → kind_of (row_at rs u) ≡ 4 → ⊥) → ended_by rs i ≡ false
none_ended rs zero h = refl
none_ended rs (suc i) h =
    or_from (eqb (kind_of (row_at rs (suc i))) 4) (ended_by rs i) (ne_eqb (kind_of (row_at rs (suc i))) 4 (h (suc i) (omega arith)))
    (none_ended rs i (λ u l. h u (omega arith)))

over_none : (over : Bool) (w : ℕ) → advice_finding over (Advice w) ≡ 0 → over ≡ false
over_none true w e = absurd (omega arith)
over_none false w e = refl

pub advice_row : (rs : List Row) (i : ℕ) (r : Row) → Exactly (advice_finding (ended_by rs i) r ≡ 0) (Hears rs (suc i) r)
advice_row rs i Plain = (λ e. absurd (omega arith), λ h. absurd h)
advice_row rs i (FromLine x) = (λ e. absurd (omega arith), λ h. absurd h)
advice_row rs i (FromStep x) = (λ e. absurd (omega arith), λ h. absurd h)
advice_row rs i (Advice w) = (λ e. not_ended rs i (over_none (ended_by rs i) w e), λ h. rw (none_ended rs i h))
advice_row rs i AdviceEnd = (λ e. tt, λ h. refl)

pub touch_row : (leaves : ℕ → ℕ) (c : ℕ) (r : Row) → Exactly (touch_finding leaves c r ≡ 0) (TouchFits leaves c r)
touch_row leaves c r = (λ e. grind (arith, nat_tests), λ h. grind (arith, nat_tests))

pub step_row : (leaves : ℕ → ℕ) (rs : List Row) (i : ℕ) (d : Demand) (r : Row) →
    Exactly (step_finding leaves (length rs) (suc i) (ended_by rs i) d r ≡ 0) (RowFits leaves rs (suc i) d r)
step_row leaves rs i alone r = first (ltb (suc i) (length rs)) (plain_finding r) 26 (Decides-ltb (suc i) (length rs)) (plain_row r)
step_row leaves rs i advice r =
    first (ltb (suc i) (length rs)) (advice_finding (ended_by rs i) r) 26 (Decides-ltb (suc i) (length rs)) (advice_row rs i r)
step_row leaves rs i (access c) r =
    first (ltb (suc i) (length rs)) (touch_finding leaves c r) 26 (Decides-ltb (suc i) (length rs)) (touch_row leaves c r)
step_row leaves rs i (answer v) r =
    first (eqb v 0) (cond (eqb (suc i) (length rs)) (plain_finding r) 27) 25 (Decides-eqb v 0)
    (first (eqb (suc i) (length rs)) (plain_finding r) 26 (Decides-eqb (suc i) (length rs)) (plain_row r))

pub run_decided : (S : Type 0) → RunDecided S
run_decided S M rs = (
  λ p. record {
    some = p.some;
    each = λ i h. (step_row (M.leaves (state_at M rs i)) rs i (M.asks (state_at M rs i)) (row_at rs (suc i))).0 (p.each i h);
  },
  λ f. record {
    some = f.some;
    each = λ i h. (step_row (M.leaves (state_at M rs i)) rs i (M.asks (state_at M rs i)) (row_at rs (suc i))).1 (f.each i h);
  },
)
