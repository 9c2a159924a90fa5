-- The rules of a step that need no other item, tried one after the other, are those of the row.
use Rattle.std.proofs.Common.{◌≡◌, ℕ, suc, ◌+◌, Bool, true, false, cond, eqb, ltb, leb, Ok, refl, add-one, arith}
use Rattle.std.proofs.lemmas.Bool.Decides.{nat_tests}
use Rattle.machine.specs.declared.step.Demand.{Demand}
use Rattle.machine.specs.declared.step.Demand.TheVariants as demand
use Rattle.dossier.specs.declared.record.Row.{Row}
use Rattle.dossier.specs.declared.record.Row.TheVariants.{Plain, FromLine, FromStep, Advice, AdviceEnd}
use Rattle.run_log.specs.Rules.{kind_of, touch_of, test_touch}
use Rattle.run_log.specs.Run.{step_finding, plain_finding, advice_finding, touch_finding}
use Rattle.tinyram.specs.Program.{outside}
use Rattle.rules.specs.declared.finding.Rule.TheVariants as rule
use Rattle.rules.specs.declared.progress.Unit.TheVariants as unit
use Rattle.rules.specs.Checks.{only_zero, halts_last, kind_fits, advice_fits, touch_fits, checked_step}
use Rattle.rules.proofs.Goes.{held, holds, past_test, with_test}

pub record Tests (T t : ℕ) (ended : Bool) (leaves : ℕ → ℕ) (d : Demand) (r : Row) : Type 0 where
  pub zero : only_zero d ≡ true
  pub last : halts_last T t d ≡ true
  pub kind : kind_fits d r ≡ true
  pub advice : advice_fits ended r ≡ true
  pub touch : touch_fits leaves d (touch_of r) ≡ true

no : {P : Type 0} → false ≡ true → P
no e = absurd (cc)

-- a finding's number is not 0
cond_none : (b : Bool) (x n : ℕ) → cond b x (suc n) ≡ 0 → (b ≡ true) × (x ≡ 0)
cond_none true x n e = (refl, e)
cond_none false x n e = absurd (omega arith)

none_cond : (b : Bool) (x n : ℕ) → b ≡ true → x ≡ 0 → cond b x (suc n) ≡ 0
none_cond true x n t e = e
none_cond false x n t e = no t

module _ (T t : ℕ) (leaves : ℕ → ℕ) where
  advice_none : (ended : Bool) (r : Row) → kind_fits demand.Advice r ≡ true → advice_fits ended r ≡ true → advice_finding ended r ≡ 0
  advice_none ended Plain k a = no k
  advice_none ended (FromLine x) k a = no k
  advice_none ended (FromStep x) k a = no k
  advice_none true (Advice w) k a = no a
  advice_none false (Advice w) k a = refl
  advice_none ended AdviceEnd k a = refl

  none_advice : (ended : Bool) (r : Row) → advice_finding ended r ≡ 0 → (kind_fits demand.Advice r ≡ true) × (advice_fits ended r ≡ true)
  none_advice ended Plain e = absurd (omega arith)
  none_advice ended (FromLine x) e = absurd (omega arith)
  none_advice ended (FromStep x) e = absurd (omega arith)
  none_advice true (Advice w) e = absurd (omega arith)
  none_advice false (Advice w) e = (refl, refl)
  none_advice true AdviceEnd e = (refl, refl)
  none_advice false AdviceEnd e = (refl, refl)

  -- a row that is no advice word follows no rule of advice
  no_advice : (ended : Bool) (r : Row) → leb (kind_of r) 2 ≡ true → advice_fits ended r ≡ true
  no_advice true Plain e = refl
  no_advice true (FromLine x) e = refl
  no_advice true (FromStep x) e = refl
  no_advice true (Advice w) e = no e
  no_advice true AdviceEnd e = refl
  no_advice false r e = refl

  plain_low : (r : Row) → eqb (kind_of r) 0 ≡ true → leb (kind_of r) 2 ≡ true
  plain_low r e = grind (arith, nat_tests)

  tests_none : (ended : Bool) (d : Demand) (r : Row) → Tests T t ended leaves d r → step_finding leaves T t ended (outside d) r ≡ 0
  tests_none ended demand.Nothing r s = none_cond _ _ 26 s.last (none_cond _ 0 27 s.kind refl)
  tests_none ended (demand.Cell c) r s = none_cond _ _ 26 s.last (none_cond _ _ 27 s.kind (none_cond _ 0 29 s.touch refl))
  tests_none ended demand.Primary r s = none_cond _ _ 26 s.last (none_cond _ 0 27 s.kind refl)
  tests_none ended demand.Advice r s = none_cond _ _ 26 s.last (advice_none ended r s.kind s.advice)
  tests_none ended (demand.Halt v) r s = none_cond _ _ 25 s.zero (none_cond _ _ 26 s.last (none_cond _ 0 27 s.kind refl))

  none_tests : (ended : Bool) (d : Demand) (r : Row) → step_finding leaves T t ended (outside d) r ≡ 0 → Tests T t ended leaves d r
  none_tests ended demand.Nothing r e =
      let (a, f) = cond_none (ltb t T) (plain_finding r) 26 e in
      let (k, z) = cond_none (eqb (kind_of r) 0) 0 27 f in
      record { zero = refl; last = a; kind = k; advice = no_advice ended r (plain_low r k); touch = refl }
  none_tests ended (demand.Cell c) r e =
      let (a, f) = cond_none (ltb t T) (touch_finding leaves c r) 26 e in
      let (k, g) = cond_none (test_touch r) _ 27 f in
      let (x, z) = cond_none _ 0 29 g in
      let low : leb (kind_of r) 2 ≡ true = grind (arith, nat_tests) in
      record { zero = refl; last = a; kind = k; advice = no_advice ended r low; touch = x }
  none_tests ended demand.Primary r e =
      let (a, f) = cond_none (ltb t T) (plain_finding r) 26 e in
      let (k, z) = cond_none (eqb (kind_of r) 0) 0 27 f in
      record { zero = refl; last = a; kind = k; advice = no_advice ended r (plain_low r k); touch = refl }
  none_tests ended demand.Advice r e =
      let (a, f) = cond_none (ltb t T) (advice_finding ended r) 26 e in
      let (k, o) = none_advice ended r f in
      record { zero = refl; last = a; kind = k; advice = o; touch = refl }
  none_tests ended (demand.Halt v) r e =
      let (z, f) = cond_none (eqb v 0) _ 25 e in
      let (a, g) = cond_none (eqb t T) (plain_finding r) 26 f in
      let (k, y) = cond_none (eqb (kind_of r) 0) 0 27 g in
      record { zero = z; last = a; kind = k; advice = no_advice ended r (plain_low r k); touch = refl }

module _ (T i : ℕ) (ended : Bool) (leaves : ℕ → ℕ) (d : Demand) (r : Row) where
  passed : (u : Unit) → checked_step T (unit.Row i) ended leaves d r ≡ Ok u → Tests T (i + 1) ended leaves d r
  passed u e =
      let (a, e1) = past_test (only_zero d) _ rule.OtherAnswer _ u e in
      let (b, e2) = past_test (halts_last T (i + 1) d) _ rule.LastAnswer _ u e1 in
      let (c, e3) = past_test (kind_fits d r) _ rule.Kind _ u e2 in
      let (f, e4) = past_test (advice_fits ended r) _ rule.AdviceEnd _ u e3 in
      record { zero = a; last = b; kind = c; advice = f; touch = held (touch_fits leaves d (touch_of r)) _ rule.Touch u e4 }

  passes : Tests T (i + 1) ended leaves d r → checked_step T (unit.Row i) ended leaves d r ≡ Ok tt
  passes s =
      with_test _ _ rule.OtherAnswer _ tt s.zero
      (with_test _ _ rule.LastAnswer _ tt s.last
      (with_test _ _ rule.Kind _ tt s.kind
      (with_test _ _ rule.AdviceEnd _ tt s.advice
      (holds _ _ rule.Touch s.touch))))

  pub step_sound : (u : Unit) → checked_step T (unit.Row i) ended leaves d r ≡ Ok u → step_finding leaves T (suc i) ended (outside d) r ≡ 0
  step_sound u e = tests_none T (suc i) leaves ended d r (rw add-one at (passed u e))

  pub step_complete : step_finding leaves T (suc i) ended (outside d) r ≡ 0 → checked_step T (unit.Row i) ended leaves d r ≡ Ok tt
  step_complete e = passes (rw add-one (none_tests T (suc i) leaves ended d r e))
