-- A line passes its check exactly if it keeps the rules of lines.
use Rattle.std.proofs.Common.{◌≡◌, ℕ, zero, suc, ◌%◌, ◌≤◌, true, ◌&&◌, eqb, List, length, Some, None, Ok, Option, refl, arith}
use Rattle.std.proofs.lemmas.Bool.Decides.{nat_tests}
use Rattle.encoding.specs.declared.instruction.Instruction.{Instruction}
use Rattle.dossier.specs.declared.record.Head.{Head}
use Rattle.dossier.specs.declared.record.Line.{Line}
use Rattle.dossier.specs.declared.record.Row.{Row}
use Rattle.run_log.specs.Rules.{row_at, line_at, from_line, LineOrder, LineStep}
use Rattle.rules.specs.declared.finding.Rule.TheVariants as rule
use Rattle.rules.specs.declared.progress.Unit.TheVariants as unit
use Rattle.rules.specs.Checks.{above, within, checked_line}
use Rattle.rules.proofs.Goes.{past_test, with_test, found, finds}
use Rattle.rules.proofs.Whole.{whole, row_read}

-- the cell of the line before line j
abbrev pub former : List Line → ℕ → Option ℕ
former ls zero = None
former ls (suc j) = Some (line_at ls j).cell

above_order : (ls : List Line) (j : ℕ) → (eqb ((line_at ls j).cell % 4) 0 && above (former ls j) (line_at ls j).cell) ≡ true → LineOrder ls j
above_order ls zero e = record { fourth = grind (arith, nat_tests); above = λ i s. absurd (omega arith) }
above_order ls (suc j) e = record {
  fourth = grind (arith, nat_tests);
  above = λ i s. let q : i ≡ j = omega arith in rw q (grind (arith, nat_tests));
}

order_above : (ls : List Line) (j : ℕ) → LineOrder ls j → (eqb ((line_at ls j).cell % 4) 0 && above (former ls j) (line_at ls j).cell) ≡ true
order_above ls zero o = let a = o.fourth in grind (arith, nat_tests)
order_above ls (suc j) o = let a = o.fourth in let b = o.above j refl in grind (arith, nat_tests)

module _ (h : Head) (p : List Instruction) (ws : List ℕ) (ls : List Line) (rs : List Row) (cr : length rs ≡ h.rows) where
  pub line_sound : (j : ℕ) (u : Unit) → checked_line (whole h p ws ls rs) h (unit.Line j) (former ls j) (line_at ls j) ≡ Ok u → LineOrder ls j × LineStep rs ls j
  line_sound j u e =
      let (a, e1) = past_test _ _ rule.LineOrder _ u e in
      let (b, e2) = past_test (within h (line_at ls j).step) _ rule.LineStep _ u e1 in
      let lo : 1 ≤ (line_at ls j).step = grind (arith, nat_tests) in
      let hi : (line_at ls j).step ≤ length rs = grind (arith, nat_tests) in
      let f = found (unit.Line j) _ (row_at rs (line_at ls j).step) (from_line j) rule.LineStep u (row_read h p ws ls rs (line_at ls j).step lo hi) e2 in
      (above_order ls j a, record { starts = lo; ends = hi; kind = grind (arith, nat_tests); back = grind (arith, nat_tests) })

  pub line_complete : (j : ℕ) → LineOrder ls j → LineStep rs ls j → checked_line (whole h p ws ls rs) h (unit.Line j) (former ls j) (line_at ls j) ≡ Ok tt
  line_complete j o s =
      let lo = s.starts in
      let hi = s.ends in
      let k = s.kind in
      let b = s.back in
      let w : within h (line_at ls j).step ≡ true = grind (arith, nat_tests) in
      let f : from_line j (row_at rs (line_at ls j).step) ≡ true = grind (arith, nat_tests) in
      with_test _ _ rule.LineOrder _ tt (order_above ls j o)
      (with_test _ _ rule.LineStep _ tt w
      (finds (unit.Line j) _ (row_at rs (line_at ls j).step) (from_line j) rule.LineStep (row_read h p ws ls rs (line_at ls j).step lo hi) f))
