-- One more first touch has its line as origin.
-- Assumes nothing.
use Rattle.std.proofs.Common.{◌≡◌, ℕ, suc, ◌+◌, ◌-◌, ◌<◌, List, length, get_or, set, sym, ap, ◌∙◌, subst, inl, inr, arith}
use Rattle.std.proofs.lemmas.List.{get_or_default}
use Rattle.std.proofs.lemmas.Bool.{cases_lt}
use Rattle.dossier.specs.declared.record.Row.{Row}
use Rattle.dossier.specs.declared.record.Row.TheVariants.{Plain}
use Rattle.run_log.specs.Rules.{row_at}
use Rattle.runner.specs.Label.{with_line, Openings, Labelled}
use Rattle.runner.proofs.Tables.{row_here, row_there, row_by}

module _ {n : ℕ} (rows0 rows : List Row) {first : ℕ → ℕ} {j : ℕ} (o : Openings n (length rows0) first) (l : j < n) (h : Labelled j first (row_at rows0) (row_at rows))
    (long : length rows ≡ length rows0) where
  in_table : first j - 1 < length rows
  in_table = let a = o.above j l in let b = o.inside j l in omega arith

  step_is : suc (first j - 1) ≡ first j
  step_is = let a = o.above j l in omega arith

  -- the row is still as it was
  fresh : row_at rows (first j) ≡ row_at rows0 (first j)
  fresh = h.rest (first j) (λ i a e. let z = o.apart i j (omega arith) l e in omega arith)

  pub label_more : (q d : Row) → q ≡ with_line j (get_or rows (first j - 1) d) → Labelled (j + 1) first (row_at rows0) (row_at (set rows (first j - 1) q))
  label_more q d is = record {
    done = λ i a. elim (cases_lt i j) [
      | inl b ↦ row_there rows (first j - 1) (first i) q (λ z. let y = o.apart i j (omega arith) l (z ∙ step_is) in omega arith) ∙ h.done i b
      | inr b ↦
          let z : i ≡ j = omega arith in
          let P : ℕ → Type 0 = λ u. row_at (set rows (first j - 1) q) u ≡ q in
          let here : row_at (set rows (first j - 1) q) (first j) ≡ q = subst P step_is (row_here rows (first j - 1) q in_table) in
          let read : get_or rows (first j - 1) d ≡ row_at rows (first j) = get_or_default rows (first j - 1) d Plain in_table ∙ sym (row_by rows (first j) (o.above j l)) in
          rw z (here ∙ is ∙ ap (with_line j) (read ∙ fresh))
    ];
    rest = λ t f. row_there rows (first j - 1) t q (λ z. f j (omega arith) (sym (z ∙ step_is))) ∙ h.rest t (λ i a. f i (omega arith));
  }
