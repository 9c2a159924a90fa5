-- How the run ends, step by step.
-- Assumes nothing.
use Rattle.std.proofs.Common.{◌≡◌, ℕ, suc, ◌+◌, ◌-◌, ◌<◌, List, Some, None, sym, ap, ◌∙◌, arith}
use Rattle.encoding.specs.declared.instruction.Instruction.{Instruction}
use Rattle.runner.specs.declared.ending.Answered.{Answered}
use Rattle.runner.specs.Ending.{ended_by, answer_at, end_from, ending}

abbrev pub answered : ℕ → ℕ → Answered
answered v t = record { value = v; step = t }

module _ (p : List Instruction) (primary aux : List ℕ) (b T : ℕ) (inv : (k : ℕ) → T + k ≡ b → ending p primary aux b ≡ end_from p primary aux T k) where
  pub ends_now : (v t : ℕ) → T < b → answer_at p primary aux T ≡ Some v → t ≡ T + 1 → Some (answered v t) ≡ ending p primary aux b
  ends_now v t l e is =
      let k = b - T - 1 in
      let q : t ≡ suc T = omega arith in
      let whole : T + suc k ≡ b = omega arith in
      ap (λ u. Some (answered v u)) q ∙ sym (inv (suc k) whole ∙ ap (λ u. ended_by u (suc T) (end_from p primary aux (suc T) k)) e)

  pub ends_later : (t : ℕ) → answer_at p primary aux T ≡ None → t ≡ T + 1 → (k : ℕ) → t + k ≡ b → ending p primary aux b ≡ end_from p primary aux t k
  ends_later t e is k whole =
      let q : suc T ≡ t = omega arith in
      let more : T + suc k ≡ b = omega arith in
      inv (suc k) more ∙ ap (λ u. ended_by u (suc T) (end_from p primary aux (suc T) k)) e ∙ ap (λ u. end_from p primary aux u k) q

  pub ends_out : T ≡ b → None ≡ ending p primary aux b
  ends_out e = let whole : T + 0 ≡ b = omega arith in sym (inv 0 whole)
