-- Instructions laid over a table. Assumes nothing.
use Rattle.std.proofs.Common.{◌≡◌, ℕ, suc, ◌≤◌, List, [], ◌∷◌, ◌++◌, length, drop, set, refl, ap, ◌∙◌, arith}
use Rattle.encoding.specs.declared.instruction.Instruction.{Instruction}
use Rattle.assembler.specs.Program.{overlaid}

shift : (k : ℕ) (p : List Instruction) (x : Instruction) (out : List Instruction) → overlaid (suc k) p (x ∷ out) ≡ x ∷ overlaid k p out
shift k [] x out = refl
shift k (i ∷ p) x out = shift (suc k) p x (set out k i)

pub overlaid_front : (p out : List Instruction) → length p ≤ length out → overlaid 0 p out ≡ p ++ drop (length p) out
overlaid_front [] out h = refl
overlaid_front (i ∷ p) [] h = absurd (omega arith)
overlaid_front (i ∷ p) (x ∷ out) h = shift 0 p i out ∙ ap (λ t. i ∷ t) (overlaid_front p out (omega arith))
