-- The log of the sample program, by computation.
-- Assumes nothing.
use Rattle.std.proofs.Common.{◌≡◌, ℕ, zero, suc, ◌<◌, List, [], ◌∷◌, refl, subst, arith}
use Rattle.encoding.specs.declared.operation.Operand.{Operand}
use Rattle.encoding.specs.declared.operation.Operand.TheVariants.{Immediate}
use Rattle.encoding.specs.declared.operation.Operation.TheVariants.{Answer}
use Rattle.machine.specs.State.{value_of}
use Rattle.tinyram.specs.Program.{cpu_at, executed}
use Rattle.tinyram.specs.Sample.{sample_program, SampleLog}

abbrev tape : List ℕ
tape = 7 ∷ []

no_answer : (i : ℕ) (a : Operand) → suc i < 6 → executed sample_program [] tape i ≡ Answer a → ⊥
no_answer zero a l e = cc
no_answer (suc zero) a l e = cc
no_answer (suc (suc zero)) a l e = cc
no_answer (suc (suc (suc zero))) a l e = cc
no_answer (suc (suc (suc (suc zero)))) a l e = cc
no_answer (suc (suc (suc (suc (suc i))))) a l e = omega arith

pub sample_log : SampleLog sample_program
sample_log = record {
  accepts = record {
    some = omega arith;
    last = λ i e.
        let z : 5 ≡ i = omega arith in
        subst (λ i. (a : Operand) × (executed sample_program [] tape i ≡ Answer a) × (value_of (cpu_at sample_program [] tape i) a ≡ 0)) z (Immediate 0, refl, refl);
    before = no_answer;
  };
  rows = refl;
  lines = refl;
}
