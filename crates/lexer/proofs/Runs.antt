-- A text may be cut behind the longest front of a class. Assumes nothing.
use Rattle.std.proofs.Common.{◌≡◌, ℕ, zero, suc, ◌≤◌, true, false, List, get_or, IsUtf8, sym, refl, ap, ◌∙◌, inl, inr, add-one, arith}
use Rattle.std.specs.List.{prefix_len}
use Rattle.std.specs.Str.{IsCharBoundary}
use Rattle.std.proofs.lemmas.Bool.{cases_lt}
use Rattle.std.proofs.lemmas.List.Sums.{prefix_len-le-length, prefix_len_passes, prefix_len_stops}
use Rattle.std.proofs.lemmas.Str.{IsCharBoundary-start, lead_after_ascii}
use Rattle.std.proofs.lemmas.Bool.Decides.{nat_tests}
use Rattle.lexer.specs.declared.class.Class.{Class}
use Rattle.lexer.specs.declared.class.Class.TheVariants.{Blank, Word, Name, Digit, Line}
use Rattle.lexer.specs.Classes.{belongs}

-- a byte past ASCII is of the class Line alone
wide : (class : Class) (a b : ℕ) → 128 ≤ a → 128 ≤ b → belongs class a ≡ belongs class b
wide Blank a b h l = grind (arith, nat_tests)
wide Word a b h l = grind (arith, nat_tests)
wide Name a b h l = grind (arith, nat_tests)
wide Digit a b h l = grind (arith, nat_tests)
wide Line a b h l = grind (arith, nat_tests)

boundary_at : (class : Class) (bs : List ℕ) (n : ℕ) → IsUtf8 bs → prefix_len (belongs class) bs ≡ n → IsCharBoundary bs n
boundary_at class bs zero u e = IsCharBoundary-start bs u
boundary_at class bs (suc n) u e = (
  omega (arith, prefix_len-le-length (belongs class) bs),
  λ inside high.
      elim (cases_lt (get_or bs n 0) 128) [
        | inl low ↦ (rw add-one at (lead_after_ascii bs n u low)) inside high
        | inr also ↦
            let first = prefix_len_passes (belongs class) bs n 0 (omega arith) in
            let next = ap (λ k. belongs class (get_or bs k 0)) (sym e) ∙ prefix_len_stops (belongs class) bs 0 (omega arith) in
            let z : true ≡ false = sym first ∙ wide class _ _ also high ∙ next in
            let c : ◌≡◌ {A = ℕ} 0 1 = cc in
            absurd (omega arith)
      ],
)

pub boundary : (class : Class) (bs : List ℕ) → IsUtf8 bs → IsCharBoundary bs (prefix_len (belongs class) bs)
boundary class bs u = boundary_at class bs _ u refl
