-- A test that holds of each element of a list with its place, one after the other.
-- Assumes nothing.
use Rattle.std.proofs.Common.{◌≡◌, ℕ, ◌<◌, Bool, List, length, get_or, eqb, zero-add, Decides, refl, ap, ◌∙◌, arith}
use Rattle.std.specs.List.{list_all, enumerate_from}
use Rattle.std.proofs.lemmas.List.FromFn.{length-enumerate_from, get_or-enumerate_from}
use Rattle.std.proofs.lemmas.List.{get_or_default}
use Rattle.std.proofs.lemmas.Bool.Decides.{Decides-eqb, Decides-by_and}

-- no element, taken with its place, has a finding
pub no_finding_each : {X : Type 0} (f : ℕ → X → ℕ) (xs : List X) (d : X) →
    Decides (list_all (λ p. eqb (f p.0 p.1) 0) (enumerate_from 0 xs)) ((i : ℕ) → i < length xs → f i (get_or xs i d) ≡ 0)
no_finding_each {X} f xs d =
    let test : (ℕ × X) → Bool = λ p. eqb (f p.0 p.1) 0 in
    let all = Decides-by_and test (λ p. f p.0 p.1 ≡ 0) (list_all test) (λ p. Decides-eqb (f p.0 p.1) 0) refl (λ _ _. refl) (enumerate_from 0 xs) in
    let len = length-enumerate_from 0 xs in (
      λ e i l. rw (get_or-enumerate_from 0 xs i (0, d) l, zero-add) at (all.0 e i (0, d) (omega arith)),
      λ h. all.1 (λ k q l. let m : k < length xs = omega arith in rw (get_or-enumerate_from 0 xs k q m, zero-add, get_or_default xs k q.1 d m) (h k m)),
    )

-- what stands in the list of the elements with their places
pub placed : {X : Type 0} (xs : List X) (d : X) (k : ℕ) (p : ℕ × X) → k < length (enumerate_from 0 xs) → p ≡ get_or (enumerate_from 0 xs) k p →
    (p.1 ≡ get_or xs p.0 d) × (p.0 < length xs)
placed xs d k p l e =
    let m : k < length xs = rw (length-enumerate_from 0 xs) at l in
    let z = e ∙ get_or-enumerate_from 0 xs k p m in
    let at : p.0 ≡ k = ap (λ u. u.0) z ∙ zero-add k in
    rw at (ap (λ u. u.1) z ∙ get_or_default xs k p.1 d m, m)
