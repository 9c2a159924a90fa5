-- What a unit that was checked, and a number of units, leave of the progress. Assumes nothing.
use Rattle.std.proofs.Common.{◌≡◌, ℕ, zero, suc, ◌+◌, ◌≤◌, true, false, is_some, Some, None, Ok, Err, Option, Result, sym, refl, ap, ◌∙◌, inl, inr, arith}
use Rattle.std.proofs.lemmas.Bool.{cases_eq}
use Rattle.dossier.specs.Meaning.{Meaning}
use Rattle.rules.specs.declared.finding.Finding.{Finding}
use Rattle.rules.specs.declared.progress.Stage.{Stage}
use Rattle.rules.specs.declared.progress.Progress.{Progress}
use Rattle.rules.specs.Course.{moved, took, onward, taking}
use Rattle.checking.specs.Taking.{in_stage, stage_now, checked_now, settled, passed}

abbrev pub one_past : Progress → Progress
one_past q = record { head = q.head; total = q.total; taken = q.taken + 1; stage = q.stage; finding = q.finding }

abbrev pub found : Finding → Progress → Progress
found f q = record { head = q.head; total = q.total; taken = q.taken; stage = q.stage; finding = Some f }

pub moved_ok : (p q : Progress) (c : Result Stage Finding) → q ≡ in_stage p (settled (stage_now p) c) → Ok tt ≡ passed c → one_past q ≡ moved p c
moved_ok p q (Ok s) e h = ap one_past e
moved_ok p q (Err f) e h = absurd (cc)

pub moved_err : (p q : Progress) (c : Result Stage Finding) (f : Finding) → q ≡ in_stage p (settled (stage_now p) c) → Err f ≡ passed c → found f q ≡ moved p c
moved_err p q (Ok s) f e h = absurd (cc)
moved_err p q (Err d) f e h = let same : f ≡ d = cc in ap (found f) e ∙ ap (λ (x : Finding). found x (in_stage p (stage_now p))) same

-- a finding stays
stay : (m : Meaning) (p : Progress) (o : Option Finding) → is_some o ≡ true → onward m p o ≡ p
stay m p (Some f) h = refl
stay m p None h = absurd (cc)

pub taking_stays : (m : Meaning) (p : Progress) (i k : ℕ) → i ≤ k → is_some (taking m p i).finding ≡ true → taking m p k ≡ taking m p i
taking_stays m p i zero h e = let z : 0 ≡ i = omega arith in ap (taking m p) z
taking_stays m p i (suc k) h e =
    elim (cases_eq i (suc k)) [
      | inl same ↦ ap (taking m p) (sym same)
      | inr other ↦ let ih = taking_stays m p i k (omega arith) e in ap (λ (q : Progress). onward m q q.finding) ih ∙ stay m (taking m p i) (taking m p i).finding e
    ]

-- without a finding one unit more is taken
goes : (m : Meaning) (p : Progress) (o : Option Finding) → is_some o ≡ false → took m p ≡ onward m p o
goes m p (Some f) h = absurd (cc)
goes m p None h = refl

pub taking_more : (m n : Meaning) (p q r : Progress) (i : ℕ) → n ≡ m → q ≡ taking m p i → is_some q.finding ≡ false → r ≡ took n q → r ≡ taking m p (i + 1)
taking_more m n p q r i same at none next =
    let e : i + 1 ≡ suc i = omega arith in
    next ∙ ap (λ (m : Meaning). took m q) same ∙ goes m q q.finding none ∙ ap (λ (q : Progress). onward m q q.finding) at ∙ ap (taking m p) (sym e)

moved_taken : (p : Progress) (c : Result Stage Finding) → (moved p c).taken ≤ p.taken + 1
moved_taken p (Ok s) = omega arith
moved_taken p (Err f) = omega arith

pub took_taken : (m : Meaning) (p q : Progress) → q ≡ took m p → q.taken ≤ p.taken + 1
took_taken m p q e = let h = moved_taken p (checked_now m p) in let t : q.taken ≡ (took m p).taken = ap (λ (x : Progress). x.taken) e in omega arith
