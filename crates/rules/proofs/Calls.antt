-- Lists of calls: where they lead, and what their answers add up to.
use Rattle.std.proofs.Common.{◌≡◌, ℕ, ◌+◌, ◌-◌, ◌≤◌, true, false, eqb, ltb, ◌⊎◌, List, [], ◌∷◌, Some, None, Ok, Option, sym, refl, ap, ◌∙◌, inl, inr, add-zero, arith}
use Rattle.std.proofs.lemmas.Bool.{cases_eq, cases_lt}
use Rattle.std.proofs.lemmas.Bool.Decides.{nat_tests}
use Rattle.dossier.specs.declared.record.Head.{Head}
use Rattle.dossier.specs.Meaning.{Meaning}
use Rattle.rules.specs.declared.finding.Finding.{Finding}
use Rattle.rules.specs.declared.progress.Progress.{Progress}
use Rattle.rules.specs.declared.call.Call.{Call}
use Rattle.rules.specs.declared.call.Call.TheVariants.{Advance, Ask}
use Rattle.rules.specs.declared.call.Refused.{Refused}
use Rattle.rules.specs.declared.call.Refused.TheVariants as refused-case
use Rattle.rules.specs.Units.{units}
use Rattle.rules.specs.Course.{left, refused, refused_by, told, advanced_by, answered_by, advanced, advance_answer, called, after_from, amount, taken_from}
use Rattle.rules.proofs.Taking.{taking_add, run, reached}

pub either_way : {X : Type 0} (o : Option X) → (o ≡ None) ⊎ ((x : X) × (o ≡ Some x))
either_way None = inl refl
either_way (Some x) = inr (x, refl)

-- after a finding every advance is refused
found_stays : (m : Meaning) (p : Progress) (f : Finding) → p.finding ≡ Some f → (c : Call) → called m p c ≡ p
found_stays m p f e (Advance k) = ap (λ x. advanced_by m p k (refused_by x (left p) k)) e
found_stays m p f e Ask = refl

pub after_found : (m : Meaning) (p : Progress) (f : Finding) → p.finding ≡ Some f → (cs : List Call) → after_from m p cs ≡ p
after_found m p f e [] = refl
after_found m p f e (c ∷ cs) = ap (λ q. after_from m q cs) (found_stays m p f e c) ∙ after_found m p f e cs

module _ (m : Meaning) (h : Head) where
  -- an advance that is refused
  pub record Stays (a k : ℕ) : Type 0 where
    pub same : advanced m (run m h a) k ≡ run m h a
    pub nothing : amount (advance_answer m (run m h a) k) ≡ 0

  -- an advance that is made
  pub record Goes (a k : ℕ) : Type 0 where
    pub within : a + k ≤ units h
    pub on : advanced m (run m h a) k ≡ run m h (a + k)
    pub answer : advance_answer m (run m h a) k ≡ Ok (told k (run m h (a + k)).finding)

  refused_stays : (a k : ℕ) (r : Refused) → refused (run m h a) k ≡ Some r → Stays a k
  refused_stays a k r e = record {
    same = ap (advanced_by m (run m h a) k) e;
    nothing = ap (λ x. amount (answered_by m (run m h a) k x)) e;
  }

  -- what is left after a units
  left_is : (a : ℕ) → (run m h a).finding ≡ None → left (run m h a) ≡ units h - a
  left_is a e = let r = reached m h a e in let t = r.total in let k = r.taken in omega arith

  pub made : (a k : ℕ) → (run m h a).finding ≡ None → 1 ≤ k → a + k ≤ units h → Goes a k
  made a k e one l =
      let q = left_is a e in
      let z : eqb k 0 ≡ false = grind (arith, nat_tests) in
      let n : ltb (left (run m h a)) k ≡ false = grind (arith, nat_tests) in
      let none : refused (run m h a) k ≡ None = ap (λ x. refused_by x (left (run m h a)) k) e ∙ rw (z, n) in
      record {
        within = l;
        on = ap (advanced_by m (run m h a) k) none ∙ taking_add m _ a k;
        answer = ap (answered_by m (run m h a) k) none ∙ ap (λ x. Ok (told k x.finding)) (taking_add m _ a k);
      }

  advance_way : (a k : ℕ) → a ≤ units h → (run m h a).finding ≡ None → Stays a k ⊎ Goes a k
  advance_way a k l e =
      elim (cases_eq k 0) [
        | inl z ↦ let b : eqb k 0 ≡ true = grind (arith, nat_tests) in inl (refused_stays a k refused-case.ByZero (ap (λ x. refused_by x (left (run m h a)) k) e ∙ rw b))
        | inr nz ↦ elim (cases_lt (left (run m h a)) k) [
          | inl g ↦
              let b : eqb k 0 ≡ false = grind (arith, nat_tests) in
              let c : ltb (left (run m h a)) k ≡ true = grind (arith, nat_tests) in
              inl (refused_stays a k (refused-case.TooMany (left (run m h a))) (ap (λ x. refused_by x (left (run m h a)) k) e ∙ rw (b, c)))
          | inr g ↦ let q = left_is a e in inr (made a k e (omega arith) (omega arith))
        ]
      ]

  -- a list of calls leads to some number of units
  pub reach : (cs : List Call) (a : ℕ) → a ≤ units h → (n : ℕ) × (n ≤ units h) × (after_from m (run m h a) cs ≡ run m h n)
  reach [] a l = (a, l, refl)
  reach (Ask ∷ cs) a l = reach cs a l
  reach (Advance k ∷ cs) a l =
      elim (either_way (run m h a).finding) [
        | inl e ↦ elim (advance_way a k l e) [
          | inl s ↦ let (n, b, q) = reach cs a l in (n, b, ap (λ x. after_from m x cs) s.same ∙ q)
          | inr g ↦ let (n, b, q) = reach cs (a + k) g.within in (n, b, ap (λ x. after_from m x cs) g.on ∙ q)
        ]
        | inr (f, e) ↦ (a, l, after_found m (run m h a) f e (Advance k ∷ cs))
      ]

  -- a finding is still there after more calls
  none_before : (p : Progress) (cs : List Call) → (after_from m p cs).finding ≡ None → p.finding ≡ None
  none_before p cs e =
      elim (either_way p.finding) [
        | inl n ↦ n
        | inr (f, s) ↦ let a = after_found m p f s cs in cc
      ]

  -- where nothing was found, the answers add up to the units taken
  pub record Counted (a : ℕ) (cs : List Call) : Type 0 where
    pub is : after_from m (run m h a) cs ≡ run m h (a + taken_from m (run m h a) cs)
    pub within : a + taken_from m (run m h a) cs ≤ units h

  counted_on : (a b k : ℕ) (cs : List Call) → amount (advance_answer m (run m h a) k) + a ≡ b → advanced m (run m h a) k ≡ run m h b → Counted b cs → Counted a (Advance k ∷ cs)
  counted_on a b k cs q s c =
      let t : taken_from m (advanced m (run m h a) k) cs ≡ taken_from m (run m h b) cs = ap (λ x. taken_from m x cs) s in
      let n : a + (amount (advance_answer m (run m h a) k) + taken_from m (advanced m (run m h a) k) cs) ≡ b + taken_from m (run m h b) cs = omega arith in
      let w = c.within in
      record {
        is = ap (λ x. after_from m x cs) s ∙ c.is ∙ ap (run m h) (sym n);
        within = omega arith;
      }

  amount_told : (k : ℕ) (f : Option Finding) → f ≡ None → amount (Ok (told k f)) ≡ k
  amount_told k f e = ap (λ x. amount (Ok (told k x))) e

  pub counted : (cs : List Call) (a : ℕ) → a ≤ units h → (after_from m (run m h a) cs).finding ≡ None → Counted a cs
  counted [] a l e = record { is = ap (run m h) (sym (add-zero a)); within = omega arith }
  counted (Ask ∷ cs) a l e =
      let c = counted cs a l e in
      let n : a + (0 + taken_from m (run m h a) cs) ≡ a + taken_from m (run m h a) cs = omega arith in
      let w = c.within in
      record { is = c.is ∙ ap (run m h) (sym n); within = omega arith }
  counted (Advance k ∷ cs) a l e =
      elim (advance_way a k l (none_before (run m h a) (Advance k ∷ cs) e)) [
        | inl s ↦
            let z = s.nothing in
            counted_on a a k cs (omega arith) s.same (counted cs a l (ap (λ x. (after_from m x cs).finding) (sym s.same) ∙ e))
        | inr g ↦
            let e' : (after_from m (run m h (a + k)) cs).finding ≡ None = ap (λ x. (after_from m x cs).finding) (sym g.on) ∙ e in
            let y = ap amount g.answer ∙ amount_told k (run m h (a + k)).finding (none_before (run m h (a + k)) cs e') in
            counted_on a (a + k) k cs (omega arith) g.on (counted cs (a + k) g.within e')
      ]
