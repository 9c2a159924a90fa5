-- Units that are taken one after the other: what it tells that nothing was found.
use Rattle.std.proofs.Common.{◌≡◌, ℕ, zero, suc, ◌+◌, ◌<◌, Some, None, Ok, Err, Option, Result, sym, refl, ap, ◌∙◌, subst, inl, inr, add-zero, add-suc, arith}
use Rattle.std.proofs.lemmas.Bool.{cases_eq}
use Rattle.dossier.specs.declared.record.Head.{Head}
use Rattle.dossier.specs.Meaning.{Meaning}
use Rattle.rules.specs.declared.finding.Finding.{Finding}
use Rattle.rules.specs.declared.progress.Stage.{Stage}
use Rattle.rules.specs.declared.progress.Progress.{Progress}
use Rattle.rules.specs.Units.{units, unit_at, entered}
use Rattle.rules.specs.Checks.{checked}
use Rattle.rules.specs.Course.{ready, moved, took, onward, taking}

ok_of : (q : Progress) (c : Result Stage Finding) → (moved q c).finding ≡ None → (s : Stage) × (c ≡ Ok s)
ok_of q (Ok s) e = (s, refl)
ok_of q (Err g) e = absurd (cc)

none_of : (m : Meaning) (q : Progress) (f : Option Finding) → q.finding ≡ f → (onward m q f).finding ≡ None → f ≡ None
none_of m q None i e = refl
none_of m q (Some g) i e = cc

-- taking a units and then b is taking a + b
pub taking_add : (m : Meaning) (p : Progress) (a b : ℕ) → taking m (taking m p a) b ≡ taking m p (a + b)
taking_add m p a zero = rw add-zero
taking_add m p a (suc b) = rw add-suc (ap (λ q. onward m q q.finding) (taking_add m p a b))

module _ (m : Meaning) (h : Head) where
  -- the progress after n units of a new checking under the head h
  abbrev pub run : ℕ → Progress
  run n = taking m (ready h) n

  pub record Reached (n : ℕ) (q : Progress) : Type 0 where
    pub head : q.head ≡ h
    pub total : q.total ≡ units h
    pub taken : q.taken ≡ n

  -- unit n passed
  pub record Passed (n : ℕ) : Type 0 where
    pub before : (run n).finding ≡ None
    pub stage : Stage
    pub checks : checked m h (unit_at h n) (entered (unit_at h n) (run n).stage) ≡ Ok stage
    pub after : run (suc n) ≡ moved (run n) (Ok stage)

  -- the check of the next unit, by the head and the number of units taken
  checks_at : Progress → Head → ℕ → Result Stage Finding
  checks_at q x k = checked m x (unit_at x k) (entered (unit_at x k) q.stage)

  same_checks : (n : ℕ) (q : Progress) → Reached n q → checks_at q q.head q.taken ≡ checks_at q h n
  same_checks n q r = ap (λ x. checks_at q x q.taken) r.head ∙ ap (checks_at q h) r.taken

  onward_reached : (n : ℕ) (q : Progress) (s : Stage) → Reached n q → Reached (suc n) (moved q (Ok s))
  onward_reached n q s r = let t = r.taken in record { head = r.head; total = r.total; taken = omega arith }

  passed_by : (n : ℕ) → Reached n (run n) → (run (suc n)).finding ≡ None → Passed n
  unfolding checks_at
  passed_by n r e =
      let f = none_of m (run n) (run n).finding refl e in
      let e' : (took m (run n)).finding ≡ None = subst (λ (x : Option Finding). (onward m (run n) x).finding ≡ None) f e in
      let (s, c) = ok_of (run n) (checks_at (run n) (run n).head (run n).taken) e' in
      record {
        before = f;
        stage = s;
        checks = sym (same_checks n (run n) r) ∙ c;
        after = ap (onward m (run n)) f ∙ ap (moved (run n)) c;
      }

  pub reached : (n : ℕ) → (run n).finding ≡ None → Reached n (run n)
  reached zero e = record { head = refl; total = refl; taken = refl }
  reached (suc n) e =
      let f = none_of m (run n) (run n).finding refl e in
      let r = reached n f in
      let p = passed_by n r e in
      subst (Reached (suc n)) (sym p.after) (onward_reached n (run n) p.stage r)

  pub passed : (n : ℕ) → (run (suc n)).finding ≡ None → Passed n
  passed n e = passed_by n (reached n (none_of m (run n) (run n).finding refl e)) e

  -- where nothing was found in n units, each of them passed
  pub all_passed : (n : ℕ) → (run n).finding ≡ None → (u : ℕ) → u < n → Passed u
  all_passed zero e u l = absurd (omega arith)
  all_passed (suc n) e u l =
      elim (cases_eq u n) [
        | inl s ↦ subst Passed (sym s) (passed n e)
        | inr o ↦ all_passed n (passed n e).before u (omega arith)
      ]

  -- and the other way: a unit that passes is taken
  pub goes_on : (n : ℕ) → (run n).finding ≡ None → (s : Stage) → checked m h (unit_at h n) (entered (unit_at h n) (run n).stage) ≡ Ok s → run (suc n) ≡ moved (run n) (Ok s)
  unfolding checks_at
  goes_on n e s c = ap (onward m (run n)) e ∙ ap (moved (run n)) (same_checks n (run n) (reached n e) ∙ c)
