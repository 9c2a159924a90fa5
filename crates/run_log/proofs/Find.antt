-- The last number below a bound, and the first after one, that passes a test.
-- Assumes nothing.
use Rattle.std.proofs.Common.{◌≡◌, ℕ, zero, suc, ◌+◌, ◌<◌, ◌≤◌, Bool, true, false, ◌⊎◌, sym, refl, ap, ◌∙◌, inl, inr, arith}
use Rattle.std.proofs.lemmas.Bool.{cases_lt, cases_Bool}
use Rattle.run_log.specs.Log.{latest, first_after}
use Rattle.run_log.specs.Words.{IsLast, IsNext}

module _ (p : ℕ → Bool) where
  pub last_cases : (t : ℕ) → ((u : ℕ) → u < t → p u ≡ false) ⊎ ((s : ℕ) × IsLast p t s)
  last_cases zero = inl (λ u l. absurd (omega arith))
  last_cases (suc t) = elim (cases_Bool (p t)) [
    | inl e ↦ inr (t, record { hit = e; earlier = omega arith; none = λ u a b. absurd (omega arith) })
    | inr e ↦ elim (last_cases t) [
      | inl h ↦ inl (λ u l. elim (cases_lt u t) [ inl k ↦ h u k | inr k ↦ let z : u ≡ t = omega arith in cc ])
      | inr h ↦ inr (
        h.0,
        record {
          hit = h.1.hit;
          earlier = omega arith;
          none = λ u a b. elim (cases_lt u t) [ inl k ↦ h.1.none u a k | inr k ↦ let z : u ≡ t = omega arith in cc ];
        },
      )
    ]
  ]

  module _ (f : ℕ → ℕ) (d : ℕ) where
    pub latest_none : (t : ℕ) → ((u : ℕ) → u < t → p u ≡ false) → latest p f d t ≡ d
    latest_none zero h = refl
    latest_none (suc t) h = rw (h t (omega arith)) (latest_none t (λ u l. h u (omega arith)))

    pub latest_is : (t s : ℕ) → IsLast p t s → latest p f d t ≡ f s
    latest_is zero s h = absurd (omega arith)
    latest_is (suc t) s h = elim (cases_lt s t) [
      | inl k ↦
          rw (h.none t k (omega arith))
          (latest_is t s (record { hit = h.hit; earlier = k; none = λ u a b. h.none u a (omega arith) }))
      | inr k ↦
          let z : s ≡ t = omega arith in
          let e : p t ≡ true = cc in
          rw e (ap f (sym z))
    ]

  -- none of the k numbers after t passes
  abbrev pub NoneOf : ℕ → ℕ → Type 0
  NoneOf t k = (u : ℕ) → t < u → u ≤ t + k → p u ≡ false

  pub next_cases : (t k : ℕ) → NoneOf t k ⊎ ((s : ℕ) × IsNext p t s × (s ≤ t + k))
  next_cases t zero = inl (λ u a b. absurd (omega arith))
  next_cases t (suc k) = elim (cases_Bool (p (suc t))) [
    | inl e ↦ inr (suc t, record { hit = e; later = omega arith; none = λ u a b. absurd (omega arith) }, omega arith)
    | inr e ↦ elim (next_cases (suc t) k) [
      | inl h ↦ inl (λ u a b. elim (cases_lt (suc t) u) [
        | inl l ↦ h u l (omega arith)
        | inr l ↦ let z : u ≡ suc t = omega arith in cc
      ])
      | inr h ↦ inr (
        h.0,
        record {
          hit = h.1.hit;
          later = omega arith;
          none = λ u a b. elim (cases_lt (suc t) u) [ inl l ↦ h.1.none u l b | inr l ↦ let z : u ≡ suc t = omega arith in cc ];
        },
        omega arith,
      )
    ]
  ]

  pub after_none : (t k : ℕ) → NoneOf t k → first_after p t k ≡ 0
  after_none t zero h = refl
  after_none t (suc k) h =
      rw (h (suc t) (omega arith) (omega arith)) (after_none (suc t) k (λ u a b. h u (omega arith) (omega arith)))

  pub after_is : (t k s : ℕ) → IsNext p t s → s ≤ t + k → first_after p t k ≡ s
  after_is t zero s h i = absurd (omega arith)
  after_is t (suc k) s h i = elim (cases_lt (suc t) s) [
    | inl l ↦
        rw (h.none (suc t) (omega arith) l)
        (after_is (suc t) k s (record { hit = h.hit; later = l; none = λ u a b. h.none u (omega arith) b }) (omega arith))
    | inr l ↦
        let z : s ≡ suc t = omega arith in
        let e : p (suc t) ≡ true = cc in
        rw e (sym z)
  ]

  -- at most one number is the last, and at most one the next
  pub one_last : (t s s' : ℕ) → IsLast p t s → IsLast p t s' → s ≡ s'
  one_last t s s' h h' = sym (latest_is (λ u. u) 0 t s h) ∙ latest_is (λ u. u) 0 t s' h'

  pub one_next : (t s s' : ℕ) → IsNext p t s → IsNext p t s' → s ≡ s'
  one_next t s s' h h' = sym (after_is t (s + s') s h (omega arith)) ∙ after_is t (s + s') s' h' (omega arith)

  -- where s is the last before t, t is the next after s, and the other way round
  pub last_next : (t s : ℕ) → p t ≡ true → IsLast p t s → IsNext p s t
  last_next t s e h = record { hit = e; later = h.earlier; none = h.none }

  pub next_last : (t s : ℕ) → p t ≡ true → IsNext p t s → IsLast p s t
  next_last t s e h = record { hit = e; earlier = h.later; none = h.none }
