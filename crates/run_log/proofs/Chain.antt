-- What the link rules say of the whole log: the chains of touches, over functions of the step.
-- Nothing here knows of events, values or instructions. Assumes nothing.
use Rattle.std.proofs.Common.{◌≡◌, ℕ, zero, suc, ◌<◌, ◌≤◌, ◌⊎◌, sym, ap, ◌∙◌, inl, inr, arith}
use Rattle.std.proofs.lemmas.Bool.{cases_lt, cases_order}

-- kinds 1 and 2 are touches; there are m lines
pub record Chained (m : ℕ) (kind cell origin next lcell lstep : ℕ → ℕ) : Type 0 where
  pub rising : (i j : ℕ) → i < j → j < m → lcell i < lcell j
  pub opens : (j : ℕ) → j < m → (kind (lstep j) ≡ 1) × (origin (lstep j) ≡ j)
  pub firsts : (t : ℕ) → kind t ≡ 1 → (origin t < m) × (lcell (origin t) ≡ cell t) × (lstep (origin t) ≡ t)
  pub laters : (t : ℕ) → kind t ≡ 2 →
      (origin t < t) × (1 ≤ kind (origin t)) × (kind (origin t) ≤ 2) × (cell (origin t) ≡ cell t) × (next (origin t) ≡ t)
  pub nexts : (t : ℕ) → 1 ≤ kind t → kind t ≤ 2 → (next t ≡ 0) ⊎ ((t < next t) × (kind (next t) ≡ 2) × (origin (next t) ≡ t))

module _ {m : ℕ} {kind cell origin next lcell lstep : ℕ → ℕ} (ok : Chained m kind cell origin next lcell lstep) where
  -- step t touches cell c
  abbrev pub At : ℕ → ℕ → Type 0
  At c t = (1 ≤ kind t) × (kind t ≤ 2) × (cell t ≡ c)

  -- lines with one cell are one line
  one_line : (i j : ℕ) → i < m → j < m → lcell i ≡ lcell j → i ≡ j
  one_line i j hi hj e = elim (cases_order i j) [
    | inl h ↦ h
    | inr (inl h) ↦ let k : lcell i < lcell j = ok.rising i j h hj in omega arith
    | inr (inr h) ↦ let k : lcell j < lcell i = ok.rising j i h hi in omega arith
  ]

  -- the chain of origins reaches a first touch of the cell
  chain : (n t c : ℕ) → t < n → At c t → (f : ℕ) × (f ≤ t) × (kind f ≡ 1) × (cell f ≡ c)
  chain zero t c l a = absurd (omega arith)
  chain (suc n) t c l a = elim (cases_lt (kind t) 2) [
    | inl h ↦ (t, omega arith, omega arith, a.2)
    | inr h ↦
        let r = ok.laters t (omega arith) in
        let x = chain n (origin t) c (omega arith) (r.1, r.2, r.3 ∙ a.2) in
        (x.0, omega arith, x.2, x.3)
  ]

  -- a touch from a line has no touch of its cell before it
  pub first_is_first : (t c : ℕ) → kind t ≡ 1 → cell t ≡ c → (s : ℕ) → s < t → At c s → ⊥
  first_is_first t c k e s l a =
      let x = chain (suc s) s c (omega arith) a in
      let p = ok.firsts t k in
      let q = ok.firsts x.0 x.2 in
      let same : origin t ≡ origin x.0 = one_line (origin t) (origin x.0) p.0 q.0 (p.1 ∙ e ∙ sym x.3 ∙ sym q.1) in
      let z : t ≡ x.0 = cc in
      omega arith

  -- of two touches of a cell, the earlier leads on to one no later than the later
  follows : (n t s c : ℕ) → t < n → s < t → At c s → At c t → (u : ℕ) × (s < u) × (u ≤ t) × (next s ≡ u)
  follows zero t s c l h a b = absurd (omega arith)
  follows (suc n) t s c l h a b = elim (cases_lt (kind t) 2) [
    | inl k ↦ absurd (first_is_first t c (omega arith) b.2 s h a)
    | inr k ↦
        let r = ok.laters t (omega arith) in
        elim (cases_order (origin t) s) [
          | inl e ↦ (t, h, omega arith, ap next (sym e) ∙ r.4)
          | inr (inl below) ↦
              let x = follows n s (origin t) c (omega arith) below (r.1, r.2, r.3 ∙ b.2) a in
              absurd (omega arith)
          | inr (inr above) ↦
              let x = follows n (origin t) s c (omega arith) above a (r.1, r.2, r.3 ∙ b.2) in
              (x.0, x.1, omega arith, x.3)
        ]
  ]

  -- the origin of a touch from a step is the last touch of its cell before it
  pub origin_last : (t : ℕ) → kind t ≡ 2 → (s : ℕ) → origin t < s → s < t → At (cell t) s → ⊥
  origin_last t k s a b h =
      let r = ok.laters t k in
      let x = follows (suc s) s (origin t) (cell t) (omega arith) a (r.1, r.2, r.3) h in
      omega arith

  -- a touch with no next is the last of its cell
  pub next_none : (t c : ℕ) → At c t → next t ≡ 0 → (s : ℕ) → t < s → At c s → ⊥
  next_none t c a e s l h =
      let x = follows (suc s) s t c (omega arith) l a h in
      omega arith

  -- next is the following touch of the cell
  pub next_some : (t c : ℕ) → At c t → 1 ≤ next t → (t < next t) × At c (next t) × ((s : ℕ) → t < s → s < next t → At c s → ⊥)
  next_some t c a p = elim (ok.nexts t a.0 a.1) [
    | inl e ↦ absurd (omega arith)
    | inr r ↦
        let q = ok.laters (next t) r.1 in
        let same : cell (next t) ≡ c = cc in (
          r.0,
          (omega arith, omega arith, same),
          λ s b d h. let x = follows (suc s) s t c (omega arith) b a h in omega arith,
        )
  ]

  -- a line's step touches the line's cell
  pub line_at_lem : (j : ℕ) → j < m → At (lcell j) (lstep j)
  line_at_lem j h =
      let k = ok.opens j h in
      let q = ok.firsts (lstep j) k.0 in
      let same : cell (lstep j) ≡ lcell j = cc in
      (omega arith, omega arith, same)

  -- a cell that is touched has a line
  pub line_for : (c t : ℕ) → At c t → (j : ℕ) × ((j < m) × (lcell j ≡ c))
  line_for c t a =
      let x = chain (suc t) t c (omega arith) a in
      let q = ok.firsts x.0 x.2 in
      (origin x.0, (q.0, q.1 ∙ x.3))
