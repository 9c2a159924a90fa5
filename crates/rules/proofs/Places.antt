-- Which unit has which number.
use Rattle.std.proofs.Common.{◌≡◌, ℕ, suc, ◌+◌, ◌-◌, ◌<◌, true, false, ltb, ◌⊎◌, sym, ap, ◌∙◌, inl, inr, arith}
use Rattle.std.proofs.lemmas.Bool.{cases_lt}
use Rattle.std.proofs.lemmas.Bool.Decides.{nat_tests}
use Rattle.dossier.specs.declared.record.Head.{Head}
use Rattle.rules.specs.declared.progress.Unit as progress
use Rattle.rules.specs.declared.progress.Unit.TheVariants as unit
use Rattle.rules.specs.Units.{units, unit_at, place_of}

-- the unit of the same part at the next place
abbrev pub following : progress.Unit → progress.Unit
following (unit.Instruction k) = unit.Instruction (suc k)
following (unit.Word k) = unit.Word (suc k)
following (unit.Line k) = unit.Line (suc k)
following (unit.Row k) = unit.Row (suc k)

module _ (h : Head) where
  pub at_instruction : (u : ℕ) → u < h.instructions → unit_at h u ≡ unit.Instruction u
  at_instruction u l = let t : ltb u h.instructions ≡ true = grind (arith, nat_tests) in rw t

  pub at_word : (u k : ℕ) → h.instructions + k ≡ u → k < h.words → unit_at h u ≡ unit.Word k
  at_word u k e l =
      let t : ltb u h.instructions ≡ false = grind (arith, nat_tests) in
      let t' : ltb u (h.instructions + h.words) ≡ true = grind (arith, nat_tests) in
      let q : u - h.instructions ≡ k = omega arith in
      rw (t, t', q)

  pub at_line : (u k : ℕ) → h.instructions + h.words + k ≡ u → k < h.lines → unit_at h u ≡ unit.Line k
  at_line u k e l =
      let t : ltb u h.instructions ≡ false = grind (arith, nat_tests) in
      let t' : ltb u (h.instructions + h.words) ≡ false = grind (arith, nat_tests) in
      let t'' : ltb u (h.instructions + h.words + h.lines) ≡ true = grind (arith, nat_tests) in
      let q : u - (h.instructions + h.words) ≡ k = omega arith in
      rw (t, t', t'', q)

  pub at_row : (u k : ℕ) → h.instructions + h.words + h.lines + k ≡ u → unit_at h u ≡ unit.Row k
  at_row u k e =
      let t : ltb u h.instructions ≡ false = grind (arith, nat_tests) in
      let t' : ltb u (h.instructions + h.words) ≡ false = grind (arith, nat_tests) in
      let t'' : ltb u (h.instructions + h.words + h.lines) ≡ false = grind (arith, nat_tests) in
      let q : u - (h.instructions + h.words + h.lines) ≡ k = omega arith in
      rw (t, t', t'', q)

  -- a fact of every unit follows from the four parts
  pub by_part : (P : progress.Unit → Type 0)
      → ((k : ℕ) → k < h.instructions → P (unit.Instruction k))
      → ((k : ℕ) → k < h.words → P (unit.Word k))
      → ((k : ℕ) → k < h.lines → P (unit.Line k))
      → ((k : ℕ) → k < h.rows → P (unit.Row k))
      → (u : ℕ) → u < units h → P (unit_at h u)
  by_part P i w l r u b =
      elim (cases_lt u h.instructions) [
        | inl a ↦ rw (at_instruction u a) (i u a)
        | inr a ↦ elim (cases_lt u (h.instructions + h.words)) [
          | inl c ↦ rw (at_word u (u - h.instructions) (omega arith) (omega arith)) (w _ (omega arith))
          | inr c ↦ elim (cases_lt u (h.instructions + h.words + h.lines)) [
            | inl d ↦ rw (at_line u (u - (h.instructions + h.words)) (omega arith) (omega arith)) (l _ (omega arith))
            | inr d ↦ rw (at_row u (u - (h.instructions + h.words + h.lines)) (omega arith)) (r _ (omega arith))
          ]
        ]
      ]

  -- the unit after a unit is the next of its part, or the first of another
  pub after_unit : (u : ℕ) → (place_of (unit_at h (suc u)) ≡ 0) ⊎ (unit_at h (suc u) ≡ following (unit_at h u))
  after_unit u =
      elim (cases_lt (suc u) h.instructions) [
        | inl a ↦ inr (at_instruction (suc u) a ∙ sym (ap following (at_instruction u (omega arith))))
        | inr a ↦ elim (cases_lt (suc u) (h.instructions + h.words)) [
          | inl c ↦ elim (cases_lt u h.instructions) [
            | inl v ↦ inl (ap place_of (at_word (suc u) 0 (omega arith) (omega arith)))
            | inr v ↦ inr (at_word (suc u) (suc (u - h.instructions)) (omega arith) (omega arith) ∙ sym (ap following (at_word u (u - h.instructions) (omega arith) (omega arith))))
          ]
          | inr c ↦ elim (cases_lt (suc u) (h.instructions + h.words + h.lines)) [
            | inl d ↦ elim (cases_lt u (h.instructions + h.words)) [
              | inl v ↦ inl (ap place_of (at_line (suc u) 0 (omega arith) (omega arith)))
              | inr v ↦ inr (at_line (suc u) (suc (u - (h.instructions + h.words))) (omega arith) (omega arith) ∙ sym (ap following (at_line u (u - (h.instructions + h.words)) (omega arith) (omega arith))))
            ]
            | inr d ↦ elim (cases_lt u (h.instructions + h.words + h.lines)) [
              | inl v ↦ inl (ap place_of (at_row (suc u) 0 (omega arith)))
              | inr v ↦ inr (at_row (suc u) (suc (u - (h.instructions + h.words + h.lines))) (omega arith) ∙ sym (ap following (at_row u (u - (h.instructions + h.words + h.lines)) (omega arith))))
            ]
          ]
        ]
      ]
