-- A unit that is taken in its proper stage passes exactly if it is good, and leaves the proper stage for the next.
use Rattle.std.proofs.Common.{◌≡◌, ℕ, zero, suc, ◌<◌, ◌≤◌, Bool, true, false, ◌||◌, eqb, List, length, get_or, Ok, sym, refl, ap, ◌∙◌, subst, inl, inr, arith}
use Rattle.std.proofs.lemmas.Bool.Decides.{nat_tests}
use Rattle.encoding.specs.declared.instruction.Instruction.{Instruction}
use Rattle.encoding.specs.Formed.{well_formed}
use Rattle.machine.specs.Effects.{answer_one}
use Rattle.dossier.specs.declared.record.Head.{Head}
use Rattle.dossier.specs.declared.record.Line.{Line}
use Rattle.dossier.specs.declared.record.Row.{Row}
use Rattle.dossier.specs.declared.record.Row.TheVariants.{Plain}
use Rattle.dossier.specs.declared.refusal.Part.TheVariants as part
use Rattle.run_log.specs.Rules.{row_at, line_at, kind_of, LineOrder, LineStep}
use Rattle.run_log.specs.Run.{state_at, ended_by}
use Rattle.tinyram.specs.Program.{tinyram}
use Rattle.rules.specs.declared.finding.Rule.TheVariants as rule
use Rattle.rules.specs.declared.progress.Unit as progress
use Rattle.rules.specs.declared.progress.Unit.TheVariants as unit
use Rattle.rules.specs.declared.progress.Stage.{Stage}
use Rattle.rules.specs.declared.progress.Stage.TheVariants.{Instructions, Words, Lines, Rows}
use Rattle.rules.specs.Units.{unit_at, place_of, entered}
use Rattle.rules.specs.Checks.{checked_instruction, checked_line, checked_row, checked}
use Rattle.rules.proofs.Goes.{went, goes, held, holds, same_ok}
use Rattle.rules.proofs.Whole.{whole, answer_at}
use Rattle.rules.proofs.Places.{following, at_instruction, after_unit}
use Rattle.rules.proofs.AtLine.{former, line_sound, line_complete}
use Rattle.rules.proofs.AtRow.{Fine, going, row_sound, row_complete}

or_swap : (a b : Bool) → (a || b) ≡ (b || a)
or_swap true true = refl
or_swap true false = refl
or_swap false true = refl
or_swap false false = refl

module _ (h : Head) (p : List Instruction) (ws : List ℕ) (ls : List Line) (rs : List Row)
    (cp : length p ≡ h.instructions) (cw : length ws ≡ h.words) (cl : length ls ≡ h.lines) (cr : length rs ≡ h.rows) where
  -- the stage in which a unit is taken: the former line's cell, or the machine and whether an advice end came
  abbrev pub proper : progress.Unit → Stage
  proper (unit.Instruction k) = Instructions
  proper (unit.Word k) = Words
  proper (unit.Line j) = Lines (former ls j)
  proper (unit.Row i) = Rows (state_at (tinyram p ws) rs i) (ended_by rs i)

  abbrev pub Good : progress.Unit → Type 0
  Good (unit.Instruction k) = well_formed (get_or p k answer_one) ≡ true
  Good (unit.Word k) = Unit {0}
  Good (unit.Line j) = LineOrder ls j × LineStep rs ls j
  Good (unit.Row i) = Fine h p ws ls rs cp cw cl cr i (state_at (tinyram p ws) rs i) (ended_by rs i) (row_at rs (suc i))

  abbrev pub Inside : progress.Unit → Type 0
  Inside (unit.Instruction k) = k < length p
  Inside (unit.Word k) = k < length ws
  Inside (unit.Line j) = j < length ls
  Inside (unit.Row i) = i < length rs

  -- ONE UNIT

  pub unit_sound : (w : progress.Unit) → Inside w → (s : Stage) → checked (whole h p ws ls rs) h w (proper w) ≡ Ok s → Good w × (s ≡ proper (following w))
  unit_sound (unit.Instruction k) b s e =
      let e1 = rw (answer_at part.Instruction p k k answer_one b) at e in
      let (u, a, e2) = went (checked_instruction (unit.Instruction k) (get_or p k answer_one)) _ s e1 in
      (held (well_formed (get_or p k answer_one)) (unit.Instruction k) rule.WellFormed u a, sym (same_ok _ s e2))
  unit_sound (unit.Word k) b s e =
      let e1 = rw (answer_at part.Word ws k k 0 b) at e in
      (tt, sym (same_ok _ s e1))
  unit_sound (unit.Line j) b s e =
      let e1 = rw (answer_at part.Line ls j j (record { cell = 0; step = 0 }) b) at e in
      let (u, a, e2) = went (checked_line (whole h p ws ls rs) h (unit.Line j) (former ls j) (line_at ls j)) _ s e1 in
      (line_sound h p ws ls rs cr j u a, sym (same_ok _ s e2))
  unit_sound (unit.Row i) b s e =
      let e1 = rw (answer_at part.Row rs i i Plain b) at e in
      let (c, a, e2) = went (checked_row (whole h p ws ls rs) h (unit.Row i) (state_at (tinyram p ws) rs i) (ended_by rs i) (row_at rs (suc i))) _ s e1 in
      let (f, g) = row_sound h p ws ls rs cp cw cl cr i b (state_at (tinyram p ws) rs i) (ended_by rs i) (row_at rs (suc i)) c a in
      (f, sym (same_ok _ s e2) ∙ ap (λ x. Rows x (ended_by rs i || eqb (kind_of (row_at rs (suc i))) 4)) g ∙ ap (Rows (state_at (tinyram p ws) rs (suc i))) (or_swap (ended_by rs i) (eqb (kind_of (row_at rs (suc i))) 4)))

  pub unit_complete : (w : progress.Unit) → Inside w → Good w → checked (whole h p ws ls rs) h w (proper w) ≡ Ok (proper (following w))
  unit_complete (unit.Instruction k) b g =
      rw (answer_at part.Instruction p k k answer_one b)
      (goes (checked_instruction (unit.Instruction k) (get_or p k answer_one)) tt _ _ (holds _ (unit.Instruction k) rule.WellFormed g) refl)
  unit_complete (unit.Word k) b g = rw (answer_at part.Word ws k k 0 b)
  unit_complete (unit.Line j) b g =
      rw (answer_at part.Line ls j j (record { cell = 0; step = 0 }) b)
      (goes (checked_line (whole h p ws ls rs) h (unit.Line j) (former ls j) (line_at ls j)) tt _ _ (line_complete h p ws ls rs cr j g.0 g.1) refl)
  unit_complete (unit.Row i) b g =
      rw (answer_at part.Row rs i i Plain b)
      (goes (checked_row (whole h p ws ls rs) h (unit.Row i) (state_at (tinyram p ws) rs i) (ended_by rs i) (row_at rs (suc i)))
      (going h p ws ls rs cp cw cl cr (state_at (tinyram p ws) rs i) (row_at rs (suc i))) _ _
      (row_complete h p ws ls rs cp cw cl cr i b (state_at (tinyram p ws) rs i) (ended_by rs i) (row_at rs (suc i)) g)
      (ap (λ x. Ok (Rows (state_at (tinyram p ws) rs (suc i)) x)) (or_swap (ended_by rs i) (eqb (kind_of (row_at rs (suc i))) 4))))

  -- FROM UNIT TO UNIT

  first_proper : (w : progress.Unit) (s : Stage) → place_of w ≡ 0 → entered w s ≡ proper w
  first_proper (unit.Instruction zero) s e = refl
  first_proper (unit.Instruction (suc k)) s e = absurd (omega arith)
  first_proper (unit.Word zero) s e = refl
  first_proper (unit.Word (suc k)) s e = absurd (omega arith)
  first_proper (unit.Line zero) s e = refl
  first_proper (unit.Line (suc k)) s e = absurd (omega arith)
  first_proper (unit.Row zero) s e = refl
  first_proper (unit.Row (suc k)) s e = absurd (omega arith)

  later_proper : (w : progress.Unit) → entered (following w) (proper (following w)) ≡ proper (following w)
  later_proper (unit.Instruction k) = let t : eqb (suc k) 0 ≡ false = grind (arith, nat_tests) in rw t
  later_proper (unit.Word k) = let t : eqb (suc k) 0 ≡ false = grind (arith, nat_tests) in rw t
  later_proper (unit.Line k) = let t : eqb (suc k) 0 ≡ false = grind (arith, nat_tests) in rw t
  later_proper (unit.Row k) = let t : eqb (suc k) 0 ≡ false = grind (arith, nat_tests) in rw t

  pub next_proper : (u : ℕ) → entered (unit_at h (suc u)) (proper (following (unit_at h u))) ≡ proper (unit_at h (suc u))
  next_proper u =
      elim (after_unit h u) [
        | inl z ↦ first_proper (unit_at h (suc u)) _ z
        | inr f ↦ subst (λ (w : progress.Unit). entered w (proper (following (unit_at h u))) ≡ proper w) (sym f) (later_proper (unit_at h u))
      ]

  pub start_proper : (s : Stage) → 1 ≤ h.instructions → entered (unit_at h 0) s ≡ proper (unit_at h 0)
  start_proper s l = first_proper (unit_at h 0) s (ap place_of (at_instruction h 0 (omega arith)))
