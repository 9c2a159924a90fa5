-- A dossier whose units all pass is genuine, and every unit of a genuine dossier passes.
use Rattle.std.proofs.Common.{◌≡◌, ℕ, zero, suc, ◌+◌, ◌<◌, ◌≤◌, true, List, [], ◌∷◌, length, Some, None, Ok, Err, sym, refl, ap, ◌∙◌, subst, arith}
use Rattle.std.specs.List.{slice_get}
use Rattle.encoding.specs.declared.instruction.Instruction.{Instruction}
use Rattle.encoding.specs.Formed.{well_formed}
use Rattle.machine.specs.Effects.{answer_one}
use Rattle.dossier.specs.declared.record.Head.{Head}
use Rattle.dossier.specs.declared.record.Line.{Line}
use Rattle.dossier.specs.declared.record.Row.{Row}
use Rattle.dossier.specs.declared.refusal.Part.{Part}
use Rattle.dossier.specs.Meaning.{Item, Meaning, Readable, IsRecord, Each, item_answer, instruction_answer, word_answer, line_answer, row_answer}
use Rattle.run_log.specs.Log.{zeroed}
use Rattle.run_log.specs.Rules.{row_at, LineOrder, LineStep, RowLinks}
use Rattle.run_log.specs.Run.{state_at, ended_by, step_finding}
use Rattle.run_log.proofs.Tests.{step_row}
use Rattle.tinyram.specs.Program.{tinyram, Keeps}
use Rattle.tinyram.proofs.Numbers.{each_at, each_from}
use Rattle.rules.specs.declared.progress.Unit as progress
use Rattle.rules.specs.declared.progress.Unit.TheVariants as unit
use Rattle.rules.specs.declared.progress.Stage.{Stage}
use Rattle.rules.specs.Units.{units, unit_at, entered, needed}
use Rattle.rules.specs.Checks.{item_at, judged, checked}
use Rattle.rules.specs.Laws.{Formed}
use Rattle.rules.proofs.Goes.{went, was_there}
use Rattle.rules.proofs.Whole.{whole}
use Rattle.rules.proofs.Places.{following, at_instruction, at_word, at_line, at_row, by_part}
use Rattle.rules.proofs.AtRow.{Fine}
use Rattle.rules.proofs.AtUnit.{proper, Good, Inside, unit_sound, unit_complete, next_proper, start_proper}
use Rattle.rules.proofs.Taking.{run, all_passed, passed, goes_on}

-- READABLE THROUGHOUT

answered : {R : Type 0} (q : Part) (n : ℕ) (x : Item R) (r : R) → item_answer q n (Some x) ≡ Ok r → IsRecord x
answered q n (Ok r') r e = tt
answered q n (Err l) r e = absurd (cc)

-- a list whose every question was answered has a record at each place
all_there : {R : Type 0} (q : Part) (xs : List (Item R)) → ((k : ℕ) → k < length xs → (n : ℕ) × ((r : R) × (item_answer q n (slice_get xs k) ≡ Ok r))) → Each IsRecord xs
all_there q [] f = tt
all_there q (x ∷ xs) f =
    let (n, a) = f 0 (omega arith) in
    (answered q n x a.0 a.1, all_there q xs (λ k l. f (suc k) (omega arith)))

abbrev Own : Meaning → progress.Unit → Type 0
Own m (unit.Instruction k) = (r : Instruction) × (instruction_answer m k ≡ Ok r)
Own m (unit.Word k) = (r : ℕ) × (word_answer m k ≡ Ok r)
Own m (unit.Line k) = (r : Line) × (line_answer m k ≡ Ok r)
Own m (unit.Row k) = (r : Row) × (row_answer m k ≡ Ok r)

-- a unit that passed was there
own : (m : Meaning) (h : Head) (w : progress.Unit) (s st : Stage) → checked m h w s ≡ Ok st → Own m w
own m h (unit.Instruction k) s st e =
    let (i, a, e1) = went (item_at m (unit.Instruction k)) (judged m h (unit.Instruction k) s) st e in
    let (r, b, e2) = went (needed (unit.Instruction k) (instruction_answer m k)) _ i a in
    (r, was_there (unit.Instruction k) (instruction_answer m k) r b)
own m h (unit.Word k) s st e =
    let (i, a, e1) = went (item_at m (unit.Word k)) (judged m h (unit.Word k) s) st e in
    let (r, b, e2) = went (needed (unit.Word k) (word_answer m k)) _ i a in
    (r, was_there (unit.Word k) (word_answer m k) r b)
own m h (unit.Line k) s st e =
    let (i, a, e1) = went (item_at m (unit.Line k)) (judged m h (unit.Line k) s) st e in
    let (r, b, e2) = went (needed (unit.Line k) (line_answer m k)) _ i a in
    (r, was_there (unit.Line k) (line_answer m k) r b)
own m h (unit.Row k) s st e =
    let (i, a, e1) = went (item_at m (unit.Row k)) (judged m h (unit.Row k) s) st e in
    let (r, b, e2) = went (needed (unit.Row k) (row_answer m k)) _ i a in
    (r, was_there (unit.Row k) (row_answer m k) r b)

pub record Counts (m : Meaning) (h : Head) : Type 0 where
  pub head : m.head ≡ Ok h
  pub instructions : length m.instructions ≡ h.instructions
  pub words : length m.words ≡ h.words
  pub lines : length m.lines ≡ h.lines
  pub rows : length m.rows ≡ h.rows

module _ (m : Meaning) (h : Head) (c : Counts m h) (e : (run m h (units h)).finding ≡ None) where
  owned : (u : ℕ) → u < units h → Own m (unit_at h u)
  owned u l = let p = all_passed m h (units h) e u l in own m h (unit_at h u) _ p.stage p.checks

  pub all_readable : Readable m
  all_readable =
      let ci = c.instructions in
      let cw = c.words in
      let cl = c.lines in
      let cr = c.rows in
      record {
        head = subst IsRecord (sym c.head) tt;
        instructions = all_there _ m.instructions (λ k l. (k, subst (Own m) (at_instruction h k (omega arith)) (owned k (omega arith))));
        words = all_there _ m.words (λ k l. (k, subst (Own m) (at_word h (h.instructions + k) k refl (omega arith)) (owned _ (omega arith))));
        lines = all_there _ m.lines (λ k l. (k, subst (Own m) (at_line h (h.instructions + h.words + k) k refl (omega arith)) (owned _ (omega arith))));
        rows = all_there _ m.rows (λ k l. (k, subst (Own m) (at_row h (h.instructions + h.words + h.lines + k) k refl) (owned _ (omega arith))));
      }

-- A DOSSIER OF RECORDS

module _ (h : Head) (p : List Instruction) (ws : List ℕ) (ls : List Line) (rs : List Row)
    (cp : length p ≡ h.instructions) (cw : length ws ≡ h.words) (cl : length ls ≡ h.lines) (cr : length rs ≡ h.rows)
    (some : 1 ≤ h.instructions) where
  inside : (u : ℕ) → u < units h → Inside h p ws ls rs cp cw cl cr (unit_at h u)
  inside = by_part h (Inside h p ws ls rs cp cw cl cr) (λ k l. omega arith) (λ k l. omega arith) (λ k l. omega arith) (λ k l. omega arith)

  -- the stage is proper as long as nothing is found
  in_stage_lem : (n : ℕ) → (run (whole h p ws ls rs) h n).finding ≡ None → n ≤ units h
      → entered (unit_at h n) (run (whole h p ws ls rs) h n).stage ≡ proper h p ws ls rs cp cw cl cr (unit_at h n)
  in_stage_lem zero e l = start_proper h p ws ls rs cp cw cl cr _ some
  in_stage_lem (suc n) e l =
      let q = passed (whole h p ws ls rs) h n e in
      let i = in_stage_lem n q.before (omega arith) in
      let (g, s) = unit_sound h p ws ls rs cp cw cl cr (unit_at h n) (inside n (omega arith)) q.stage (subst (λ (x : Stage). checked (whole h p ws ls rs) h (unit_at h n) x ≡ Ok q.stage) i q.checks) in
      ap (λ x. entered (unit_at h (suc n)) x.stage) q.after
      ∙ ap (entered (unit_at h (suc n))) s
      ∙ next_proper h p ws ls rs cp cw cl cr n

  pub sound_units : (run (whole h p ws ls rs) h (units h)).finding ≡ None → (u : ℕ) → u < units h → Good h p ws ls rs cp cw cl cr (unit_at h u)
  sound_units e u l =
      let q = all_passed (whole h p ws ls rs) h (units h) e u l in
      let i = in_stage_lem u q.before (omega arith) in
      (unit_sound h p ws ls rs cp cw cl cr (unit_at h u) (inside u l) q.stage (subst (λ (x : Stage). checked (whole h p ws ls rs) h (unit_at h u) x ≡ Ok q.stage) i q.checks)).0

  pub complete_units : ((u : ℕ) → u < units h → Good h p ws ls rs cp cw cl cr (unit_at h u)) → (n : ℕ) → n ≤ units h → (run (whole h p ws ls rs) h n).finding ≡ None
  complete_units g zero l = refl
  complete_units g (suc n) l =
      let e = complete_units g n (omega arith) in
      let i = in_stage_lem n e (omega arith) in
      let c = unit_complete h p ws ls rs cp cw cl cr (unit_at h n) (inside n (omega arith)) (g n (omega arith)) in
      let k = subst (λ (x : Stage). checked (whole h p ws ls rs) h (unit_at h n) x ≡ Ok (proper h p ws ls rs cp cw cl cr (following (unit_at h n)))) (sym i) c in
      ap (λ x. x.finding) (goes_on (whole h p ws ls rs) h n e _ k) ∙ e

  -- GOOD UNITS ARE RULES KEPT

  line_good : ((u : ℕ) → u < units h → Good h p ws ls rs cp cw cl cr (unit_at h u)) → (j : ℕ) → j < length ls → LineOrder ls j × LineStep rs ls j
  line_good g j l = subst (Good h p ws ls rs cp cw cl cr) (at_line h (h.instructions + h.words + j) j refl (omega arith)) (g _ (omega arith))

  row_good : ((u : ℕ) → u < units h → Good h p ws ls rs cp cw cl cr (unit_at h u)) → (i : ℕ) → i < length rs
      → Fine h p ws ls rs cp cw cl cr i (state_at (tinyram p ws) rs i) (ended_by rs i) (row_at rs (suc i))
  row_good g i l = subst (Good h p ws ls rs cp cw cl cr) (at_row h (h.instructions + h.words + h.lines + i) i refl) (g _ (omega arith))

  row_linked : ((u : ℕ) → u < units h → Good h p ws ls rs cp cw cl cr (unit_at h u)) → (t : ℕ) → 1 ≤ t → t ≤ length rs → RowLinks zeroed rs ls t (row_at rs t)
  row_linked g zero a b = absurd (omega arith)
  row_linked g (suc i) a b = (row_good g i (omega arith)).links

  -- what row i breaks of the rules of its step, in a log of T rows
  broken_at : ℕ → ℕ → ℕ
  broken_at i T =
      step_finding ((tinyram p ws).leaves (state_at (tinyram p ws) rs i)) T (suc i) (ended_by rs i)
      ((tinyram p ws).asks (state_at (tinyram p ws) rs i)) (row_at rs (suc i))

  pub good_keeps : 1 ≤ h.rows → ((u : ℕ) → u < units h → Good h p ws ls rs cp cw cl cr (unit_at h u)) → Keeps p ws rs ls
  unfolding broken_at
  good_keeps one g = record {
    links = record {
      order = λ j l. (line_good g j l).0;
      step = λ j l. (line_good g j l).1;
      row = row_linked g;
    };
    steps = record {
      some = omega arith;
      each = λ i l.
          (step_row ((tinyram p ws).leaves (state_at (tinyram p ws) rs i)) rs i ((tinyram p ws).asks (state_at (tinyram p ws) rs i)) (row_at rs (suc i))).0
          (subst (λ (T : ℕ). broken_at i T ≡ 0) (sym cr) (row_good g i l).step);
    };
  }

  pub good_formed : ((u : ℕ) → u < units h → Good h p ws ls rs cp cw cl cr (unit_at h u)) → Formed p
  good_formed g = each_from (λ i. well_formed i ≡ true) p answer_one (λ k l. subst (Good h p ws ls rs cp cw cl cr) (at_instruction h k (omega arith)) (g k (omega arith)))

  pub keeps_good : Keeps p ws rs ls → Formed p → (u : ℕ) → u < units h → Good h p ws ls rs cp cw cl cr (unit_at h u)
  unfolding broken_at
  keeps_good k f =
      by_part h (Good h p ws ls rs cp cw cl cr)
      (λ i l. each_at (λ x. well_formed x ≡ true) p answer_one f refl i)
      (λ i l. tt)
      (λ j l. (k.links.order j (omega arith), k.links.step j (omega arith)))
      (λ i l. record {
        step = subst (λ (T : ℕ). broken_at i T ≡ 0) cr
            ((step_row ((tinyram p ws).leaves (state_at (tinyram p ws) rs i)) rs i ((tinyram p ws).asks (state_at (tinyram p ws) rs i)) (row_at rs (suc i))).1 (k.steps.each i (omega arith)));
        links = k.links.row (suc i) (omega arith) (omega arith);
      })
