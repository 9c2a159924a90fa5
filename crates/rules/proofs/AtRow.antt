-- A row passes its check exactly if it keeps the rules of its step and of its links; then the machine goes on as in the run.
use Rattle.std.proofs.Common.{◌≡◌, ℕ, suc, ◌+◌, ◌<◌, ◌≤◌, Bool, true, false, ◌&&◌, eqb, ltb, leb, ◌⊎◌, List, length, Ok, sym, refl, inl, inr, arith}
use Rattle.std.proofs.lemmas.List.{get_or_past}
use Rattle.std.proofs.lemmas.Bool.{cases_lt, cases_eq}
use Rattle.std.proofs.lemmas.Bool.Decides.{nat_tests}
use Rattle.encoding.specs.declared.instruction.Instruction.{Instruction}
use Rattle.encoding.specs.declared.operation.Operation.{Operation}
use Rattle.machine.specs.declared.cpu.Cpu.{Cpu}
use Rattle.machine.specs.declared.step.Demand.{Demand}
use Rattle.machine.specs.declared.step.Demand.TheVariants as demand
use Rattle.machine.specs.Effects.{answer_one, fetched, asked, left, stepped}
use Rattle.dossier.specs.declared.record.Head.{Head}
use Rattle.dossier.specs.declared.record.Line.{Line}
use Rattle.dossier.specs.declared.record.Row.{Row}
use Rattle.dossier.specs.declared.record.Row.TheVariants.{Plain, FromLine, FromStep, Advice, AdviceEnd}
use Rattle.dossier.specs.declared.refusal.Part.TheVariants as part
use Rattle.run_log.specs.Log.{zeroed}
use Rattle.run_log.specs.Rules.{row_at, line_at, touch_of, opens_touch, leads_to, from_step, LineOrigin, StepOrigin, LedOn, NextLink, RowLinks}
use Rattle.run_log.specs.Run.{input_of, step_finding}
use Rattle.run_log.proofs.Rows.{row_inside}
use Rattle.tinyram.specs.Program.{outside, supplied}
use Rattle.rules.specs.declared.finding.Rule.TheVariants as rule
use Rattle.rules.specs.declared.progress.Unit as progress
use Rattle.rules.specs.declared.progress.Unit.TheVariants as unit
use Rattle.rules.specs.Checks.{operation_at, checked_step, checked_origin, checked_next, got_at, checked_row}
use Rattle.rules.proofs.Goes.{went, goes, past_test, with_test, found, finds, same_ok}
use Rattle.rules.proofs.Whole.{whole, answer_at, row_read}
use Rattle.rules.proofs.AtStep.{step_sound, step_complete}

module _ (h : Head) (p : List Instruction) (ws : List ℕ) (ls : List Line) (rs : List Row)
    (cp : length p ≡ h.instructions) (cw : length ws ≡ h.words) (cl : length ls ≡ h.lines) (cr : length rs ≡ h.rows) where
  -- WHAT THE STEP IS, AND WHAT IT GETS

  pub operation_read : (w : progress.Unit) (pc : ℕ) → operation_at (whole h p ws ls rs) h w pc ≡ Ok (fetched p pc)
  operation_read w pc =
      elim (cases_lt pc (length p)) [
        | inl l ↦
            let t : ltb pc h.instructions ≡ true = grind (arith, nat_tests) in
            let a = answer_at part.Instruction p pc pc answer_one l in
            rw (t, a)
        | inr g ↦
            let t : ltb pc h.instructions ≡ false = grind (arith, nat_tests) in
            let a = get_or_past p pc answer_one g in
            rw (t, a)
      ]

  pub got_read : (w : progress.Unit) (s : Cpu) (d : Demand) (r : Row) → got_at (whole h p ws ls rs) h w s d r ≡ Ok (supplied ws s d (input_of r))
  got_read w s demand.Nothing r = refl
  got_read w s (demand.Cell c) r = refl
  got_read w s demand.Primary r =
      elim (cases_lt s.place (length ws)) [
        | inl l ↦
            let t : ltb s.place h.words ≡ true = grind (arith, nat_tests) in
            let t' : ltb s.place (length ws) ≡ true = grind (arith, nat_tests) in
            let a = answer_at part.Word ws s.place s.place 0 l in
            rw (t, t', a)
        | inr g ↦
            let t : ltb s.place h.words ≡ false = grind (arith, nat_tests) in
            let t' : ltb s.place (length ws) ≡ false = grind (arith, nat_tests) in
            rw (t, t')
      ]
  got_read w s demand.Advice r = refl
  got_read w s (demand.Halt v) r = refl

  -- WHERE A TOUCH COMES FROM

  abbrev pub Origin : ℕ → Row → Type 0
  Origin t Plain = Unit {0}
  Origin t (FromLine x) = LineOrigin zeroed ls t x
  Origin t (FromStep x) = StepOrigin rs t x
  Origin t (Advice n) = Unit {0}
  Origin t AdviceEnd = Unit {0}

  origin_sound : (i : ℕ) → i < length rs → (r : Row) (u : Unit) → checked_origin (whole h p ws ls rs) h (unit.Row i) r ≡ Ok u → Origin (suc i) r
  origin_sound i k Plain u e = tt
  origin_sound i k (FromLine x) u e =
      let (a, e1) = past_test (ltb x.origin h.lines) _ rule.Origin _ u e in
      let l : x.origin < length ls = grind (arith, nat_tests) in
      let f = found (unit.Row i) _ (line_at ls x.origin) (opens_touch (i + 1) x) rule.Origin u (answer_at part.Line ls x.origin x.origin _ l) e1 in
      record { exists = l; cell = grind (arith, nat_tests); step = grind (arith, nat_tests); starts = grind (arith, nat_tests) }
  origin_sound i k (FromStep x) u e =
      let (a, e1) = past_test (leb 1 x.origin && leb x.origin i) _ rule.Origin _ u e in
      let lo : 1 ≤ x.origin = grind (arith, nat_tests) in
      let le : x.origin ≤ i = grind (arith, nat_tests) in
      let hi : x.origin ≤ length rs = omega arith in
      let f = found (unit.Row i) _ (row_at rs x.origin) (leads_to (i + 1) x) rule.Origin u (row_read h p ws ls rs x.origin lo hi) e1 in
      record {
        earlier = omega arith;
        touch = (grind (arith, nat_tests), grind (arith, nat_tests));
        cell = grind (arith, nat_tests);
        after = grind (arith, nat_tests);
        next = grind (arith, nat_tests);
      }
  origin_sound i k (Advice n) u e = tt
  origin_sound i k AdviceEnd u e = tt

  origin_complete : (i : ℕ) → i < length rs → (r : Row) → Origin (suc i) r → checked_origin (whole h p ws ls rs) h (unit.Row i) r ≡ Ok tt
  origin_complete i k Plain o = refl
  origin_complete i k (FromLine x) o =
      let l = o.exists in
      let c = o.cell in
      let s = o.step in
      let b = o.starts in
      let t : ltb x.origin h.lines ≡ true = grind (arith, nat_tests) in
      let f : opens_touch (i + 1) x (line_at ls x.origin) ≡ true = grind (arith, nat_tests) in
      with_test _ _ rule.Origin _ tt t (finds (unit.Row i) _ (line_at ls x.origin) (opens_touch (i + 1) x) rule.Origin (answer_at part.Line ls x.origin x.origin _ l) f)
  origin_complete i k (FromStep x) o =
      let e = o.earlier in
      let t1 = o.touch.0 in
      let t2 = o.touch.1 in
      let c = o.cell in
      let a = o.after in
      let n = o.next in
      let lo : 1 ≤ x.origin = (row_inside rs x.origin t1).0 in
      let hi : x.origin ≤ length rs = omega arith in
      let t : (leb 1 x.origin && leb x.origin i) ≡ true = grind (arith, nat_tests) in
      let f : leads_to (i + 1) x (row_at rs x.origin) ≡ true = grind (arith, nat_tests) in
      with_test _ _ rule.Origin _ tt t (finds (unit.Row i) _ (row_at rs x.origin) (leads_to (i + 1) x) rule.Origin (row_read h p ws ls rs x.origin lo hi) f)
  origin_complete i k (Advice n) o = refl
  origin_complete i k AdviceEnd o = refl

  -- WHERE IT LEADS

  next_sound : (i n : ℕ) (u : Unit) → checked_next (whole h p ws ls rs) h (unit.Row i) n ≡ Ok u → (n ≡ 0) ⊎ LedOn rs (suc i) n
  next_sound i n u e =
      elim (cases_eq n 0) [
        | inl z ↦ inl z
        | inr nz ↦
            let t : eqb n 0 ≡ false = grind (arith, nat_tests) in
            let (a, e1) = past_test (ltb (i + 1) n && leb n h.rows) (unit.Row i) rule.Next _ u (rw t at e) in
            let lo : suc i < n = grind (arith, nat_tests) in
            let hi : n ≤ length rs = grind (arith, nat_tests) in
            let f = found (unit.Row i) _ (row_at rs n) (from_step (i + 1)) rule.Next u (row_read h p ws ls rs n (omega arith) hi) e1 in
            inr (record { later = lo; kind = grind (arith, nat_tests); back = grind (arith, nat_tests) })
      ]

  next_complete : (i n : ℕ) → (n ≡ 0) ⊎ LedOn rs (suc i) n → checked_next (whole h p ws ls rs) h (unit.Row i) n ≡ Ok tt
  next_complete i n (inl z) = let t : eqb n 0 ≡ true = grind (arith, nat_tests) in rw t
  next_complete i n (inr o) =
      let lo = o.later in
      let k = o.kind in
      let b = o.back in
      let in1 = row_inside rs n (omega arith) in
      let hi = in1.1 in
      let t : eqb n 0 ≡ false = grind (arith, nat_tests) in
      let a : (ltb (i + 1) n && leb n h.rows) ≡ true = grind (arith, nat_tests) in
      let f : from_step (i + 1) (row_at rs n) ≡ true = grind (arith, nat_tests) in
      rw t (with_test _ _ rule.Next _ tt a (finds (unit.Row i) _ (row_at rs n) (from_step (i + 1)) rule.Next (row_read h p ws ls rs n (omega arith) hi) f))

  -- THE LINKS OF A ROW

  links : (t : ℕ) (r : Row) → Origin t r → NextLink rs t (touch_of r) → RowLinks zeroed rs ls t r
  links t Plain o n = tt
  links t (FromLine x) o n = (o, n)
  links t (FromStep x) o n = (o, n)
  links t (Advice w) o n = tt
  links t AdviceEnd o n = tt

  origin_of : (t : ℕ) (r : Row) → RowLinks zeroed rs ls t r → Origin t r
  origin_of t Plain l = tt
  origin_of t (FromLine x) l = l.0
  origin_of t (FromStep x) l = l.0
  origin_of t (Advice w) l = tt
  origin_of t AdviceEnd l = tt

  next_of : (t : ℕ) (r : Row) → RowLinks zeroed rs ls t r → NextLink rs t (touch_of r)
  next_of t Plain l = inl refl
  next_of t (FromLine x) l = l.1
  next_of t (FromStep x) l = l.1
  next_of t (Advice w) l = inl refl
  next_of t AdviceEnd l = inl refl

  -- THE ROW

  -- the machine after a step that gets what the row says
  abbrev pub going : Cpu → Row → Cpu
  going s r = stepped (fetched p s.pc) (supplied ws s (asked (fetched p s.pc) s) (input_of r)) s

  pub record Fine (i : ℕ) (s : Cpu) (ended : Bool) (r : Row) : Type 0 where
    pub step : step_finding (left (fetched p s.pc) s) h.rows (suc i) ended (outside (asked (fetched p s.pc) s)) r ≡ 0
    pub links : RowLinks zeroed rs ls (suc i) r

  pub row_sound : (i : ℕ) → i < length rs → (s : Cpu) (ended : Bool) (r : Row) (s' : Cpu)
      → checked_row (whole h p ws ls rs) h (unit.Row i) s ended r ≡ Ok s' → Fine i s ended r × (s' ≡ going s r)
  row_sound i k s ended r s' e =
      let o : Operation = fetched p s.pc in
      let e1 = rw (operation_read (unit.Row i) s.pc) at e in
      let (u, a, e2) = went (checked_step h.rows (unit.Row i) ended (left (fetched p s.pc) s) (asked (fetched p s.pc) s) r) _ s' e1 in
      let (u2, b, e3) = went (checked_origin (whole h p ws ls rs) h (unit.Row i) r) _ s' e2 in
      let (u3, c, e4) = went (checked_next (whole h p ws ls rs) h (unit.Row i) (touch_of r).next) _ s' e3 in
      let e5 = rw (got_read (unit.Row i) s (asked (fetched p s.pc) s) r) at e4 in (
        record {
          step = step_sound h.rows i ended _ (asked (fetched p s.pc) s) r u a;
          links = links (suc i) r (origin_sound i k r u2 b) (next_sound i (touch_of r).next u3 c);
        },
        sym (same_ok _ s' e5),
      )

  pub row_complete : (i : ℕ) → i < length rs → (s : Cpu) (ended : Bool) (r : Row) → Fine i s ended r
      → checked_row (whole h p ws ls rs) h (unit.Row i) s ended r ≡ Ok (going s r)
  row_complete i k s ended r f =
      rw (operation_read (unit.Row i) s.pc)
      (goes (checked_step h.rows (unit.Row i) ended (left (fetched p s.pc) s) (asked (fetched p s.pc) s) r) tt _ _
      (step_complete h.rows i ended _ (asked (fetched p s.pc) s) r f.step)
      (goes (checked_origin (whole h p ws ls rs) h (unit.Row i) r) tt _ _ (origin_complete i k r (origin_of (suc i) r f.links))
      (goes (checked_next (whole h p ws ls rs) h (unit.Row i) (touch_of r).next) tt _ _ (next_complete i (touch_of r).next (next_of (suc i) r f.links))
      (rw (got_read (unit.Row i) s (asked (fetched p s.pc) s) r)))))
