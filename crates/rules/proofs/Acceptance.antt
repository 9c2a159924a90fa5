-- The first law: accepted exactly when every unit was taken and the dossier is genuine.
use Rattle.std.proofs.Common.{◌≡◌, ℕ, ◌+◌, ◌≤◌, Bool, true, false, cond, eqb, List, [], ◌∷◌, map, length, Some, None, Ok, Err, Option, sym, refl, ap, ◌∙◌, subst, arith}
use lib.ListN.{length-map}
use Rattle.std.proofs.lemmas.Bool.Decides.{nat_tests}
use Rattle.dossier.specs.declared.record.Head.{Head}
use Rattle.dossier.specs.declared.record.Row.TheVariants.{Plain}
use Rattle.dossier.specs.declared.refusal.Part.TheVariants as part
use Rattle.dossier.specs.Numbers.{Fit, row_numbers}
use Rattle.dossier.specs.Meaning.{Item, Meaning, Made, IsRecord, ItemFits, Each, counted, item_answer}
use Rattle.tinyram.proofs.Run.{program_complete}
use Rattle.tinyram.proofs.Kept.{program_decided}
use Rattle.rules.specs.declared.finding.Rule.TheVariants as rule
use Rattle.rules.specs.declared.finding.Finding.{Finding}
use Rattle.rules.specs.declared.progress.Progress.{Progress}
use Rattle.rules.specs.declared.call.Call.{Call}
use Rattle.rules.specs.declared.call.Call.TheVariants.{Advance}
use Rattle.rules.specs.declared.call.Advanced.TheVariants as advanced-case
use Rattle.rules.specs.declared.call.Outcome.TheVariants as outcome
use Rattle.rules.specs.Units.{units}
use Rattle.rules.specs.Course.{in_limits, stopped, no_head, begun_by, begun, left, told, closing_by, closing, after_from, after, amount, taken_from, taken_by, advance_answer}
use Rattle.rules.specs.Laws.{record_or, program, primary, lines, rows, every_unit, Within, HeadWithin, Genuine, Closes, Acceptance, Advancing}
use Rattle.run_log.specs.Words.{Exactly}
use Rattle.rules.proofs.Whole.{whole, is_whole}
use Rattle.rules.proofs.Taking.{run, reached}
use Rattle.rules.proofs.Genuine.{Counts, all_readable, sound_units, complete_units, good_keeps, good_formed, keeps_good}
use Rattle.rules.proofs.Calls.{either_way, after_found, reach, Counted, made}
use Rattle.rules.proofs.Calls as calls

-- THE LIMITS

pub in_limits_lem : (h : Head) → in_limits h ≡ true → Within h
in_limits_lem h e = record {
  limits = record { some = grind (arith, nat_tests); program = grind (arith, nat_tests); words = grind (arith, nat_tests); once = grind (arith, nat_tests); bound = grind (arith, nat_tests) };
  some = grind (arith, nat_tests);
  rows = grind (arith, nat_tests);
  lines = grind (arith, nat_tests);
}

pub limits_in : (h : Head) → Within h → in_limits h ≡ true
limits_in h w =
    let a = w.limits.some in
    let b = w.limits.program in
    let c = w.limits.words in
    let d = w.limits.once in
    let e = w.limits.bound in
    let f = w.some in
    let g = w.rows in
    let i = w.lines in
    let j : h.rows ≤ 1000000 = omega arith in
    grind (arith, nat_tests)

-- RECORDS THAT FIT

pub fit_records : {R : Type 0} (f : R → List ℕ) (d : R) (xs : List (Item R)) → Each (ItemFits f) xs → Each IsRecord xs → Each (Fit f) (map (record_or d) xs)
fit_records f d [] a b = tt
fit_records f d (Ok r ∷ xs) a b = (a.0, fit_records f d xs a.1 b.1)
fit_records f d (Err l ∷ xs) a b = absurd b.0

-- UNDER A HEAD

module _ (m : Meaning) (mk : Made m) (h : Head) (e : m.head ≡ Ok h) where
  counts : Counts m h
  counts = record {
    head = e;
    instructions = mk.instructions.counts ∙ ap (λ x. counted x (λ y. y.instructions)) e;
    words = mk.words.counts ∙ ap (λ x. counted x (λ y. y.words)) e;
    lines = mk.lines.counts ∙ ap (λ x. counted x (λ y. y.lines)) e;
    rows = mk.rows.counts ∙ ap (λ x. counted x (λ y. y.rows)) e;
  }

  cp : length (program m) ≡ h.instructions
  unfolding counts
  cp = length-map m.instructions _ ∙ counts.instructions

  cw : length (primary m) ≡ h.words
  unfolding counts
  cw = length-map m.words _ ∙ counts.words

  cl : length (lines m) ≡ h.lines
  unfolding counts
  cl = length-map m.lines _ ∙ counts.lines

  cr : length (rows m) ≡ h.rows
  unfolding counts
  cr = length-map m.rows _ ∙ counts.rows

  -- all units pass: the dossier is genuine
  genuine : Within h → (run m h (units h)).finding ≡ None → Genuine m
  genuine w n =
      let r = all_readable m h counts n in
      let q = is_whole m h e r in
      let n' : (run (whole h (program m) (primary m) (lines m) (rows m)) h (units h)).finding ≡ None = subst (λ (x : Meaning). (run x h (units h)).finding ≡ None) q n in
      let g = sound_units h (program m) (primary m) (lines m) (rows m) cp cw cl cr w.limits.some n' in
      record {
        readable = r;
        formed = good_formed h (program m) (primary m) (lines m) (rows m) cp cw cl cr w.limits.some g;
        limits = subst HeadWithin (sym e) w;
        run = (program_decided (program m) (primary m) (rows m) (lines m) (fit_records row_numbers Plain m.rows mk.rows.fits r.rows)).0
            (good_keeps h (program m) (primary m) (lines m) (rows m) cp cw cl cr w.limits.some w.some g);
      }

  -- and no unit of a genuine dossier is found wanting
  none_found : Genuine m → (n : ℕ) → n ≤ units h → (run m h n).finding ≡ None
  none_found g n l =
      let w : Within h = subst HeadWithin e g.limits in
      let q = is_whole m h e g.readable in
      let (aux, ws, logs) = g.run in
      let k = program_complete (program m) (primary m) aux (rows m) (lines m) logs in
      subst (λ (x : Meaning). (run x h n).finding ≡ None) (sym q)
      (complete_units h (program m) (primary m) (lines m) (rows m) cp cw cl cr w.limits.some
      (keeps_good h (program m) (primary m) (lines m) (rows m) cp cw cl cr w.limits.some k g.formed) n l)

  every : every_unit m ≡ units h
  unfolding counts
  every =
      let a = counts.instructions in
      let b = counts.words in
      let c = counts.lines in
      let d = counts.rows in
      omega arith

  row_count : length m.rows ≡ h.rows
  unfolding counts
  row_count = counts.rows

-- WHAT THE CLOSE SAYS

pub record Says (q : Progress) (T : ℕ) : Type 0 where
  pub none : q.finding ≡ None
  pub left : left q ≡ 0
  pub steps : q.head.rows ≡ T

says_at : (b : Bool) (l n T : ℕ) → cond b (outcome.Accepted n) (outcome.Unfinished l) ≡ outcome.Accepted T → (b ≡ true) × (n ≡ T)
says_at true l n T e = (refl, cc)
says_at false l n T e = absurd (cc)

says_by : (f : Option Finding) (l n T : ℕ) → closing_by f l n ≡ outcome.Accepted T → (f ≡ None) × (l ≡ 0) × (n ≡ T)
says_by (Some f) l n T e = absurd (cc)
says_by None l n T e = let (b, t) = says_at (eqb l 0) l n T e in (refl, grind (arith, nat_tests), t)

pub says : (q : Progress) (T : ℕ) → closing q ≡ outcome.Accepted T → Says q T
says q T e = let (a, b, c) = says_by q.finding (left q) q.head.rows T e in record { none = a; left = b; steps = c }

accepts : (q : Progress) (T : ℕ) → Says q T → closing q ≡ outcome.Accepted T
accepts q T s =
    let z : eqb (left q) 0 ≡ true = let l = s.left in grind (arith, nat_tests) in
    ap (λ f. closing_by f (left q) q.head.rows) s.none ∙ rw z (ap outcome.Accepted s.steps)

-- A CHECKING THAT WAS STOPPED AT THE BEGINNING

never : (m : Meaning) (cs : List Call) (f : Finding) → (begun m).finding ≡ Some f → (T : ℕ) {P : Type 0} → closing (after m cs) ≡ outcome.Accepted T → P
never m cs f e T c =
    let s = (says (after m cs) T c).none in
    let a = after_found m (begun m) f e cs in
    absurd (cc)

stopped_closes : (m : Meaning) (cs : List Call) (f : Finding) → (begun m).finding ≡ Some f → (HeadWithin m.head → ⊥) → Closes m cs (closing (after m cs))
stopped_closes m cs f e n = record {
  accepted = (λ c. never m cs f e (length m.rows) c, λ t. absurd (n t.1.limits));
  steps = λ T c. never m cs f e T c;
}

-- A CHECKING THAT BEGAN

module _ (m : Meaning) (mk : Made m) (h : Head) (e : m.head ≡ Ok h) (lim : in_limits h ≡ true) where
  begins : begun m ≡ run m h 0
  begins = ap (λ x. begun_by (item_answer part.Head 0 (Some x))) e ∙ rw lim

  -- the calls from the first unit on
  called_from : (cs : List Call) → after m cs ≡ after_from m (run m h 0) cs
  called_from cs = ap (λ p. after_from m p cs) begins

  taken_from_lem : (cs : List Call) → taken_by m cs ≡ taken_from m (run m h 0) cs
  taken_from_lem cs = ap (λ p. taken_from m p cs) begins

  -- where nothing is found, the progress is that after the units taken
  at_taken : (cs : List Call) → (after m cs).finding ≡ None → (after m cs ≡ run m h (taken_by m cs)) × (taken_by m cs ≤ units h)
  at_taken cs n =
      let c = calls.counted m h cs 0 (omega arith) (ap (λ q. q.finding) (sym (called_from cs)) ∙ n) in
      let t = taken_from_lem cs in
      let w = c.within in
      let q : 0 + taken_from m (run m h 0) cs ≡ taken_by m cs = omega arith in
      (called_from cs ∙ c.is ∙ ap (run m h) q, omega arith)

  none_along : Genuine m → (cs : List Call) → (after m cs).finding ≡ None
  none_along g cs =
      let (n, b, q) = reach m h cs 0 (omega arith) in
      ap (λ x. x.finding) (called_from cs ∙ q) ∙ none_found m mk h e g n b

  all_taken : (cs : List Call) (T : ℕ) → closing (after m cs) ≡ outcome.Accepted T → (taken_by m cs ≡ units h) × (h.rows ≡ T)
  all_taken cs T c =
      let s = says (after m cs) T c in
      let (q, w) = at_taken cs s.none in
      let n : (run m h (taken_by m cs)).finding ≡ None = ap (λ x. x.finding) (sym q) ∙ s.none in
      let r = reached m h (taken_by m cs) n in
      let l : left (run m h (taken_by m cs)) ≡ 0 = ap left (sym q) ∙ s.left in
      let t = r.total in
      let k = r.taken in
      (omega arith, sym (ap (λ x. x.rows) r.head) ∙ ap (λ x. x.head.rows) (sym q) ∙ s.steps)

  to_genuine : (cs : List Call) → closing (after m cs) ≡ outcome.Accepted (length m.rows) → (taken_by m cs ≡ every_unit m) × Genuine m
  to_genuine cs c =
      let (t, r) = all_taken cs (length m.rows) c in
      let (q, w) = at_taken cs (says (after m cs) _ c).none in
      let n : (run m h (taken_by m cs)).finding ≡ None = ap (λ x. x.finding) (sym q) ∙ (says (after m cs) _ c).none in
      (t ∙ sym (every m mk h e), genuine m mk h e (in_limits_lem h lim) (subst (λ (k : ℕ). (run m h k).finding ≡ None) t n))

  from_genuine : (cs : List Call) → taken_by m cs ≡ every_unit m → Genuine m → closing (after m cs) ≡ outcome.Accepted (length m.rows)
  from_genuine cs t g =
      let f = none_along g cs in
      let (q, w) = at_taken cs f in
      let n : (run m h (taken_by m cs)).finding ≡ None = ap (λ x. x.finding) (sym q) ∙ f in
      let r = reached m h (taken_by m cs) n in
      let a = r.total in
      let k = r.taken in
      let u = t ∙ every m mk h e in
      let l : left (run m h (taken_by m cs)) ≡ 0 = omega arith in
      accepts (after m cs) (length m.rows) (record {
        none = f;
        left = ap left q ∙ l;
        steps = ap (λ x. x.head.rows) q ∙ ap (λ x. x.rows) r.head ∙ sym (row_count m mk h e);
      })

  begun_closes : (cs : List Call) → Closes m cs (closing (after m cs))
  begun_closes cs = record {
    accepted = (to_genuine cs, λ t. from_genuine cs t.0 t.1);
    steps = λ T c. sym (all_taken cs T c).1 ∙ sym (row_count m mk h e);
  }

  begun_advances : Genuine m → (cs : List Call) (k : ℕ) → 1 ≤ k → taken_by m cs + k ≤ every_unit m → advance_answer m (after m cs) k ≡ Ok (advanced-case.Took k)
  begun_advances g cs k one l =
      let f = none_along g cs in
      let (q, w) = at_taken cs f in
      let n : (run m h (taken_by m cs)).finding ≡ None = ap (λ x. x.finding) (sym q) ∙ f in
      let u = every m mk h e in
      let b : taken_by m cs + k ≤ units h = omega arith in
      ap (λ p. advance_answer m p k) q ∙ (made m h (taken_by m cs) k n one b).answer ∙ ap (λ x. Ok (told k x)) (none_found m mk h e g (taken_by m cs + k) b)

-- THE LAWS

by_limits : (m : Meaning) → Made m → (h : Head) → m.head ≡ Ok h → (b : Bool) → in_limits h ≡ b → (cs : List Call) → Closes m cs (closing (after m cs))
by_limits m mk h e true lim cs = begun_closes m mk h e lim cs
by_limits m mk h e false lim cs =
    let s : begun m ≡ stopped h rule.Limits = ap (λ x. begun_by (item_answer part.Head 0 (Some x))) e ∙ rw lim in
    stopped_closes m cs _ (ap (λ q. q.finding) s)
    (λ w. let t = limits_in h (subst HeadWithin e w) in cc)

by_head : (m : Meaning) → Made m → (x : Item Head) → m.head ≡ x → (cs : List Call) → Closes m cs (closing (after m cs))
by_head m mk (Ok h) e cs = by_limits m mk h e (in_limits h) refl cs
by_head m mk (Err l) e cs =
    let s : begun m ≡ stopped no_head rule.Head = ap (λ x. begun_by (item_answer part.Head 0 (Some x))) e in
    stopped_closes m cs _ (ap (λ q. q.finding) s) (λ w. subst HeadWithin e w)

pub acceptance : Acceptance
acceptance m mk cs = by_head m mk m.head refl cs

advances_by : (m : Meaning) → Made m → Genuine m → (x : Item Head) → m.head ≡ x → (cs : List Call) (k : ℕ) → 1 ≤ k → taken_by m cs + k ≤ every_unit m → advance_answer m (after m cs) k ≡ Ok (advanced-case.Took k)
advances_by m mk g (Ok h) e cs k one l = begun_advances m mk h e (limits_in h (subst HeadWithin e g.limits)) g cs k one l
advances_by m mk g (Err x) e cs k one l = absurd (subst HeadWithin e g.limits)

pub advancing : Advancing
advancing m mk g cs k one l = advances_by m mk g m.head refl cs k one l

-- ALL UNITS AT ONCE

left_by : (m : Meaning) → Made m → Genuine m → (x : Item Head) → m.head ≡ x → (left (begun m) ≡ every_unit m) × (1 ≤ every_unit m)
left_by m mk g (Ok h) e =
    let w : Within h = subst HeadWithin e g.limits in
    let b = ap left (begins m mk h e (limits_in h w)) in
    let u = every m mk h e in
    let o = w.limits.some in
    (omega arith, omega arith)
left_by m mk g (Err x) e = absurd (subst HeadWithin e g.limits)

pub all_at_once : (m : Meaning) → Made m → Exactly (closing (after m (Advance (left (begun m)) ∷ [])) ≡ outcome.Accepted (length m.rows)) (Genuine m)
all_at_once m mk = (
  λ c. ((acceptance m mk (Advance (left (begun m)) ∷ [])).accepted.0 c).1,
  λ g.
      let (l, one) = left_by m mk g m.head refl in
      let a = advancing m mk g [] (left (begun m)) (omega arith) (omega arith) in
      let t : taken_by m (Advance (left (begun m)) ∷ []) ≡ every_unit m = omega (arith, ap amount a) in
      (acceptance m mk (Advance (left (begun m)) ∷ [])).accepted.1 (t, g),
)
