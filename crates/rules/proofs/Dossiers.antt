-- The second and the third law: some dossier is accepted exactly when some tape makes the program accept,
-- and accepted dossiers that are alike are equal.
use Rattle.std.proofs.Common.{◌≡◌, ℕ, ◌≤◌, List, [], ◌∷◌, map, length, Ok, sym, refl, ap, ◌∙◌, subst, arith}
use lib.ListN.{length-map}
use Rattle.encoding.specs.declared.instruction.Instruction.{Instruction}
use Rattle.dossier.specs.declared.record.Head.{Head}
use Rattle.dossier.specs.declared.record.Line.{Line}
use Rattle.dossier.specs.declared.record.Row.{Row}
use Rattle.dossier.specs.declared.record.Row.TheVariants.{Plain}
use Rattle.dossier.specs.Numbers.{Words, Fit, instruction_numbers, word_numbers, line_numbers, row_numbers}
use Rattle.dossier.specs.Meaning.{Item, Meaning, Made, IsRecord, ItemFits, Each, counted}
use Rattle.tinyram.specs.Program.{AcceptsIn, LogsRun, rows_of, lines_of}
use Rattle.tinyram.proofs.Run.{program_logged, program_unique}
use Rattle.tinyram.proofs.Kept.{program_words, program_counts}
use Rattle.rules.specs.declared.call.Call.TheVariants.{Advance}
use Rattle.rules.specs.Course.{amount, taken_by}
use Rattle.rules.specs.Laws.{record_or, program, primary, lines, rows, bound, every_unit, Formed, Limits, Within, HeadWithin, Genuine, Accepted, Of, Existence, Uniqueness}
use Rattle.rules.proofs.Whole.{whole, all_ok, Headed, headed}
use Rattle.rules.proofs.Acceptance.{acceptance, advancing}

genuine_of : (m : Meaning) → Made m → Accepted m → Genuine m
genuine_of m mk a = ((acceptance m mk a.0).accepted.0 a.1).1

-- LISTS OF READABLE ITEMS

map_back : {R : Type 0} (d : R) (xs : List R) → map (record_or d) (map Ok xs) ≡ xs
map_back d [] = refl
map_back d (x ∷ xs) = ap (λ ys. x ∷ ys) (map_back d xs)

all_records : {R : Type 0} (xs : List R) → Each IsRecord (map Ok xs)
all_records [] = tt
all_records (x ∷ xs) = (tt, all_records xs)

all_fit : {R : Type 0} (f : R → List ℕ) (xs : List R) → Each (Fit f) xs → Each (ItemFits f) (map Ok xs)
all_fit f [] e = tt
all_fit f (x ∷ xs) e = (e.0, all_fit f xs e.1)

each_word : (ws : List ℕ) → Words ws → Each (Fit word_numbers) ws
each_word [] e = tt
each_word (w ∷ ws) e = ((e.0, tt), each_word ws e.1)

-- a log is the log of equal things
relog : {p p' : List Instruction} {ws ws' : List ℕ} {rs rs' : List Row} {ls ls' : List Line} (aux : List ℕ)
    → p ≡ p' → ws ≡ ws' → rs ≡ rs' → ls ≡ ls' → LogsRun p ws aux rs ls → LogsRun p' ws' aux rs' ls'
relog {p} {p'} {ws} {ws'} {rs} {rs'} {ls} {ls'} aux ep ew er el g =
    subst (λ (x : List Line). LogsRun p' ws' aux rs' x) el
    (subst (λ (x : List Row). LogsRun p' ws' aux x ls) er
    (subst (λ (x : List ℕ). LogsRun p' x aux rs ls) ew
    (subst (λ (x : List Instruction). LogsRun x ws aux rs ls) ep g)))

-- UNIQUENESS

-- the head of an accepted dossier is decided by the lists and the bound
head_counts : (m : Meaning) → Made m → (h : Head) → m.head ≡ Ok h
    → h ≡ record { instructions = length m.instructions; words = length m.words; lines = length m.lines; rows = length m.rows; bound = bound m.head }
head_counts m mk h e =
    let i = mk.instructions.counts ∙ ap (λ x. counted x (λ y. y.instructions)) e in
    let w = mk.words.counts ∙ ap (λ x. counted x (λ y. y.words)) e in
    let l = mk.lines.counts ∙ ap (λ x. counted x (λ y. y.lines)) e in
    let r = mk.rows.counts ∙ ap (λ x. counted x (λ y. y.rows)) e in
    let b = ap bound e in
    λ k. record { instructions = sym i k; words = sym w k; lines = sym l k; rows = sym r k; bound = sym b k }

same_list : {R : Type 0} (d : R) (xs ys : List (Item R)) → Each IsRecord xs → Each IsRecord ys → map (record_or d) xs ≡ map (record_or d) ys → xs ≡ ys
same_list d xs ys a b e = all_ok d xs a ∙ ap (map Ok) e ∙ sym (all_ok d ys b)

same_head : (m m' : Meaning) → Made m → Made m' → Headed m → Headed m' → m.instructions ≡ m'.instructions → m.words ≡ m'.words
    → m.lines ≡ m'.lines → m.rows ≡ m'.rows → bound m.head ≡ bound m'.head → m.head ≡ m'.head
same_head m m' mk mk' h h' i w l r b =
    let a = head_counts m mk h.head h.is in
    let a' = head_counts m' mk' h'.head h'.is in
    let s : h.head ≡ h'.head =
    a ∙ (λ k. record { instructions = length (i k); words = length (w k); lines = length (l k); rows = length (r k); bound = b k }) ∙ sym a' in
    h.is ∙ ap Ok s ∙ sym h'.is

pub uniqueness : Uniqueness
uniqueness m m' mk mk' a a' s =
    let g = genuine_of m mk a in
    let g' = genuine_of m' mk' a' in
    let (aux, wa, logs) = g.run in
    let (aux', wa', logs') = g'.run in
    let moved-logs = relog aux' (ap (map (record_or _)) (sym s.program)) (ap (map (record_or 0)) (sym s.primary)) refl refl logs' in
    let (er, el) = program_unique (program m) (primary m) aux aux' (rows m) (rows m') (lines m) (lines m') logs moved-logs s.advice in
    let r = same_list _ m.rows m'.rows g.readable.rows g'.readable.rows er in
    let l = same_list _ m.lines m'.lines g.readable.lines g'.readable.lines el in
    let h = same_head m m' mk mk' (headed m g.readable) (headed m' g'.readable) s.program s.primary l r s.bound in
    λ k. record { head = h k; instructions = s.program k; words = s.primary k; lines = l k; rows = r k }

-- EXISTENCE

-- the dossier of a run of T steps
module _ (p : List Instruction) (ws : List ℕ) (B : ℕ) (fp : Each (Fit instruction_numbers) p) (fw : Words ws) (formed : Formed p) (lim : Limits (length p) (length ws) B)
    (aux : List ℕ) (fa : Words aux) (T : ℕ) (le : T ≤ B) (acc : AcceptsIn p ws aux T) where
  head_of : Head
  head_of = record { instructions = length p; words = length ws; lines = length (lines_of p ws aux T); rows = length (rows_of p ws aux T); bound = B }

  logged : Meaning
  logged = whole head_of p ws (lines_of p ws aux T) (rows_of p ws aux T)

  logged_made : Made logged
  unfolding logged head_of
  logged_made =
      let n = program_words p ws aux fp fw fa in
      let c = program_counts p ws aux T in
      let c0 = c.0 in
      let c1 = c.1 in
      let a = lim.program in
      let b = lim.words in
      let d = lim.bound in
      record {
        head = (omega arith, (omega arith, (omega arith, (omega arith, (omega arith, tt)))));
        instructions = record { counts = length-map p Ok; fits = all_fit instruction_numbers p fp };
        words = record { counts = length-map ws Ok; fits = all_fit word_numbers ws (each_word ws fw) };
        lines = record { counts = length-map (lines_of p ws aux T) Ok; fits = all_fit line_numbers _ (n.lines T (omega arith)) };
        rows = record { counts = length-map (rows_of p ws aux T) Ok; fits = all_fit row_numbers _ (n.rows T (omega arith)) };
      }

  logged_genuine : Genuine logged
  unfolding logged head_of
  logged_genuine =
      let c = program_counts p ws aux T in
      let c0 = c.0 in
      let c1 = c.1 in
      let one = acc.some in
      record {
        readable = record { head = tt; instructions = all_records p; words = all_records ws; lines = all_records _; rows = all_records _ };
        formed = subst Formed (sym (map_back _ p)) formed;
        limits = record { limits = lim; some = omega arith; rows = omega arith; lines = omega arith };
        run = (aux, fa, relog aux (sym (map_back _ p)) (sym (map_back 0 ws)) (sym (map_back _ (rows_of p ws aux T))) (sym (map_back _ (lines_of p ws aux T))) (program_logged p ws aux T acc));
      }

  logged_accepted : Accepted logged
  unfolding logged head_of
  logged_accepted =
      let one : 1 ≤ every_unit logged = let a = logged_made.instructions.counts in let b = lim.some in omega arith in
      let a = advancing logged logged_made logged_genuine [] (every_unit logged) one (omega arith) in
      let t : taken_by logged (Advance (every_unit logged) ∷ []) ≡ every_unit logged = omega (arith, ap amount a) in
      (Advance (every_unit logged) ∷ [], (acceptance logged logged_made (Advance (every_unit logged) ∷ [])).accepted.1 (t, logged_genuine))

  logged_of : Of logged p ws B
  unfolding logged head_of
  logged_of = record { made = logged_made; program = refl; primary = refl; bound = refl }

some_tape : (p : List Instruction) (ws : List ℕ) (B : ℕ) (m : Meaning) → Of m p ws B → Accepted m → (aux : List ℕ) × Words aux × ((T : ℕ) × (T ≤ B) × AcceptsIn p ws aux T)
some_tape p ws B m o a =
    let g = genuine_of m o.made a in
    let (aux, wa, logs) = g.run in
    let h = headed m g.readable in
    let w : Within h.head = subst HeadWithin h.is g.limits in
    let l = relog aux (ap (map (record_or _)) o.program ∙ map_back _ p) (ap (map (record_or 0)) o.primary ∙ map_back 0 ws) refl refl logs in
    let c : length (rows m) ≡ length m.rows = length-map m.rows (record_or Plain) in
    let d = o.made.rows.counts ∙ ap (λ x. counted x (λ y. y.rows)) h.is in
    let b = sym (ap bound h.is) ∙ o.bound in
    let r = w.rows in
    (aux, wa, (length (rows m), omega arith, l.accepts))

pub existence : Existence
existence p ws B fp fw formed lim = (
  λ (m, o, a). some_tape p ws B m o a,
  λ (aux, fa, (T, le, acc)). (
    logged p ws B fp fw formed lim aux fa T le acc,
    logged_of p ws B fp fw formed lim aux fa T le acc,
    logged_accepted p ws B fp fw formed lim aux fa T le acc,
  ),
)
