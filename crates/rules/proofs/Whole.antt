-- A dossier that is readable throughout: what its questions answer.
use Rattle.std.proofs.Common.{◌≡◌, ℕ, zero, suc, ◌-◌, ◌<◌, ◌≤◌, List, [], ◌∷◌, map, length, get_or, Ok, Err, refl, ap, arith}
use Rattle.std.specs.List.{slice_get}
use Rattle.encoding.specs.declared.instruction.Instruction.{Instruction}
use Rattle.dossier.specs.declared.record.Head.{Head}
use Rattle.dossier.specs.declared.record.Line.{Line}
use Rattle.dossier.specs.declared.record.Row.{Row}
use Rattle.dossier.specs.declared.record.Row.TheVariants.{Plain}
use Rattle.dossier.specs.declared.refusal.Part.{Part}
use Rattle.dossier.specs.Meaning.{Item, Meaning, Readable, IsRecord, Each, item_answer, row_answer}
use Rattle.run_log.specs.Rules.{row_at}
use Rattle.rules.specs.Laws.{record_or, program, primary, lines, rows}

-- the dossier of these records
abbrev pub whole : Head → List Instruction → List ℕ → List Line → List Row → Meaning
whole h p ws ls rs = record { head = Ok h; instructions = map Ok p; words = map Ok ws; lines = map Ok ls; rows = map Ok rs }

pub answer_at : {R : Type 0} (q : Part) (xs : List R) (k n : ℕ) (d : R) → k < length xs → item_answer q n (slice_get (map Ok xs) k) ≡ Ok (get_or xs k d)
answer_at q [] k n d l = absurd (omega arith)
answer_at q (x ∷ xs) zero n d l = refl
answer_at q (x ∷ xs) (suc k) n d l = answer_at q xs k n d (omega arith)

-- row t, counted from 1
pub row_read : (h : Head) (p : List Instruction) (ws : List ℕ) (ls : List Line) (rs : List Row) (t : ℕ) → 1 ≤ t → t ≤ length rs
    → row_answer (whole h p ws ls rs) (t - 1) ≡ Ok (row_at rs t)
row_read h p ws ls rs zero a b = absurd (omega arith)
row_read h p ws ls rs (suc i) a b = let e : suc i - 1 ≡ i = omega arith in rw e (answer_at _ rs i i Plain (omega arith))

-- a list of records is the list of their items
pub all_ok : {R : Type 0} (d : R) (xs : List (Item R)) → Each IsRecord xs → xs ≡ map Ok (map (record_or d) xs)
all_ok d [] e = refl
all_ok d (Ok r ∷ xs) e = ap (λ ys. Ok r ∷ ys) (all_ok d xs e.1)
all_ok d (Err l ∷ xs) e = absurd e.0

pub record Headed (m : Meaning) : Type 0 where
  pub head : Head
  pub is : m.head ≡ Ok head

headed_by : (m : Meaning) (x : Item Head) → m.head ≡ x → IsRecord x → Headed m
headed_by m (Ok h) e r = record { head = h; is = e }
headed_by m (Err l) e r = absurd r

pub headed : (m : Meaning) → Readable m → Headed m
headed m r = headed_by m m.head refl r.head

pub is_whole : (m : Meaning) (h : Head) → m.head ≡ Ok h → Readable m → m ≡ whole h (program m) (primary m) (lines m) (rows m)
is_whole m h e r =
    let i = all_ok _ m.instructions r.instructions in
    let w = all_ok 0 m.words r.words in
    let l = all_ok _ m.lines r.lines in
    let s = all_ok Plain m.rows r.rows in
    λ k. record { head = e k; instructions = i k; words = w k; lines = l k; rows = s k }
