-- Opening lines by rising cell.
-- Assumes nothing.
use Rattle.std.proofs.Common.{◌≡◌, ℕ, zero, suc, ◌<◌, ◌≤◌, true, false, eqb, ◌⊎◌, List, [], ◌∷◌, length, get_or, sym, refl, ap, ◌∙◌, inl, inr, arith}
use lib.ListN.{get_or-eq_default}
use Rattle.std.proofs.lemmas.Bool.{cases_lt, cases_order, eqb-true, lt-ltb, le-ltb, eq-eqb, ne_eqb}
use Rattle.std.proofs.lemmas.Bool.{false_from_ne_true}
use Rattle.dossier.specs.declared.record.Line.{Line}
use Rattle.run_log.specs.Log.{Event, quiet, word, ended, touch, event_at, hits, touches, add_line, open_for, openings, log_lines, line_of}
use Rattle.run_log.specs.Rules.{line_at}
use Rattle.run_log.specs.Words.{IsFirst, Rising, LineFor, Opens}

-- OVER THE LIST

abbrev pub Every : (Line → Type 0) → List Line → Type 0
Every P [] = Unit {0}
Every P (l ∷ ls) = P l × Every P ls

abbrev pub Rises : List Line → Type 0
Rises [] = Unit {0}
Rises (l ∷ ls) = Every (λ k. l.cell < k.cell) ls × Rises ls

abbrev pub Has : ℕ → List Line → Type 0
Has c [] = ⊥
Has c (l ∷ ls) = (l.cell ≡ c) ⊎ Has c ls

every_map : (P Q : Line → Type 0) → ((l : Line) → P l → Q l) → (ls : List Line) → Every P ls → Every Q ls
every_map P Q f [] h = tt
every_map P Q f (l ∷ ls) h = (f l h.0, every_map P Q f ls h.1)

-- no line of a list has a cell below all of them
not_below : (c : ℕ) (ls : List Line) → Every (λ k. c < k.cell) ls → Has c ls → ⊥
not_below c [] e h = h
not_below c (l ∷ ls) e h = elim h [ inl x ↦ omega (arith, e.0) | inr x ↦ not_below c ls e.1 x ]

-- the three ways of `add_line`
module _ (c t : ℕ) (l : Line) (ls : List Line) (P : List Line → Type 0) where
  pub add_ways : (c < l.cell → P (record { cell = c; step = t } ∷ l ∷ ls)) → (c ≡ l.cell → P (l ∷ ls)) → (l.cell < c → P (l ∷ add_line c t ls)) → P (add_line c t (l ∷ ls))
  add_ways below same above = elim (cases_order c l.cell) [
    | inl e ↦ rw (le-ltb c l.cell (omega arith), eq-eqb c l.cell e) (same e)
    | inr (inl h) ↦ rw (lt-ltb c l.cell h) (below h)
    | inr (inr h) ↦ rw (le-ltb c l.cell (omega arith), ne_eqb c l.cell (omega arith)) (above h)
  ]

every_add : (P : Line → Type 0) (c t : ℕ) (ls : List Line) → Rises ls → Every P ls → ((Has c ls → ⊥) → P (record { cell = c; step = t })) → Every P (add_line c t ls)
every_add P c t [] r e h = (h (λ x. x), tt)
every_add P c t (l ∷ ls) r e h = add_ways c t l ls (Every P)
    (λ k. (h (not_below c (l ∷ ls) (k, every_map (λ x. l.cell < x.cell) (λ x. c < x.cell) (λ x m. omega arith) ls r.0)), e))
    (λ k. e)
    (λ k. (e.0, every_add P c t ls r.1 e.1 (λ n. h (elim [ inl x ↦ omega arith | inr x ↦ n x ]))))

rises_add : (c t : ℕ) (ls : List Line) → Rises ls → Rises (add_line c t ls)
rises_add c t [] r = (tt, tt)
rises_add c t (l ∷ ls) r = add_ways c t l ls Rises
    (λ k. ((k, every_map (λ x. l.cell < x.cell) (λ x. c < x.cell) (λ x m. omega arith) ls r.0), r))
    (λ k. r)
    (λ k. (every_add (λ x. l.cell < x.cell) c t ls r.1 r.0 (λ n. k), rises_add c t ls r.1))

has_add : (c t : ℕ) (ls : List Line) → Has c (add_line c t ls)
has_add c t [] = inl refl
has_add c t (l ∷ ls) = add_ways c t l ls (Has c) (λ k. inl refl) (λ k. inl (sym k)) (λ k. inr (has_add c t ls))

has_keep : (d c t : ℕ) (ls : List Line) → Has d ls → Has d (add_line c t ls)
has_keep d c t [] h = absurd h
has_keep d c t (l ∷ ls) h = add_ways c t l ls (Has d) (λ k. inr h) (λ k. h) (λ k. elim h [ inl x ↦ inl x | inr x ↦ inr (has_keep d c t ls x) ])

-- BY PLACE

pub every_at : (P : Line → Type 0) (ls : List Line) → Every P ls → (j : ℕ) → j < length ls → P (line_at ls j)
every_at P [] e j h = absurd (omega arith)
every_at P (l ∷ ls) e zero h = e.0
every_at P (l ∷ ls) e (suc j) h = every_at P ls e.1 j (omega arith)

pub rises_at : (ls : List Line) → Rises ls → Rising ls
rises_at [] r i j l h = absurd (omega arith)
rises_at (k ∷ ls) r i zero l h = absurd (omega arith)
rises_at (k ∷ ls) r zero (suc j) l h = every_at (λ x. k.cell < x.cell) ls r.0 j (omega arith)
rises_at (k ∷ ls) r (suc i) (suc j) l h = rises_at ls r.1 i j (omega arith) (omega arith)

pub has_at : (c : ℕ) (ls : List Line) → Has c ls → (j : ℕ) × LineFor c ls j
has_at c [] h = absurd h
has_at c (l ∷ ls) h = elim h [
  | inl e ↦ (0, (omega arith, e))
  | inr x ↦ let y = has_at c ls x in (suc y.0, (omega arith, y.1.1))
]

-- the place of a line's cell is the line's
pub line_of_lem : (ls : List Line) → Rising ls → (j : ℕ) → j < length ls → line_of ls (line_at ls j).cell ≡ j
line_of_lem [] r j h = absurd (omega arith)
line_of_lem (l ∷ ls) r zero h = rw (le-ltb l.cell l.cell (omega arith))
line_of_lem (l ∷ ls) r (suc j) h =
    let k : l.cell < (line_at ls j).cell = r 0 (suc j) (omega arith) h in
    rw (lt-ltb l.cell (line_at ls j).cell k) (ap suc (line_of_lem ls (λ a b x y. r (suc a) (suc b) (omega arith) (omega arith)) j (omega arith)))

-- two lists by rising cell with the same lines are one
abbrev Among : List Line → List Line → Type 0
Among xs ys = (i : ℕ) → i < length xs → (j : ℕ) × (j < length ys) × (line_at ys j ≡ line_at xs i)

rising_tail : (x : Line) (xs : List Line) → Rising (x ∷ xs) → Rising xs
rising_tail x xs r i j l h = r (suc i) (suc j) (omega arith) (omega arith)

-- the lowest of one list is the lowest of the other
same_head : (x y : Line) (xs ys : List Line) → Rising (x ∷ xs) → Rising (y ∷ ys) → (i j : ℕ) → i < suc (length xs) → j < suc (length ys) →
    line_at (x ∷ xs) i ≡ y → line_at (y ∷ ys) j ≡ x → x ≡ y
same_head x y xs ys rx ry zero j hi hj p q = p
same_head x y xs ys rx ry (suc i) zero hi hj p q = sym q
same_head x y xs ys rx ry (suc i) (suc j) hi hj p q =
    absurd (omega (arith, rx 0 (suc i) (omega arith) hi, ry 0 (suc j) (omega arith) hj, ap (λ l. l.cell) p, ap (λ l. l.cell) q))

among_tail : (x y : Line) (xs ys : List Line) → Rising (x ∷ xs) → x ≡ y → Among (x ∷ xs) (y ∷ ys) → Among xs ys
among_tail x y xs ys rx e h i hi = go k.0 k.1 k.2
  where
    k : (j : ℕ) × (j < suc (length ys)) × (line_at (y ∷ ys) j ≡ line_at xs i)
    k = h (suc i) (omega arith)

    go : (j : ℕ) → j < suc (length ys) → line_at (y ∷ ys) j ≡ line_at xs i → (j : ℕ) × (j < length ys) × (line_at ys j ≡ line_at xs i)
    go zero l q = absurd (omega (arith, rx 0 (suc i) (omega arith) (omega arith), ap (λ l. l.cell) (e ∙ q)))
    go (suc j) l q = (j, omega arith, q)

pub same_lines : (xs ys : List Line) → Rising xs → Rising ys → Among xs ys → Among ys xs → xs ≡ ys
same_lines [] [] rx ry f g = refl
same_lines [] (y ∷ ys) rx ry f g = let k = g 0 (omega arith) in absurd (omega arith)
same_lines (x ∷ xs) [] rx ry f g = let k = f 0 (omega arith) in absurd (omega arith)
same_lines (x ∷ xs) (y ∷ ys) rx ry f g =
    let a = g 0 (omega arith) in
    let b = f 0 (omega arith) in
    let e : x ≡ y = same_head x y xs ys rx ry a.0 b.0 a.1 b.1 a.2 b.2 in
    let s : xs ≡ ys = same_lines xs ys (rising_tail x xs rx) (rising_tail y ys ry) (among_tail x y xs ys rx e f) (among_tail y x ys xs ry (sym e) g) in
    cc

-- THE LINES OF A LOG

pub one_first : (es : List Event) (c s t : ℕ) → IsFirst es c s → IsFirst es c t → s ≡ t
one_first es c s t f g = elim (cases_order s t) [
  | inl e ↦ e
  | inr (inl h) ↦ let x = g.none s h in absurd (cc)
  | inr (inr h) ↦ let x = f.none t h in absurd (cc)
]

same_opens_in : (es : List Event) (xs ys : List Line) → Opens es xs → Opens es ys → Among xs ys
same_opens_in es xs ys f g i h =
    let a = f.each i h in
    let k = g.all (line_at xs i).cell (line_at xs i).step a.hit in
    let b = g.each k.0 k.1.0 in
    let b' : IsFirst es (line_at xs i).cell (line_at ys k.0).step = rw k.1.1 at b in
    let s : (line_at ys k.0).step ≡ (line_at xs i).step = one_first es (line_at xs i).cell (line_at ys k.0).step (line_at xs i).step b' a in
    (k.0, k.1.0, λ z. record { cell = k.1.1 z; step = s z })

pub same_opens : (es : List Event) (xs ys : List Line) → Opens es xs → Opens es ys → xs ≡ ys
same_opens es xs ys f g = same_lines xs ys f.rising g.rising (same_opens_in es xs ys f g) (same_opens_in es ys xs g f)

-- a touch is inside the run
pub touch_inside : (es : List Event) (c s : ℕ) → touches es c s ≡ true → (1 ≤ s) × (s ≤ length es)
touch_inside es c zero e = absurd (cc)
touch_inside es c (suc i) e = elim (cases_lt i (length es)) [
  | inl h ↦ (omega arith, h)
  | inr h ↦
      let d : get_or es i quiet ≡ quiet = get_or-eq_default es quiet h in
      absurd (cc)
]

-- what `openings` has of the steps up to t
record Opened (es : List Event) (t : ℕ) (ls : List Line) : Type 0 where
  rises : Rises ls
  each : Every (λ l. IsFirst es l.cell l.step) ls
  all : (c s : ℕ) → s ≤ t → touches es c s ≡ true → Has c ls

-- a step that touches nothing
opened_same : (es : List Event) (t : ℕ) (ls : List Line) → Opened es t ls → ((c : ℕ) → touches es c (suc t) ≡ false) → Opened es (suc t) ls
opened_same es t ls o f = record {
  rises = o.rises;
  each = o.each;
  all = λ c s h e. elim (cases_lt t s) [
    | inl l ↦
        let z : s ≡ suc t = omega arith in
        let n = f c in
        absurd (cc)
    | inr l ↦ o.all c s l e
  ];
}

opened_more : (es : List Event) (t : ℕ) (ls : List Line) → Opened es t ls → (v : Event) → event_at es (suc t) ≡ v → Opened es (suc t) (open_for (suc t) v ls)
opened_more es t ls o quiet e = opened_same es t ls o (λ c. ap (hits c) e)
opened_more es t ls o (word w) e = opened_same es t ls o (λ c. ap (hits c) e)
opened_more es t ls o ended e = opened_same es t ls o (λ c. ap (hits c) e)
opened_more es t ls o (touch d a) e = record {
  rises = rises_add d (suc t) ls o.rises;
  each = every_add (λ l. IsFirst es l.cell l.step) d (suc t) ls o.rises o.each
      (λ n. record {
        hit = ap (hits d) e ∙ eq-eqb d d refl;
        none = λ u l. false_from_ne_true (touches es d u) (λ x. n (o.all d u (omega arith) x));
      });
  all = λ c s h x. elim (cases_lt t s) [
    | inl l ↦
        let z : s ≡ suc t = omega arith in
        let y : eqb d c ≡ true = cc in
        let same : d ≡ c = eqb-true d c y in
        rw (← same) (has_add d (suc t) ls)
    | inr l ↦ has_keep c d (suc t) ls (o.all c s l x)
  ];
}

opened : (es : List Event) (t : ℕ) → Opened es t (openings es t)
opened es zero = record {
  rises = tt;
  each = tt;
  all = λ c s h e. let k = touch_inside es c s e in absurd (omega arith);
}
opened es (suc t) = opened_more es t (openings es t) (opened es t) (event_at es (suc t)) refl

pub log_opens : (es : List Event) → Opens es (log_lines es)
log_opens es =
    let o = opened es (length es) in
    record {
      rising = rises_at (log_lines es) o.rises;
      each = every_at (λ l. IsFirst es l.cell l.step) (log_lines es) o.each;
      all = λ c s e. has_at c (log_lines es) (o.all c s (touch_inside es c s e).1 e);
    }
