-- Every log of an accepting run keeps all rules; a run has one log, decided by its advice words.
-- Assumes nothing.
use Rattle.std.proofs.Common.{◌≡◌, ℕ, zero, suc, ◌%◌, ◌<◌, ◌≤◌, true, false, List, [], ◌∷◌, length, sym, refl, ap, ◌∙◌, subst, subst₂, inl, inr, arith}
use Rattle.std.proofs.lemmas.Bool.{cases_lt, cases_order, eqb-true, both_ways}
use Rattle.dossier.specs.declared.record.Row.{Row}
use Rattle.dossier.specs.declared.record.Line.{Line}
use Rattle.run_log.specs.Log.{Event, event_at, hits, Aligned, log_lines, log_rows, row_of}
use Rattle.run_log.specs.Rules.{row_at, kind_of, Linked}
use Rattle.run_log.specs.Run.{Demand, alone, advice, access, answer, Machine, Fourths, Config, heard, tail, shown, unread, asked, after, shown_at, trace, Accepts, Logs}
use Rattle.run_log.specs.Run.{Hears, advice_of, RowFits, Fits, RunComplete, RunUnique, RunLogged}
use Rattle.run_log.proofs.Complete.{complete}
use Rattle.run_log.proofs.Rows.{log_row, length_log}
use Rattle.run_log.proofs.Lines.{touch_inside}
use Rattle.run_log.proofs.Along.{touch_row, Along, along_none, along_more, trace_at, length_trace, heard_misses}
use Rattle.run_log.proofs.RunSound.{run_sound}

heard_end : (initial : ℕ → ℕ) (es : List Event) (t : ℕ) (ws : List ℕ) → kind_of (row_of initial es t (heard ws)) ≡ 4 → ws ≡ []
heard_end initial es t [] e = refl
heard_end initial es t (w ∷ ws) e = absurd (omega arith)

-- an advice row has a word only where the tape does
hears : (initial : ℕ → ℕ) (es : List Event) (rs : List Row) (t : ℕ) (ws : List ℕ) →
    ((ws ≡ [] → ⊥) → (u : ℕ) → u < t → kind_of (row_at rs u) ≡ 4 → ⊥) → Hears rs t (row_of initial es t (heard ws))
hears initial es rs t [] h = tt
hears initial es rs t (w ∷ ws) h = h (λ e. cc)

module _ {S : Type 0} (M : Machine S) (rs : List Row) (ls : List Line) (ws : List ℕ) (l : Logs M rs ls ws) where
  abbrev es : List Event
  es = trace M ws (length rs)

  log : (t : ℕ) → row_at rs t ≡ row_of M.initial es t (event_at es t)
  log t = ap (λ x. row_at x t) l.rows ∙ log_row M.initial es t

  row_at_lem : (i : ℕ) → i < length rs → row_at rs (suc i) ≡ row_of M.initial es (suc i) (shown_at M ws i)
  row_at_lem i h = log (suc i) ∙ ap (row_of M.initial es (suc i)) (trace_at M ws (length rs) i h)

  along : (i : ℕ) → i ≤ length rs → Along M rs es ws i
  along zero h = along_none M rs es ws
  along (suc i) h = along_more M rs es ws i (log (suc i)) (along i (omega arith)) (trace_at M ws (length rs) i h)

  -- an advice end is on an empty tape, and the tape stays empty
  end_shown : (t : ℕ) (d : Demand) (g : Config S) → kind_of (row_of M.initial es t (shown M d g)) ≡ 4 → g.tape ≡ []
  end_shown t alone g e = absurd (omega arith)
  end_shown t advice g e = heard_end M.initial es t g.tape e
  end_shown t (access c) g e = absurd (omega (arith, (touch_row M.initial es t c (M.leaves g.state (g.memory c))).touch.1))
  end_shown t (answer v) g e = absurd (omega arith)

  unread_none : (d : Demand) (g : Config S) → g.tape ≡ [] → unread M d g ≡ []
  unread_none alone g e = e
  unread_none advice g e = ap tail e
  unread_none (access c) g e = e
  unread_none (answer v) g e = e

  stays : (n k : ℕ) → k ≤ n → (after M ws k).tape ≡ [] → (after M ws n).tape ≡ []
  stays zero k h e = let z : k ≡ 0 = omega arith in rw z at e
  stays (suc n) k h e = elim (cases_lt n k) [
    | inl m ↦ let z : k ≡ suc n = omega arith in rw z at e
    | inr m ↦ unread_none (asked M (after M ws n)) (after M ws n) (stays n k m e)
  ]

  no_end : (i : ℕ) → i < length rs → ((after M ws i).tape ≡ [] → ⊥) → (u : ℕ) → u < suc i → kind_of (row_at rs u) ≡ 4 → ⊥
  no_end i h n zero b e = omega arith
  no_end i h n (suc k) b e =
      n (stays i k (omega arith) (end_shown (suc k) (asked M (after M ws k)) (after M ws k) (rw (row_at_lem k (omega arith)) at e)))

  -- a step that does not answer 0 is not the last
  not_last : (i : ℕ) (d : Demand) → i < length rs → asked M (after M ws i) ≡ d → (d ≡ answer 0 → ⊥) → suc i < length rs
  not_last i d h q n = elim (cases_lt (suc i) (length rs)) [
    | inl k ↦ k
    | inr k ↦ absurd (n (sym q ∙ l.accepts.last i (omega arith)))
  ]

  fit : (i : ℕ) → i < length rs → (d : Demand) → asked M (after M ws i) ≡ d →
      RowFits (M.leaves (after M ws i).state) rs (suc i) d (row_of M.initial es (suc i) (shown M d (after M ws i)))
  fit i h alone q = (not_last i alone h q (λ e. cc), refl)
  fit i h advice q = (
    not_last i advice h q (λ e. cc),
    hears M.initial es rs (suc i) (after M ws i).tape (no_end i h),
  )
  fit i h (access c) q =
      let g = after M ws i in
      let k = touch_row M.initial es (suc i) c (M.leaves g.state (g.memory c)) in
      let m = (along i (omega arith)).cells c in (
        not_last i (access c) h q (λ e. cc),
        record { touch = k.touch; cell = k.cell; after = k.after ∙ ap (M.leaves g.state) (m ∙ sym k.before) },
      )
  fit i h (answer v) q = elim (cases_lt (suc i) (length rs)) [
    | inl k ↦ absurd (l.accepts.before i v k q)
    | inr k ↦
        let e : suc i ≡ length rs = omega arith in
        let p = l.accepts.last i e in
        let z : v ≡ 0 = cc in
        (z, (e, refl))
  ]

  fits : Fits M rs
  fits = record {
    some = l.accepts.some;
    each = λ i h.
        subst₂ (λ s r. RowFits (M.leaves s) rs (suc i) (M.asks s) r) (along i (omega arith)).state (sym (row_at_lem i h)) (fit i h (asked M (after M ws i)) refl);
  }

  -- only an access shows a touch
  access_shown : Fourths M → (c : ℕ) (q : Demand) (g : Config S) → asked M g ≡ q → hits c (shown M q g) ≡ true → c % 4 ≡ 0
  access_shown al c alone g e h = absurd (both_ways false refl h)
  access_shown al c advice g e h = absurd (both_ways (hits c (heard g.tape)) (heard_misses c g.tape) h)
  access_shown al c (access b) g e h = ap (λ x. x % 4) (sym (eqb-true b c h)) ∙ al g.state b e
  access_shown al c (answer v) g e h = absurd (both_ways false refl h)

  aligned : Fourths M → Aligned es
  aligned al c zero e = absurd (both_ways false refl e)
  aligned al c (suc i) e =
      let k = touch_inside es c (suc i) e in
      let h : i < length rs = omega (arith, length_trace M ws (length rs)) in
      access_shown al c (asked M (after M ws i)) (after M ws i) refl (ap (hits c) (sym (trace_at M ws (length rs) i h)) ∙ e)

  linked : Fourths M → Linked M.initial rs ls
  linked al = subst₂ (Linked M.initial) (sym l.rows) (sym l.lines) (complete M.initial es (aligned al)).0

pub run_complete : (S : Type 0) → RunComplete S
run_complete S M al rs ls ws l = (linked M rs ls ws l al, fits M rs ls ws l)

-- ONE LOG

module _ {S : Type 0} (M : Machine S) (ws : List ℕ) where
  -- the step that answers is one
  one_end : (m n : ℕ) → Accepts M ws m → Accepts M ws n → m < n → ⊥
  one_end zero n a b h = omega (arith, a.some)
  one_end (suc i) n a b h = b.before i 0 h (a.last i refl)

  pub same_end : (m n : ℕ) → Accepts M ws m → Accepts M ws n → m ≡ n
  same_end m n a b = elim (cases_order m n) [
    | inl e ↦ e
    | inr (inl h) ↦ absurd (one_end m n a b h)
    | inr (inr h) ↦ absurd (one_end n m b a h)
  ]

  pub same_log : (rs rs' : List Row) (ls ls' : List Line) → Logs M rs ls ws → Logs M rs' ls' ws → (rs ≡ rs') × (ls ≡ ls')
  same_log rs rs' ls ls' a b =
      let n = same_end (length rs) (length rs') a.accepts b.accepts in (
        a.rows ∙ ap (λ k. log_rows M.initial (trace M ws k)) n ∙ sym b.rows,
        a.lines ∙ ap (λ k. log_lines (trace M ws k)) n ∙ sym b.lines,
      )

-- a log is one of the run on its own advice words
pub own_advice : {S : Type 0} (M : Machine S) → Fourths M → (rs : List Row) (ls : List Line) (ws : List ℕ) → Logs M rs ls ws → Logs M rs ls (advice_of rs)
own_advice {S} M al rs ls ws l = run_sound S M rs ls (linked M rs ls ws l al) (fits M rs ls ws l)

pub run_unique : (S : Type 0) → RunUnique S
run_unique S M al rs rs' ls ls' ws ws' l l' e =
    same_log M (advice_of rs) rs rs' ls ls' (own_advice M al rs ls ws l) (subst (Logs M rs' ls') (sym e) (own_advice M al rs' ls' ws' l'))

pub run_logged : (S : Type 0) → RunLogged S
run_logged S M ws n a =
    let es = trace M ws n in
    let k : n ≡ length (log_rows M.initial es) = sym (length_log M.initial es ∙ length_trace M ws n) in (
      record {
        rows = ap (λ m. log_rows M.initial (trace M ws m)) k;
        lines = ap (λ m. log_lines (trace M ws m)) k;
        accepts = subst (Accepts M ws) k a;
      },
      sym k,
    )
