-- One more step of a run, in the tables.
-- Assumes nothing.
use Rattle.std.proofs.Common.{◌≡◌, ℕ, zero, suc, ◌+◌, ◌-◌, ◌<◌, ◌≤◌, cond, eqb, List, length, get_or, set, sym, refl, ap, ◌∙◌, subst, inl, inr, add-one, arith}
use Rattle.std.proofs.lemmas.List.{get_or_default, get_or-set_same, get_or-set_other, length-set}
use Rattle.std.proofs.lemmas.Bool.{cases_eq}
use Rattle.dossier.specs.declared.record.Row.{Row}
use Rattle.dossier.specs.declared.record.Row.TheVariants.{Plain, FromLine, FromStep}
use Rattle.dossier.specs.declared.record.Touch.{Touch}
use Rattle.run_log.specs.Log.{Event, event_of}
use Rattle.run_log.specs.Log as log
use Rattle.run_log.specs.Rules.{row_at, touch_of, IsTouch}
use Rattle.index.specs.declared.entry.CellEntry.{CellEntry}
use Rattle.index.specs.declared.tree.Index.{Index}
use Rattle.index.specs.Tree.{none, cell_of}
use Rattle.index.specs.Map.{Keeps, RoomFor}
use Rattle.runner.specs.Sofar.{link_to, Other}
use Rattle.runner.specs.Filling.{entry_at, Filling, Beyond}
use Rattle.runner.proofs.Memory.{holds_same, holds_first, holds_later}
use Rattle.runner.proofs.Steps.{Same, same, link_same, link_next, quiet_step, first_step, later_step}

pub beyond_set : {X : Type 0} (n : ℕ) (xs : List X) (i : ℕ) (y : X) → i < n → Beyond n xs (set xs i y)
beyond_set n xs i y l = record { long = length-set xs i y; same = λ k d h. get_or-set_other xs i k y d (λ z. omega arith) }

pub beyond_trans : {X : Type 0} {n m : ℕ} {xs ys zs : List X} → n ≤ m → Beyond n xs ys → Beyond m ys zs → Beyond m xs zs
beyond_trans l f g = record { long = g.long ∙ f.long; same = λ k d h. g.same k d h ∙ f.same k d (omega arith) }

pub row_here : (rows : List Row) (i : ℕ) (r : Row) → i < length rows → row_at (set rows i r) (suc i) ≡ r
row_here rows i r l = get_or-set_same rows i r Plain l

pub row_there : (rows : List Row) (i t : ℕ) (r : Row) → (t ≡ suc i → ⊥) → row_at (set rows i r) t ≡ row_at rows t
row_there rows i zero r ne = refl
row_there rows i (suc u) r ne = get_or-set_other rows i u r Plain (λ z. ne (ap suc z))

-- a row by its step
pub row_by : (rows : List Row) (t : ℕ) → 1 ≤ t → row_at rows t ≡ get_or rows (t - 1) Plain
row_by rows t l = let e : suc (t - 1) ≡ t = omega arith in let P : ℕ → Type 0 = λ u. row_at rows u ≡ get_or rows (t - 1) Plain in subst P e refl

-- a touch's step is at least 1
pub touch_pos : (rows : List Row) (t : ℕ) → IsTouch (row_at rows t) → 1 ≤ t
touch_pos rows zero h = absurd (omega arith)
touch_pos rows (suc i) h = omega arith

module _ {ev : ℕ → Event} {mem : ℕ → ℕ} {B T n : ℕ} {x : Index} {rows : List Row} {cells : List CellEntry} (h : Filling ev mem B T n x rows cells) (more : T < B) where
  same_rows : (r : Row) (t : ℕ) → (t ≡ suc T → ⊥) → Same (row_at rows t) (row_at (set rows T r) t)
  same_rows r t ne = rw (row_there rows T t r ne) (same (row_at rows t))

  pub other_filled : (mem' : ℕ → ℕ) (r : Row) → Other r → event_of r ≡ ev T → ((d : ℕ) → mem' d ≡ mem d) → Filling ev mem' B (T + 1) n x (set rows T r) cells
  other_filled mem' r other event same = rw add-one (record {
    sofar = quiet_step h.sofar (record {
      kept = same_rows r;
      next = λ t a b. ap (λ u. (touch_of u).next) (row_there rows T t r a);
      end = refl;
      grown = omega arith;
      ents = λ k l. (refl, refl);
      event = ap event_of (row_here rows T r (omega (arith, h.row_room))) ∙ event;
    }) refl refl (rw (row_here rows T r (omega (arith, h.row_room))) other) refl (λ k l. refl);
    holds = holds_same h.holds same;
    keeps = h.keeps;
    room = h.room;
    few = omega (arith, h.few);
    row_room = simp length-set h.row_room;
    cell_room = h.cell_room;
    short = h.short;
  })

  -- the last touch of entry k
  pub last_touch : (k : ℕ) → k < n → (1 ≤ (entry_at cells k).last) × ((entry_at cells k).last ≤ T)
  last_touch k l = let o = h.sofar.lasts k l in (touch_pos rows (entry_at cells k).last o.touch, o.done)

  pub first_filled : (mem' : ℕ → ℕ) (r : Touch) (x' : Index) → ((k : ℕ) → k < n → cell_of cells k ≡ r.cell → ⊥) → r.before ≡ 0 → r.origin ≡ n → r.next ≡ 0 → log.touch r.cell r.after ≡ ev T →
      (e : CellEntry) → e ≡ record { cell = r.cell; first = suc T; last = suc T; value = r.after } →
      ((d : ℕ) → mem' d ≡ cond (eqb r.cell d) r.after (mem d)) →
      Keeps x' (set cells n e) (n + 1) → RoomFor x' B → Filling ev mem' B (T + 1) (n + 1) x' (set rows T (FromLine r)) (set cells n e)
  first_filled mem' r x' absent clear number end event e is put keeps room = rw add-one (record {
    sofar = rw add-one (first_step h.sofar (record {
      kept = same_rows (FromLine r);
      next = λ t a b. ap (λ u. (touch_of u).next) (row_there rows T t (FromLine r) a);
      end = refl;
      grown = omega arith;
      ents = λ k l. (ap (λ e. e.cell) (old k l), ap (λ e. e.first) (old k l));
      event = ap event_of here ∙ event;
    }) r absent refl refl here clear number end refl old new);
    holds = rw add-one (holds_first mem mem' r.cell r.after put h.holds absent old (ap (λ u. u.cell) new) (ap (λ u. u.value) new));
    keeps = keeps;
    room = room;
    few = omega (arith, h.few);
    row_room = simp length-set h.row_room;
    cell_room = simp length-set h.cell_room;
    short = h.short;
  })
    where
      here : row_at (set rows T (FromLine r)) (suc T) ≡ FromLine r
      here = row_here rows T (FromLine r) (omega (arith, h.row_room))

      old : (k : ℕ) → k < n → entry_at (set cells n e) k ≡ entry_at cells k
      old k l = get_or-set_other cells n k e none (λ z. omega arith)

      new : entry_at (set cells n e) n ≡ record { cell = r.cell; first = suc T; last = suc T; value = r.after }
      new = get_or-set_same cells n e none (omega (arith, h.few, h.cell_room)) ∙ is

  module _ (r : Touch) (k p : ℕ) (old : k < n) (p-is : p ≡ (entry_at cells k).last) (q d : Row) (q-is : q ≡ link_to (T + 1) (get_or (set rows T (FromStep r)) (p - 1) d)) (e : CellEntry)
      (e-is : e ≡ record { cell = cell_of cells k; first = (entry_at cells k).first; last = suc T; value = r.after }) where
    p_in : (1 ≤ p) × (p ≤ T)
    p_in = let o = last_touch k old in (omega arith, omega arith)

    abbrev rows2 : List Row
    rows2 = set (set rows T (FromStep r)) (p - 1) q

    step_p : suc (p - 1) ≡ p
    step_p = omega (arith, p_in)

    at_p : row_at rows2 p ≡ q
    at_p = let P : ℕ → Type 0 = λ u. row_at rows2 u ≡ q in
        subst P step_p (row_here (set rows T (FromStep r)) (p - 1) q (simp length-set (omega (arith, p_in, h.row_room))))

    others : (t : ℕ) → (t ≡ suc T → ⊥) → (t ≡ p → ⊥) → row_at rows2 t ≡ row_at rows t
    others t a b = row_there (set rows T (FromStep r)) (p - 1) t q (λ z. b (z ∙ step_p)) ∙ row_there rows T t (FromStep r) a

    new : row_at rows2 (suc T) ≡ FromStep r
    new = row_there (set rows T (FromStep r)) (p - 1) (suc T) q (λ z. omega (arith, p_in)) ∙ row_here rows T (FromStep r) (omega (arith, h.row_room))

    q_link : q ≡ link_to (suc T) (row_at rows p)
    q_link =
        let a : get_or (set rows T (FromStep r)) (p - 1) d ≡ get_or (set rows T (FromStep r)) (p - 1) Plain =
        get_or_default (set rows T (FromStep r)) (p - 1) d Plain (simp length-set (omega (arith, p_in, h.row_room))) in
        let b : get_or (set rows T (FromStep r)) (p - 1) Plain ≡ get_or rows (p - 1) Plain = get_or-set_other rows T (p - 1) (FromStep r) Plain (λ z. omega (arith, p_in)) in
        let f : T + 1 ≡ suc T = omega arith in
        q-is ∙ ap (λ u. link_to u (get_or (set rows T (FromStep r)) (p - 1) d)) f ∙ ap (link_to (suc T)) (a ∙ b ∙ sym (row_by rows p p_in.0))

    kept : (t : ℕ) → (t ≡ suc T → ⊥) → Same (row_at rows t) (row_at rows2 t)
    kept t ne = elim (cases_eq t p) [
      | inl z ↦ rw (z, at_p, q_link) (link_same (suc T) (row_at rows p))
      | inr z ↦ rw (others t ne z) (same (row_at rows t))
    ]

    this : entry_at (set cells k e) k ≡ record { cell = cell_of cells k; first = (entry_at cells k).first; last = suc T; value = r.after }
    this = get_or-set_same cells k e none (omega (arith, h.few, h.cell_room)) ∙ e-is

    ents : (i : ℕ) → i < n → ((entry_at (set cells k e) i).cell ≡ (entry_at cells i).cell) × ((entry_at (set cells k e) i).first ≡ (entry_at cells i).first)
    ents i l = elim (cases_eq i k) [
      | inl z ↦ rw z (ap (λ u. u.cell) this, ap (λ u. u.first) this)
      | inr z ↦ let o = get_or-set_other cells k i e none z in (ap (λ u. u.cell) o, ap (λ u. u.first) o)
    ]

    pub later_filled : (mem' : ℕ → ℕ) → r.cell ≡ cell_of cells k → r.before ≡ (entry_at cells k).value → r.origin ≡ p → r.next ≡ 0 →
        log.touch r.cell r.after ≡ ev T → ((d : ℕ) → mem' d ≡ cond (eqb r.cell d) r.after (mem d)) →
        Keeps x (set cells k e) n → Filling ev mem' B (T + 1) n x rows2 (set cells k e)
    later_filled mem' cell before from end event put keeps =
        let touched : IsTouch (row_at rows p) = rw p-is (h.sofar.lasts k old).touch in
        rw add-one (record {
          sofar = later_step h.sofar (record {
            kept = kept;
            next = λ t a b. ap (λ u. (touch_of u).next) (others t a b);
            end = rw p-is (h.sofar.lasts k old).next;
            grown = omega arith;
            ents = ents;
            event = ap event_of new ∙ event;
          }) r k old p-is new cell before from end (ap (λ u. (touch_of u).next) (at_p ∙ q_link) ∙ link_next (suc T) (row_at rows p) touched)
              refl h.keeps.apart (λ i l ne. get_or-set_other cells k i e none ne) this;
          holds = holds_later mem mem' r.cell r.after put h.holds k old (sym cell) h.keeps.apart (λ i l ne. get_or-set_other cells k i e none ne)
              (ap (λ u. u.cell) this ∙ sym cell) (ap (λ u. u.value) this);
          keeps = keeps;
          room = h.room;
          few = omega (arith, h.few);
          row_room = simp (length-set, length-set) h.row_room;
          cell_room = simp length-set h.cell_room;
          short = h.short;
        })
