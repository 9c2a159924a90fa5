-- One more step of a run.
-- Assumes nothing.
use Rattle.std.proofs.Common.{◌≡◌, ℕ, suc, ◌<◌, ◌≤◌, ◌⊎◌, sym, refl, ap, ◌∙◌, subst, inl, inr, arith}
use Rattle.std.proofs.lemmas.Bool.{cases_lt, cases_eq}
use Rattle.dossier.specs.declared.record.Row.{Row}
use Rattle.dossier.specs.declared.record.Row.TheVariants.{Plain, FromLine, FromStep, Advice, AdviceEnd}
use Rattle.dossier.specs.declared.record.Touch.{Touch}
use Rattle.run_log.specs.Log.{Event, event_of}
use Rattle.run_log.specs.Rules.{kind_of, touch_of, IsTouch}
use Rattle.index.specs.declared.entry.CellEntry.{CellEntry}
use Rattle.runner.specs.Sofar.{link_to, FirstRow, LaterRow, NextRow, OpenAt, LastAt, Sofar}

-- what a link to the next touch leaves
pub record Same (r s : Row) : Type 0 where
  pub kind : kind_of s ≡ kind_of r
  pub cell : (touch_of s).cell ≡ (touch_of r).cell
  pub before : (touch_of s).before ≡ (touch_of r).before
  pub after : (touch_of s).after ≡ (touch_of r).after
  pub origin : (touch_of s).origin ≡ (touch_of r).origin
  pub event : event_of s ≡ event_of r

pub same : (r : Row) → Same r r
same r = record { kind = refl; cell = refl; before = refl; after = refl; origin = refl; event = refl }

pub link_same : (n : ℕ) (r : Row) → Same r (link_to n r)
link_same n Plain = same Plain
link_same n (FromLine x) = record { kind = refl; cell = refl; before = refl; after = refl; origin = refl; event = refl }
link_same n (FromStep x) = record { kind = refl; cell = refl; before = refl; after = refl; origin = refl; event = refl }
link_same n (Advice w) = same (Advice w)
link_same n AdviceEnd = same AdviceEnd

pub link_next : (n : ℕ) (r : Row) → IsTouch r → (touch_of (link_to n r)).next ≡ n
link_next n Plain h = absurd (omega arith)
link_next n (FromLine x) h = refl
link_next n (FromStep x) h = refl
link_next n (Advice w) h = absurd (omega arith)
link_next n AdviceEnd h = absurd (omega arith)

-- a new row T + 1, and one row p without a next, linked on to it
pub record Stepped (ev : ℕ → Event) (T p n n' : ℕ) (row row' : ℕ → Row) (ent ent' : ℕ → CellEntry) : Type 0 where
  pub kept : (t : ℕ) → (t ≡ suc T → ⊥) → Same (row t) (row' t)
  pub next : (t : ℕ) → (t ≡ suc T → ⊥) → (t ≡ p → ⊥) → (touch_of (row' t)).next ≡ (touch_of (row t)).next
  pub end : (touch_of (row p)).next ≡ 0
  pub grown : n ≤ n'
  pub ents : (k : ℕ) → k < n → ((ent' k).cell ≡ (ent k).cell) × ((ent' k).first ≡ (ent k).first)
  pub event : event_of (row' (suc T)) ≡ ev T

module _ {ev : ℕ → Event} {T n : ℕ} {row : ℕ → Row} {ent : ℕ → CellEntry} (h : Sofar ev T n row ent) where
  -- WHAT STAYS

  module _ {p n' : ℕ} {row' : ℕ → Row} {ent' : ℕ → CellEntry} (st : Stepped ev T p n n' row row' ent ent') where
    shown_new : (i : ℕ) → i < suc T → event_of (row' (suc i)) ≡ ev i
    shown_new i l = elim (cases_lt i T) [
      | inl a ↦ (st.kept (suc i) (λ z. omega arith)).event ∙ h.shown i a
      | inr a ↦ let z : i ≡ T = omega arith in rw z st.event
    ]

    firsts_old : (t : ℕ) → t ≤ T → kind_of (row' t) ≡ 1 → FirstRow n' ent' t (touch_of (row' t))
    firsts_old t l k =
        let s = st.kept t (omega arith) in
        let f = h.firsts t l (sym s.kind ∙ k) in
        let q = st.ents (touch_of (row t)).origin f.old in
        record { old = omega (arith, st.grown); cell = cc; first = cc; zero = s.before ∙ f.zero }

    laters_old : (t : ℕ) → t ≤ T → kind_of (row' t) ≡ 2 → LaterRow row' t (touch_of (row' t))
    laters_old t l k =
        let s = st.kept t (omega arith) in
        let f = h.laters t l (sym s.kind ∙ k) in
        let o = (touch_of (row t)).origin in
        let so = st.kept o (omega (arith, f.earlier)) in
        let nx : (touch_of (row' o)).next ≡ (touch_of (row o)).next =
        st.next o (omega (arith, f.earlier)) (λ z. let y : (touch_of (row o)).next ≡ 0 = ap (λ u. (touch_of (row u)).next) z ∙ st.end in omega (arith, f.next, f.earlier)) in
        let R : ℕ → Type 0 = λ u. LaterRow row' t (record { cell = (touch_of (row' t)).cell; before = (touch_of (row' t)).before; after = (touch_of (row' t)).after; origin = u; next = (touch_of (row' t)).next }) in
        subst R (sym s.origin) (record {
          earlier = f.earlier;
          touch = (omega (arith, f.touch.0, so.kind), omega (arith, f.touch.1, so.kind));
          cell = so.cell ∙ f.cell ∙ sym s.cell;
          after = so.after ∙ f.after ∙ sym s.before;
          next = nx ∙ f.next;
        })

    nexts_old : (t : ℕ) → t ≤ T → (t ≡ p → ⊥) → IsTouch (row' t) → ((touch_of (row' t)).next ≡ 0) ⊎ NextRow (suc T) row' t (touch_of (row' t)).next
    nexts_old t l ne x =
        let s = st.kept t (omega arith) in
        let e = st.next t (omega arith) ne in
        elim (h.nexts t l (omega (arith, x.0, s.kind), omega (arith, x.1, s.kind))) [
          | inl z ↦ inl (e ∙ z)
          | inr z ↦
              let sn = st.kept (touch_of (row t)).next (omega (arith, z.done)) in
              inr (rw e (record { above = z.above; done = omega (arith, z.done); kind = sn.kind ∙ z.kind; back = sn.origin ∙ z.back }))
        ]

    opens_old : (k : ℕ) → k < n → OpenAt (suc T) row' k (ent' k).first
    opens_old k l =
        let o = h.opens k l in
        let s = st.kept (ent k).first (omega (arith, o.done)) in
        rw (st.ents k l).1 (record { done = omega (arith, o.done); kind = s.kind ∙ o.kind; back = s.origin ∙ o.back })

    lasts_old : (k : ℕ) → k < n → ent' k ≡ ent k → ((ent k).last ≡ p → ⊥) → LastAt (suc T) row' (ent' k) (ent' k).last
    lasts_old k l e ne =
        let o = h.lasts k l in
        let s = st.kept (ent k).last (omega (arith, o.done)) in
        rw e (record {
          done = omega (arith, o.done);
          touch = (omega (arith, o.touch.0, s.kind), omega (arith, o.touch.1, s.kind));
          cell = s.cell ∙ o.cell;
          after = s.after ∙ o.after;
          next = st.next (ent k).last (omega (arith, o.done)) ne ∙ o.next;
        })

    -- A STEP THAT TOUCHES NOTHING

    pub quiet_step : p ≡ 0 → kind_of (row 0) ≡ 0 → (IsTouch (row' (suc T)) → ⊥) → n' ≡ n → ((k : ℕ) → k < n → ent' k ≡ ent k) → Sofar ev (suc T) n' row' ent'
    quiet_step none base plain same-n same-ent = record {
      shown = shown_new;
      firsts = λ t l k. elim (cases_lt T t) [
        | inl a ↦ let z : t ≡ suc T = omega arith in let y : kind_of (row' (suc T)) ≡ 1 = ap (λ u. kind_of (row' u)) (sym z) ∙ k in absurd (plain (omega arith, omega arith))
        | inr a ↦ firsts_old t a k
      ];
      laters = λ t l k. elim (cases_lt T t) [
        | inl a ↦ let z : t ≡ suc T = omega arith in let y : kind_of (row' (suc T)) ≡ 2 = ap (λ u. kind_of (row' u)) (sym z) ∙ k in absurd (plain (omega arith, omega arith))
        | inr a ↦ laters_old t a k
      ];
      nexts = λ t l x. elim (cases_lt T t) [
        | inl a ↦ let z : t ≡ suc T = omega arith in absurd (plain (rw z at x))
        | inr a ↦ nexts_old t a
            (λ z. let y : kind_of (row t) ≡ 0 = ap (λ u. kind_of (row u)) (z ∙ none) ∙ base in let s = st.kept t (omega arith) in omega (arith, s.kind, x.0)) x
      ];
      opens = λ k l. opens_old k (omega arith);
      lasts = λ k l. let o = h.lasts k (omega arith) in lasts_old k (omega arith) (same-ent k (omega arith))
          (λ z. let y : kind_of (row (ent k).last) ≡ 0 = ap (λ u. kind_of (row u)) (z ∙ none) ∙ base in omega (arith, o.touch.0));
    }

    -- A FIRST TOUCH

    pub first_step : (x : Touch) → ((k : ℕ) → k < n → (ent k).cell ≡ x.cell → ⊥) → p ≡ 0 → kind_of (row 0) ≡ 0 → row' (suc T) ≡ FromLine x → x.before ≡ 0 → x.origin ≡ n → x.next ≡ 0 → n' ≡ suc n →
        ((k : ℕ) → k < n → ent' k ≡ ent k) → ent' n ≡ record { cell = x.cell; first = suc T; last = suc T; value = x.after } → Sofar ev (suc T) n' row' ent'
    first_step x absent none base new zero number end more same-ent new-ent = record {
      shown = shown_new;
      firsts = λ t l k. elim (cases_lt T t) [
        | inl a ↦ let z : t ≡ suc T = omega arith in rw (z, new, number) (record { old = omega arith; cell = ap (λ e. e.cell) new-ent; first = ap (λ e. e.first) new-ent; zero = zero })
        | inr a ↦ firsts_old t a k
      ];
      laters = λ t l k. elim (cases_lt T t) [
        | inl a ↦ let z : t ≡ suc T = omega arith in let y : ◌≡◌ {A = ℕ} 1 2 = sym (ap kind_of new) ∙ ap (λ u. kind_of (row' u)) (sym z) ∙ k in absurd (omega arith)
        | inr a ↦ laters_old t a k
      ];
      nexts = λ t l y. elim (cases_lt T t) [
        | inl a ↦ let z : t ≡ suc T = omega arith in inl (rw (z, new) end)
        | inr a ↦ nexts_old t a
            (λ z. let w : kind_of (row t) ≡ 0 = ap (λ u. kind_of (row u)) (z ∙ none) ∙ base in let s = st.kept t (omega arith) in omega (arith, s.kind, y.0)) y
      ];
      opens = λ k l. elim (cases_lt k n) [
        | inl a ↦ opens_old k a
        | inr a ↦ let z : k ≡ n = omega arith in rw (z, new-ent) (record { done = omega arith; kind = ap kind_of new; back = ap (λ r. (touch_of r).origin) new ∙ number })
      ];
      lasts = λ k l. elim (cases_lt k n) [
        | inl a ↦ let o = h.lasts k a in lasts_old k a (same-ent k a)
            (λ z. let w : kind_of (row (ent k).last) ≡ 0 = ap (λ u. kind_of (row u)) (z ∙ none) ∙ base in omega (arith, o.touch.0))
        | inr a ↦
            let z : k ≡ n = omega arith in
            rw (z, new-ent) (record {
              done = omega arith;
              touch = rw new (omega arith, omega arith);
              cell = ap (λ r. (touch_of r).cell) new;
              after = ap (λ r. (touch_of r).after) new;
              next = ap (λ r. (touch_of r).next) new ∙ end;
            })
      ];
    }

    -- A LATER TOUCH

    pub later_step : (x : Touch) (k : ℕ) → k < n → p ≡ (ent k).last → row' (suc T) ≡ FromStep x → x.cell ≡ (ent k).cell → x.before ≡ (ent k).value → x.origin ≡ p → x.next ≡ 0 →
        (touch_of (row' p)).next ≡ suc T → n' ≡ n → ((i j : ℕ) → i < n → j < n → (ent i).cell ≡ (ent j).cell → i ≡ j) →
        ((i : ℕ) → i < n → (i ≡ k → ⊥) → ent' i ≡ ent i) → ent' k ≡ record { cell = (ent k).cell; first = (ent k).first; last = suc T; value = x.after } → Sofar ev (suc T) n' row' ent'
    later_step x k old at_p new cell before from end linked same-n apart others this =
        let o = h.lasts k old in
        let under : p ≤ T = omega (arith, o.done) in
        let sp = st.kept p (omega arith) in
        record {
          shown = shown_new;
          firsts = λ t l e. elim (cases_lt T t) [
            | inl a ↦ let z : t ≡ suc T = omega arith in let y : ◌≡◌ {A = ℕ} 2 1 = sym (ap kind_of new) ∙ ap (λ u. kind_of (row' u)) (sym z) ∙ e in absurd (omega arith)
            | inr a ↦ firsts_old t a e
          ];
          laters = λ t l e. elim (cases_lt T t) [
            | inl a ↦
                let z : t ≡ suc T = omega arith in
                rw (z, new, from) (record {
                  earlier = omega arith;
                  touch = (omega (arith, ap (λ u. kind_of (row u)) at_p, o.touch.0, sp.kind), omega (arith, ap (λ u. kind_of (row u)) at_p, o.touch.1, sp.kind));
                  cell = sp.cell ∙ ap (λ u. (touch_of (row u)).cell) at_p ∙ o.cell ∙ sym cell;
                  after = sp.after ∙ ap (λ u. (touch_of (row u)).after) at_p ∙ o.after ∙ sym before;
                  next = linked;
                })
            | inr a ↦ laters_old t a e
          ];
          nexts = λ t l y. elim (cases_lt T t) [
            | inl a ↦ let z : t ≡ suc T = omega arith in inl (rw (z, new) end)
            | inr a ↦ elim (cases_eq t p) [
              | inl z ↦ inr (rw (z, linked) (record { above = omega arith; done = omega arith; kind = ap kind_of new; back = ap (λ r. (touch_of r).origin) new ∙ from }))
              | inr z ↦ nexts_old t a z y
            ]
          ];
          opens = λ i l. opens_old i (omega arith);
          lasts = λ i l. elim (cases_eq i k) [
            | inl z ↦ rw (z, this) (record {
              done = omega arith;
              touch = rw new (omega arith, omega arith);
              cell = ap (λ r. (touch_of r).cell) new ∙ cell;
              after = ap (λ r. (touch_of r).after) new;
              next = ap (λ r. (touch_of r).next) new ∙ end;
            })
            | inr z ↦
                let q = h.lasts i (omega arith) in
                lasts_old i (omega arith) (others i (omega arith) z)
                (λ w. z (apart i k (omega arith) old (sym q.cell ∙ ap (λ u. (touch_of (row u)).cell) (w ∙ at_p) ∙ o.cell)))
          ];
        }
