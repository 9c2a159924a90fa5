-- What the entries say of memory after one more step.
-- Assumes nothing.
use Rattle.std.proofs.Common.{◌≡◌, ℕ, suc, ◌<◌, cond, eqb, sym, ap, ◌∙◌, inl, inr, arith}
use Rattle.std.proofs.lemmas.Bool.{cases_lt, cases_eq, eq-eqb, ne_eqb}
use Rattle.index.specs.declared.entry.CellEntry.{CellEntry}
use Rattle.runner.specs.Sofar.{Holds}

pub holds_same : {mem mem' : ℕ → ℕ} {n : ℕ} {ent : ℕ → CellEntry} → Holds mem n ent → ((d : ℕ) → mem' d ≡ mem d) → Holds mem' n ent
holds_same {ent = ent} h e = record { held = λ k l. e (ent k).cell ∙ h.held k l; clear = λ c f. e c ∙ h.clear c f }

-- cell c gets the value a
module _ (mem mem' : ℕ → ℕ) (c a : ℕ) (put : (d : ℕ) → mem' d ≡ cond (eqb c d) a (mem d)) where
  at_cell : (d : ℕ) → c ≡ d → mem' d ≡ a
  at_cell d e = put d ∙ ap (λ b. cond b a (mem d)) (eq-eqb c d e)

  off_cell : (d : ℕ) → (c ≡ d → ⊥) → mem' d ≡ mem d
  off_cell d f = put d ∙ ap (λ b. cond b a (mem d)) (ne_eqb c d f)

  pub holds_first : {n : ℕ} {ent ent' : ℕ → CellEntry} → Holds mem n ent → ((k : ℕ) → k < n → (ent k).cell ≡ c → ⊥) → ((k : ℕ) → k < n → ent' k ≡ ent k) → (ent' n).cell ≡ c → (ent' n).value ≡ a →
      Holds mem' (suc n) ent'
  holds_first {n = n} {ent = ent} {ent' = ent'} h absent same cell value = record {
    held = λ k l. elim (cases_lt k n) [
      | inl b ↦
          let e = same k b in
          ap (λ u. mem' u.cell) e ∙ off_cell (ent k).cell (λ z. absent k b (sym z)) ∙ h.held k b ∙ ap (λ u. u.value) (sym e)
      | inr b ↦
          let z : k ≡ n = omega arith in
          at_cell (ent' k).cell (sym (ap (λ u. (ent' u).cell) z ∙ cell)) ∙ sym (ap (λ u. (ent' u).value) z ∙ value)
    ];
    clear = λ d f.
        off_cell d (λ z. f n (omega arith) (cell ∙ z)) ∙ h.clear d (λ k l q. f k (omega arith) (ap (λ u. u.cell) (same k l) ∙ q));
  }

  pub holds_later : {n : ℕ} {ent ent' : ℕ → CellEntry} → Holds mem n ent → (k : ℕ) → k < n → (ent k).cell ≡ c → ((i j : ℕ) → i < n → j < n → (ent i).cell ≡ (ent j).cell → i ≡ j) →
      ((i : ℕ) → i < n → (i ≡ k → ⊥) → ent' i ≡ ent i) → (ent' k).cell ≡ c → (ent' k).value ≡ a → Holds mem' n ent'
  holds_later {n = n} {ent = ent} {ent' = ent'} h k old at apart same cell value = record {
    held = λ i l. elim (cases_eq i k) [
      | inl z ↦ at_cell (ent' i).cell (sym (ap (λ u. (ent' u).cell) z ∙ cell)) ∙ sym (ap (λ u. (ent' u).value) z ∙ value)
      | inr z ↦
          let e = same i l z in
          ap (λ u. mem' u.cell) e ∙ off_cell (ent i).cell (λ w. z (apart i k l old (sym w ∙ sym at))) ∙ h.held i l ∙ ap (λ u. u.value) (sym e)
    ];
    clear = λ d f.
        off_cell d (λ z. f k old (cell ∙ z)) ∙ h.clear d (λ i l q. elim (cases_eq i k) [
          | inl z ↦ f k old (cell ∙ sym at ∙ ap (λ u. (ent u).cell) (sym z) ∙ q)
          | inr z ↦ f i l (ap (λ u. u.cell) (same i l z) ∙ q)
        ]);
  }
