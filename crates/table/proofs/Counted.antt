-- The head counts the lists, and every number is a word.
-- Assumes nothing.
use Rattle.std.proofs.Common.{◌≡◌, ℕ, ◌^◌, ◌<◌, ltb, List, [], ◌∷◌, map, length, Some, None, Ok, Option, sym, refl, ◌∙◌, mod-lt, arith, ltb-true}
use Rattle.std.proofs.lemmas.List.{length-map}
use Rattle.std.proofs.lemmas.Bool.{cond_both}
use Rattle.encoding.specs.declared.instruction.Instruction.{Instruction}
use Rattle.dossier.specs.declared.record.Head.{Head}
use Rattle.dossier.specs.declared.record.Row.{Row}
use Rattle.dossier.specs.declared.record.Row.TheVariants.{Plain, FromLine, FromStep, Advice, AdviceEnd}
use Rattle.dossier.specs.Meaning.{ItemFits, Each, Listed, Made}
use Rattle.dossier.specs.Numbers.{Fit, head_numbers, instruction_numbers, word_numbers, line_numbers, row_numbers}
use Rattle.index.specs.declared.entry.CellEntry.{CellEntry}
use Rattle.table.specs.Held.{word, instruction_words, line_of, row_words, head_of, held, table_meaning}

fits : (n : ℕ) → word n < 2 ^ 32
fits n = mod-lt n (omega arith)

row_fits : (r : Row) → Fit row_numbers (row_words r)
row_fits Plain = (omega arith, (omega arith, (omega arith, (omega arith, (omega arith, (omega arith, tt))))))
row_fits (FromLine t) = (omega arith, (fits t.cell, (fits t.before, (fits t.after, (fits t.origin, (fits t.next, tt))))))
row_fits (FromStep t) = (omega arith, (fits t.cell, (fits t.before, (fits t.after, (fits t.origin, (fits t.next, tt))))))
row_fits (Advice w) = (omega arith, (fits w, (omega arith, (omega arith, (omega arith, (omega arith, tt))))))
row_fits AdviceEnd = (omega arith, (omega arith, (omega arith, (omega arith, (omega arith, (omega arith, tt))))))

each_fits : {X R : Type 0} (f : X → R) (numbers : R → List ℕ) → ((x : X) → Fit numbers (f x)) → (xs : List X) →
    Each (ItemFits numbers) (map Ok (map f xs))
each_fits f numbers h [] = tt
each_fits f numbers h (x ∷ xs) = (h x, each_fits f numbers h xs)

list_made : {X R : Type 0} (f : X → R) (numbers : R → List ℕ) (count : Head → ℕ) → ((x : X) → Fit numbers (f x)) → (h : Head) (xs : List X) →
    count h ≡ length xs → Listed (Ok h) count numbers (map Ok (map f xs))
list_made f numbers count fit h xs e = record {
  counts = length-map (map f xs) Ok ∙ length-map xs f ∙ sym e;
  fits = each_fits f numbers fit xs;
}

module _ (b : ℕ) (p : List Instruction) (ws : List ℕ) (cs : List CellEntry) (rs : List Row) (small : b < 2 ^ 32) where
  record Counts (h : Head) : Type 0 where
    instructions : h.instructions ≡ length p
    words : h.words ≡ length ws
    lines : h.lines ≡ length cs
    rows : h.rows ≡ length rs
    fit : Fit head_numbers h

  abbrev Held : Option Head → Type 0
  Held None = Unit {0}
  Held (Some h) = Counts h

  counted : Held (head_of b p ws cs rs)
  counted =
      cond_both (ltb (length p) (2 ^ 32)) _ None Held (λ i.
      cond_both (ltb (length ws) (2 ^ 32)) _ None Held (λ j.
      cond_both (ltb (length cs) (2 ^ 32)) _ None Held (λ k.
      cond_both (ltb (length rs) (2 ^ 32)) _ None Held (λ l.
      record {
        instructions = refl;
        words = refl;
        lines = refl;
        rows = refl;
        fit = (omega (arith, ltb-true), (omega (arith, ltb-true), (omega (arith, ltb-true), (omega (arith, ltb-true), (small, tt)))));
      }) (λ _. tt)) (λ _. tt)) (λ _. tt)) (λ _. tt)

  made_held : (h : Option Head) → Held h → Made (held h p ws cs rs)
  made_held None x = record {
    head = omega arith;
    instructions = record { counts = refl; fits = tt };
    words = record { counts = refl; fits = tt };
    lines = record { counts = refl; fits = tt };
    rows = record { counts = refl; fits = tt };
  }
  made_held (Some h) x = record {
    head = x.fit;
    instructions = list_made instruction_words instruction_numbers (λ u. u.instructions) (λ i. (fits i.first, (fits i.second, tt))) h p x.instructions;
    words = list_made word word_numbers (λ u. u.words) (λ n. (fits n, tt)) h ws x.words;
    lines = list_made line_of line_numbers (λ u. u.lines) (λ e. (fits e.cell, (fits e.first, tt))) h cs x.lines;
    rows = list_made row_words row_numbers (λ u. u.rows) row_fits h rs x.rows;
  }

  pub made_tables : Made (table_meaning b p ws cs rs)
  made_tables = made_held (head_of b p ws cs rs) counted
