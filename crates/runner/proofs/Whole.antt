-- The start, and the whole run.
-- Assumes nothing.
use Rattle.std.proofs.Common.{◌≡◌, ℕ, zero, suc, ◌+◌, ◌%◌, ◌<◌, ◌≤◌, true, false, List, ◌++◌, length, get_or, take, drop, None, Ok, Option, Result, sym, refl, ap, ◌∙◌, subst, inl, inr, arith}
use Rattle.std.proofs.lemmas.List.{take-append-drop, length-take-le, get_or-take, get_or_default, length-drop, get_or-drop, get_or_past, same_lists}
use Rattle.std.proofs.lemmas.Bool.{cases_lt, eqb-true, both_ways}
use Rattle.machine.specs.State.{start}
use Rattle.machine.specs.declared.cpu.Cpu.{Cpu}
use Rattle.dossier.specs.declared.record.Row.{Row}
use Rattle.dossier.specs.declared.record.Row.TheVariants.{Plain}
use Rattle.run_log.specs.Log.{Event, quiet, zeroed, event_at, hits, log_rows, Aligned}
use Rattle.run_log.specs.Rules.{row_at, kind_of}
use Rattle.run_log.specs.Run.{Demand, alone, advice, access, answer, Config, asked, shown, heard}
use Rattle.run_log.proofs.Along.{trace_at, length_trace, heard_misses}
use Rattle.tinyram.proofs.Run.{fourths}
use Rattle.tinyram.specs.Program.{lines_of, events_in}
use Rattle.index.specs.declared.entry.CellEntry.{CellEntry}
use Rattle.index.specs.declared.tree.Index.{Index}
use Rattle.index.specs.Tree.{none}
use Rattle.index.specs.Map.{Keeps, RoomFor}
use Rattle.index.specs.Order.{Arranged}
use Rattle.runner.specs.declared.job.Job.{Job}
use Rattle.runner.specs.declared.ending.Run.{Run}
use Rattle.runner.specs.declared.refusal.RunRefusal.{RunRefusal}
use Rattle.runner.specs.Ending.{ending, steps_in, run_of, log_cells}
use Rattle.runner.specs.Ran.{Answers}
use Rattle.runner.specs.Filling.{Beyond, Filling, machine_of, config_at, event_of_step}
use Rattle.runner.specs.Going.{At}
use Rattle.runner.specs.Label.{first_of, with_line, Openings, Labelled}
use Rattle.runner.proofs.Finish.{openings, rows_are, cells_are, count_is}

-- THE START

no_touch : (rows : List Row) (t : ℕ) → t ≤ 0 → kind_of (row_at rows t) ≡ 0
no_touch rows zero h = refl
no_touch rows (suc i) h = absurd (omega arith)

pub started : (i : Job) (x : Index) (rows : List Row) (cells : List CellEntry) → Keeps x cells 0 → RoomFor x i.bound →
    i.bound ≤ length rows → i.bound ≤ length cells → i.bound ≤ 1000000 → At i 0 0 start i.auxiliary.now x rows cells
started i x rows cells keeps room row_room cell_room short = record {
  state = refl;
  tape = refl;
  filling = record {
    sofar = record {
      shown = λ t a. absurd (omega arith);
      firsts = λ t a k. let z = no_touch rows t a in absurd (omega arith);
      laters = λ t a k. let z = no_touch rows t a in absurd (omega arith);
      nexts = λ t a k. let z = no_touch rows t a in absurd (omega (arith, k.0));
      opens = λ k l. absurd (omega arith);
      lasts = λ k l. absurd (omega arith);
    };
    holds = record { held = λ k l. absurd (omega arith); clear = λ c f. refl };
    keeps = keeps;
    room = room;
    few = omega arith;
    row_room = row_room;
    cell_room = cell_room;
    short = short;
  };
}

-- THE END

same_drop : {X : Type 0} (n : ℕ) (xs ys : List X) → length ys ≡ length xs → ((k : ℕ) (d : X) → n ≤ k → k < length xs → get_or ys k d ≡ get_or xs k d) → drop n ys ≡ drop n xs
same_drop n xs ys e h =
    let a = length-drop n xs in
    let b = length-drop n ys in
    same_lists (drop n ys) (drop n xs) (omega arith) (λ k d l. get_or-drop n ys k d ∙ h (n + k) d (omega arith) (omega arith) ∙ sym (get_or-drop n xs k d))

module _ (i : Job) (T n : ℕ) (mem : ℕ → ℕ) (x : Index) (rows0 rows1 rows2 : List Row) (cells0 cells1 zs : List CellEntry)
    (f : Filling (event_of_step i) mem i.bound T n x rows1 cells1) (made : T ≤ i.bound)
    (beyond : Beyond T rows0 rows1) (past : Beyond n cells0 cells1) (a : Arranged n cells1 zs) where
  abbrev evs : List Event
  evs = events_in i.program.now i.primary.now i.auxiliary.now T

  few : n ≤ length zs
  few = omega (arith, f.few, f.cell_room, a.long)

  -- the entries of the touched cells stand at the front of the table
  front_long : length (take n zs) ≡ n
  front_long = length-take-le n zs few

  front_first : (j : ℕ) → j < n → first_of (take n zs) j ≡ first_of zs j
  front_first j l = ap (λ u. u.first) (get_or-take n zs j none l)

  pub opens : Openings (length (take n zs)) (length rows1) (first_of (take n zs))
  opens =
      let o = openings rows1 cells1 zs f.sofar a in
      rw front_long (record {
        above = λ j l. rw (front_first j l) (o.above j l);
        inside = λ j l. let z = o.inside j l in rw (front_first j l) (omega (arith, f.row_room));
        apart = λ i j li lj q. o.apart i j li lj (sym (front_first i li) ∙ q ∙ front_first j lj);
      })

  module _ (front : Labelled (length (take n zs)) (first_of (take n zs)) (row_at rows1) (row_at rows2)) (long : length rows2 ≡ length rows1) where
    l : Labelled n (first_of zs) (row_at rows1) (row_at rows2)
    l = let k = front_long in record {
      done = λ j lj.
          let P : ℕ → Type 0 = λ u. row_at rows2 u ≡ with_line j (row_at rows1 u) in
          subst P (front_first j lj) (front.done j (omega arith));
      rest = λ t away. front.rest t (λ j lj q. let i : j < n = omega arith in away j i (sym (front_first j i) ∙ q));
    }

    whole_length : T ≡ length evs
    whole_length = sym (length_trace (machine_of i) i.auxiliary.now T)

    shows : (k : ℕ) → k < T → event_at evs (suc k) ≡ event_of_step i k
    shows k h = trace_at (machine_of i) i.auxiliary.now T k h

    access_shown : (c : ℕ) (q : Demand) (g : Config Cpu) → asked (machine_of i) g ≡ q → hits c (shown (machine_of i) q g) ≡ true → c % 4 ≡ 0
    access_shown c alone g e h = absurd (both_ways false refl h)
    access_shown c advice g e h = absurd (both_ways (hits c (heard g.tape)) (heard_misses c g.tape) h)
    access_shown c (access b) g e h = ap (λ u. u % 4) (sym (eqb-true b c h)) ∙ fourths i.program.now i.primary.now g.state b e
    access_shown c (answer v) g e h = absurd (both_ways false refl h)

    aligned : Aligned evs
    aligned c zero e = absurd (both_ways false refl e)
    aligned c (suc k) e = elim (cases_lt k T) [
      | inl l ↦ access_shown c (asked (machine_of i) (config_at i k)) (config_at i k) refl (ap (hits c) (sym (shows k l)) ∙ e)
      | inr l ↦
          let past_end : event_at evs (suc k) ≡ quiet = get_or_past evs k quiet (omega (arith, whole_length)) in
          absurd (both_ways false refl (ap (hits c) (sym past_end) ∙ e))
    ]

    rest_rows : drop T rows2 ≡ drop T rows0
    rest_rows = same_drop T rows0 rows2 (long ∙ beyond.long) (λ k d h r.
        let o = openings rows1 cells1 zs f.sofar a in
        let e : get_or rows2 k Plain ≡ get_or rows1 k Plain = l.rest (suc k) (λ j lj q. let z = o.inside j lj in omega arith) in
        let p : k < length rows1 = omega (arith, beyond.long) in
        get_or_default rows2 k d Plain (omega arith) ∙ e ∙ get_or_default rows1 k Plain d p ∙ beyond.same k d h)

    rest_cells : drop n zs ≡ drop n cells0
    rest_cells = same_drop n cells0 zs (a.long ∙ past.long) (λ k d h r.
        let p : k < length cells1 = omega (arith, past.long) in
        get_or_default zs k d none (omega (arith, a.long)) ∙ a.beyond k h ∙ get_or_default cells1 k none d p ∙ past.same k d h)

    room : T ≤ length rows2
    room = omega (arith, f.row_room)

    pub whole_rows : rows2 ≡ log_rows zeroed evs ++ drop T rows0
    whole_rows = sym (take-append-drop T rows2) ∙ ap (λ u. u ++ drop T rows2) (rows_are rows1 cells1 zs f.sofar a rows2 l evs shows whole_length room few aligned)
        ∙ ap (λ u. log_rows zeroed evs ++ u) rest_rows

    pub whole_cells : zs ≡ log_cells evs ++ drop n cells0
    whole_cells = sym (take-append-drop n zs) ∙ ap (λ u. u ++ drop n zs) (cells_are rows1 cells1 zs f.sofar a rows2 l evs shows whole_length room few aligned)
        ∙ ap (λ u. log_cells evs ++ u) rest_cells

    pub whole_count : n ≡ length (lines_of i.program.now i.primary.now i.auxiliary.now T)
    whole_count = count_is rows1 cells1 zs f.sofar a rows2 l evs shows whole_length room few aligned

-- THE ANSWER

pub answered : (r : Result Run RunRefusal) (e : Option RunRefusal) (a : Run) → None ≡ e → r ≡ Ok a → Answers r e a
answered r e a none is = let P : Option RunRefusal → Type 0 = λ u. Answers r u a in subst P none (inl is)

pub run_is : (i : Job) (r : Run) → r.answer ≡ ending i.program.now i.primary.now i.auxiliary.now i.bound →
    r.cells ≡ length (lines_of i.program.now i.primary.now i.auxiliary.now (steps_in i.bound r.answer)) →
    r ≡ run_of i.program.now i.primary.now i.auxiliary.now i.bound
run_is i r ends count =
    let n = count ∙ ap (λ e. length (lines_of i.program.now i.primary.now i.auxiliary.now (steps_in i.bound e))) ends in
    λ j. record { answer = ends j; cells = n j }
