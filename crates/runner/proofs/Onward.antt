-- From one step of the run to the next.
-- Assumes nothing.
use Rattle.std.proofs.Common.{◌≡◌, ℕ, suc, ◌+◌, ◌-◌, ◌<◌, ◌≤◌, cond, eqb, List, [], ◌∷◌, length, get_or, set, Some, None, Option, Bor, sym, refl, ap, ◌∙◌, subst, arith}
use Rattle.encoding.specs.declared.operation.Operation.{Operation}
use Rattle.machine.specs.declared.cpu.Cpu.{Cpu}
use Rattle.machine.specs.declared.step.Demand.{Demand}
use Rattle.machine.specs.declared.step.Demand.TheVariants.{Cell, Advice}
use Rattle.machine.specs.Effects.{asked, left, stepped}
use Rattle.dossier.specs.declared.record.Row.{Row}
use Rattle.dossier.specs.declared.record.Row.TheVariants as row
use Rattle.run_log.specs.Log.{Event, touch, event_of}
use Rattle.run_log.specs.Run.{head, tail, heard}
use Rattle.tinyram.specs.Program.{operation, demand}
use Rattle.index.specs.declared.entry.CellEntry.{CellEntry}
use Rattle.index.specs.declared.tree.Index.{Index}
use Rattle.index.specs.Tree.{cell_of, Absent, renewed}
use Rattle.index.specs.Map.{Keeps, RoomFor}
use Rattle.runner.specs.declared.job.Job.{Job}
use Rattle.runner.specs.Ending.{halted, answer_at}
use Rattle.runner.specs.Sofar.{link_to, Other, first_touch, later_touch, opened_entry}
use Rattle.runner.specs.Filling.{entry_at, Beyond, Filling, config_at, event_of_step, Quiet}
use Rattle.runner.specs.declared.log.Log.{Log}
use Rattle.runner.specs.Going.{At, Going, Onward}
use Rattle.runner.proofs.Machine.{Makes, quiet_makes, quiet_memory, quiet_answer, cell_makes, cell_memory, advice_makes, advice_memory}
use Rattle.runner.proofs.Tables.{beyond_set, beyond_trans, last_touch, other_filled, first_filled, later_filled}

pub beyond_same : {X : Type 0} (n : ℕ) (xs : List X) → Beyond n xs xs
beyond_same n xs = record { long = refl; same = λ k d h. refl }

module _ {i : Job} {T n : ℕ} {cpu : Cpu} {ws : List ℕ} {x : Index} {rows : List Row} {cells : List CellEntry} (h : At i T n cpu ws x rows cells) (more : T < i.bound)
    (by : Operation) (by-is : by ≡ operation i.program.now cpu) where
  abbrev st : Cpu
  st = (config_at i T).state

  abbrev op : Operation
  op = operation i.program.now (config_at i T).state

  -- one step more, which answers a
  pub record Step (a : Option ℕ) (n' : ℕ) (cpu' : Cpu) (ws' : List ℕ) (x' : Index) (rows' : List Row) (cells' : List CellEntry) : Type 0 where
    pub going : At i (T + 1) n' cpu' ws' x' rows' cells'
    pub answer : a ≡ answer_at i.program.now i.primary.now i.auxiliary.now T
    pub beyond : Beyond (T + 1) rows rows'
    pub past : Beyond n' cells cells'
    pub grown : n ≤ n'

  here : by ≡ op
  here = by-is ∙ ap (operation i.program.now) h.state

  asks_is : (d : Demand) → asked by cpu ≡ d → demand i.program.now st ≡ d
  asks_is d e = sym (ap (λ u. asked u cpu) by-is ∙ ap (demand i.program.now) h.state) ∙ e

  next : suc T ≡ T + 1
  next = omega arith

  going_on : {got : Option ℕ} {ev : Event} {tape : List ℕ} → Makes i T got ev tape → (ws' : List ℕ) → ws' ≡ tape → (n' : ℕ) (x' : Index) (rows' : List Row) (cells' : List CellEntry) →
      Filling (event_of_step i) (config_at i (suc T)).memory i.bound (T + 1) n' x' rows' cells' → At i (T + 1) n' (stepped by got cpu) ws' x' rows' cells'
  going_on {got = got} m ws' tape n' x' rows' cells' filling = record {
    state = ap (λ u. stepped u got cpu) here ∙ ap (stepped op got) h.state ∙ sym m.state ∙ ap (λ u. (config_at i u).state) next;
    tape = tape ∙ sym m.unread ∙ ap (λ u. (config_at i u).tape) next;
    filling = let P : ℕ → Type 0 = λ u. Filling (event_of_step i) (config_at i u).memory i.bound (T + 1) n' x' rows' cells' in subst P next filling;
  }

  -- A STEP THAT SHOWS NOTHING

  pub onward_plain : (got answer : Option ℕ) → Quiet i.primary.now cpu got answer (asked by cpu) → Step answer n (stepped by got cpu) ws x (set rows T row.Plain) cells
  onward_plain got answer q =
      let d = asks_is (asked by cpu) refl in
      let Q : Cpu → Type 0 = λ u. Quiet i.primary.now u got answer (asked by cpu) in
      let k : Quiet i.primary.now st got answer (asked by cpu) = subst Q h.state q in
      let m = quiet_makes i T (asked by cpu) got answer d k in
      record {
        going = going_on m ws h.tape n x (set rows T row.Plain) cells
            (other_filled h.filling more (config_at i (suc T)).memory row.Plain (λ z. omega arith) (sym m.shows) (quiet_memory i T (asked by cpu) got answer d k));
        answer = quiet_answer i T (asked by cpu) got answer d k;
        beyond = beyond_set (T + 1) rows T row.Plain (omega arith);
        past = beyond_same n cells;
        grown = omega arith;
      }

  -- A STEP THAT READS THE AUXILIARY TAPE

  module _ (asks : asked by cpu ≡ Advice) where
    d : demand i.program.now st ≡ Advice
    d = asks_is Advice asks

    heard_row : (r : Row) (ws' : List ℕ) → Other r → event_of r ≡ heard ws → ws' ≡ tail ws → Step None n (stepped by (head ws) cpu) ws' x (set rows T r) cells
    heard_row r ws' other event rest =
        let m = advice_makes i T d in
        let g = going_on m ws' (rest ∙ ap tail h.tape) n x (set rows T r) cells
        (other_filled h.filling more (config_at i (suc T)).memory r other (event ∙ ap heard h.tape ∙ sym m.shows) (advice_memory i T d)) in
        let P : List ℕ → Type 0 = λ u. At i (T + 1) n (stepped by (head u) cpu) ws' x (set rows T r) cells in
        record {
          going = subst P (sym h.tape) g;
          answer = sym (ap halted d);
          beyond = beyond_set (T + 1) rows T r (omega arith);
          past = beyond_same n cells;
          grown = omega arith;
        }

    pub onward_word : (w : ℕ) (ws' : List ℕ) → ws ≡ w ∷ ws' → Step None n (stepped by (Some w) cpu) ws' x (set rows T (row.Advice w)) cells
    onward_word w ws' e =
        let P : List ℕ → Type 0 = λ u. Step None n (stepped by (head u) cpu) ws' x (set rows T (row.Advice w)) cells in
        subst P e (heard_row (row.Advice w) ws' (λ z. omega arith) (ap heard (sym e)) (ap tail (sym e)))

    pub onward_end : ws ≡ [] → Step None n (stepped by None cpu) ws x (set rows T row.AdviceEnd) cells
    onward_end e =
        let P : List ℕ → Type 0 = λ u. Step None n (stepped by (head u) cpu) ws x (set rows T row.AdviceEnd) cells in
        subst P e (heard_row row.AdviceEnd ws (λ z. omega arith) (ap heard (sym e)) (e ∙ ap tail (sym e)))

  -- A STEP THAT TOUCHES A CELL

  module _ (c : ℕ) (asks : asked by cpu ≡ Cell c) (before value : ℕ) (holds : (config_at i T).memory c ≡ before)
      (value-is : value ≡ left by cpu before) where
    dc : demand i.program.now st ≡ Cell c
    dc = asks_is (Cell c) asks

    leaves : left op st ((config_at i T).memory c) ≡ value
    leaves = ap (left op st) holds ∙ sym (value-is ∙ ap (λ u. left u cpu before) here ∙ ap (λ u. left op u before) h.state)

    made : Makes i T (Some before) (touch c value) (config_at i T).tape
    made =
        let P : ℕ → Type 0 = λ u. Makes i T (Some u) (touch c (left op st ((config_at i T).memory c))) (config_at i T).tape in
        let Q : ℕ → Type 0 = λ u. Makes i T (Some before) (touch c u) (config_at i T).tape in
        subst Q leaves (subst P holds (cell_makes i T c dc))

    put : (d : ℕ) → (config_at i (suc T)).memory d ≡ cond (eqb c d) value ((config_at i T).memory d)
    put d = cell_memory i T c dc d ∙ ap (λ u. cond (eqb c d) u ((config_at i T).memory d)) leaves

    touched : (n' : ℕ) (x' : Index) (rows' : List Row) (cells' : List CellEntry) → Filling (event_of_step i) (config_at i (suc T)).memory i.bound (T + 1) n' x' rows' cells' →
        Beyond (T + 1) rows rows' → Beyond n' cells cells' → n ≤ n' → Step None n' (stepped by (Some before) cpu) ws x' rows' cells'
    touched n' x' rows' cells' filling beyond past grown = record {
      going = going_on made ws h.tape n' x' rows' cells' filling;
      answer = sym (ap halted dc);
      beyond = beyond;
      past = past;
      grown = grown;
    }

    pub onward_first : Absent cells n c → before ≡ 0 → (x' : Index) (cells' : List CellEntry) → cells' ≡ set cells n (opened_entry c (suc T) value) →
        Keeps x' cells' (n + 1) → RoomFor x' i.bound →
        Step None (n + 1) (stepped by (Some before) cpu) ws x' (set rows T (row.FromLine (first_touch c n value))) cells'
    onward_first absent zero x' cells' cells_is keeps room =
        let r = first_touch c n value in
        let e = opened_entry c (suc T) value in
        let K : List CellEntry → Type 0 = λ u. Keeps x' u (n + 1) in
        let F : List CellEntry → Type 0 = λ u. Filling (event_of_step i) (config_at i (suc T)).memory i.bound (T + 1) (n + 1) x' (set rows T (row.FromLine r)) u in
        let B : List CellEntry → Type 0 = λ u. Beyond (n + 1) cells u in
        let f = first_filled h.filling more (config_at i (suc T)).memory r x' absent refl refl refl (sym made.shows) e refl put (subst K cells_is keeps) room in
        touched (n + 1) x' (set rows T (row.FromLine r)) cells' (subst F (sym cells_is) f) (beyond_set (T + 1) rows T (row.FromLine r) (omega arith))
        (subst B (sym cells_is) (beyond_set (n + 1) cells n e (omega arith))) (omega arith)

    pub onward_later : (k : ℕ) → k < n → cell_of cells k ≡ c → before ≡ (entry_at cells k).value →
        (q d : Row) → q ≡ link_to (T + 1) (get_or (set rows T (row.FromStep (later_touch (entry_at cells k) value))) ((entry_at cells k).last - 1) d) →
        (cells' : List CellEntry) → cells' ≡ set cells k (renewed cells k (suc T) value) → Keeps x cells' n →
        Step None n (stepped by (Some before) cpu) ws x (set (set rows T (row.FromStep (later_touch (entry_at cells k) value))) ((entry_at cells k).last - 1) q) cells'
    onward_later k old at value-at q d q-is cells' cells_is keeps =
        let r = later_touch (entry_at cells k) value in
        let p = (entry_at cells k).last in
        let o = last_touch h.filling more k old in
        let e = renewed cells k (suc T) value in
        let P : ℕ → Type 0 = λ u. (d : ℕ) → (config_at i (suc T)).memory d ≡ cond (eqb u d) value ((config_at i T).memory d) in
        let K : List CellEntry → Type 0 = λ u. Keeps x u n in
        let F : List CellEntry → Type 0 = λ u. Filling (event_of_step i) (config_at i (suc T)).memory i.bound (T + 1) n x (set (set rows T (row.FromStep r)) (p - 1) q) u in
        let B : List CellEntry → Type 0 = λ u. Beyond n cells u in
        let f = later_filled h.filling more r k p old refl q d q-is e refl (config_at i (suc T)).memory refl refl refl refl
        (ap (λ u. touch u value) at ∙ sym made.shows) (subst P (sym at) put) (subst K cells_is keeps) in
        touched n x (set (set rows T (row.FromStep r)) (p - 1) q) cells' (subst F (sym cells_is) f)
        (beyond_trans (omega arith) (beyond_set (T + 1) rows T (row.FromStep r) (omega arith)) (beyond_set (T + 1) (set rows T (row.FromStep r)) (p - 1) q (omega (arith, o.0, o.1))))
        (subst B (sym cells_is) (beyond_set n cells k e old)) (omega arith)

-- the log after one step more
abbrev pub log_with : Log → ℕ → Cpu → Bor (List ℕ) → Index → List Row → List CellEntry → Log
log_with s n cpu unread x rows cells = record {
  job = s.job;
  index = record s.index { now = x };
  rows = record s.rows { now = rows };
  cells = record s.cells { now = cells };
  touched = n;
  steps = s.steps + 1;
  cpu = cpu;
  unread = unread;
}

pub onward : {s : Log} {h : Going s} {more : s.steps < s.job.bound} {by : Operation} {by-is : by ≡ operation s.job.program.now s.cpu} {a : Option ℕ} {n' : ℕ} {cpu' : Cpu} {x' : Index}
    {rows' : List Row} {cells' : List CellEntry} (unread : Bor (List ℕ)) → Step h more by by-is a n' cpu' unread.now x' rows' cells' → Onward s (log_with s n' cpu' unread x' rows' cells') a
onward unread t = record {
  same = record { job = refl; rows = refl; cells = refl; index = refl };
  going = t.going;
  steps = refl;
  answer = t.answer;
  beyond = t.beyond;
  past = t.past;
  grown = t.grown;
}
