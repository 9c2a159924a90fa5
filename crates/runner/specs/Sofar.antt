-- The tables of a run after T steps: rows by step, counted from 1, and entries in the order of the cells' first touches.
-- A first touch has the number of its cell's entry as its origin, until the cells are put in order.
--
--   `link_to n r`              a touch's row, linked on to step n
--   `first_touch c k a`        what the first touch of cell c records, whose entry has number k
--   `later_touch e a`          what a later touch records of a cell with entry e
--   `opened_entry c t a`       the entry of cell c after its first touch at step t
--   `Sofar ev T n row ent`     the first T rows show the events ev, and keep the link rules with the first n entries as lines
--   `Holds mem n ent`          the first n entries have what memory holds, and it holds 0 elsewhere
--   `Other r`                  a row that is no touch
--
-- Assumes nothing.
use Rattle.std.specs.Prelude.{◌≡◌, ℕ, suc, ◌<◌, ◌≤◌, ◌⊎◌, ◌≢◌}
use Rattle.dossier.specs.declared.record.Row.{Row}
use Rattle.dossier.specs.declared.record.Row.TheVariants.{Plain, FromLine, FromStep, Advice, AdviceEnd}
use Rattle.dossier.specs.declared.record.Touch.{Touch}
use Rattle.run_log.specs.Log.{Event, event_of}
use Rattle.run_log.specs.Rules.{kind_of, touch_of, IsTouch}
use Rattle.index.specs.declared.entry.CellEntry.{CellEntry}

abbrev pub link_to : ℕ → Row → Row
link_to n Plain = Plain
link_to n (FromLine x) = FromLine (record { cell = x.cell; before = x.before; after = x.after; origin = x.origin; next = n })
link_to n (FromStep x) = FromStep (record { cell = x.cell; before = x.before; after = x.after; origin = x.origin; next = n })
link_to n (Advice w) = Advice w
link_to n AdviceEnd = AdviceEnd

abbrev pub first_touch : ℕ → ℕ → ℕ → Touch
first_touch c k a = record { cell = c; before = 0; after = a; origin = k; next = 0 }

abbrev pub later_touch : CellEntry → ℕ → Touch
later_touch e a = record { cell = e.cell; before = e.value; after = a; origin = e.last; next = 0 }

abbrev pub opened_entry : ℕ → ℕ → ℕ → CellEntry
opened_entry c t a = record { cell = c; first = t; last = t; value = a }

pub record FirstRow (n : ℕ) (ent : ℕ → CellEntry) (t : ℕ) (x : Touch) : Type 0 where
  pub old : x.origin < n
  pub cell : (ent x.origin).cell ≡ x.cell
  pub first : (ent x.origin).first ≡ t
  pub zero : x.before ≡ 0

pub record LaterRow (row : ℕ → Row) (t : ℕ) (x : Touch) : Type 0 where
  pub earlier : x.origin < t
  pub touch : IsTouch (row x.origin)
  pub cell : (touch_of (row x.origin)).cell ≡ x.cell
  pub after : (touch_of (row x.origin)).after ≡ x.before
  pub next : (touch_of (row x.origin)).next ≡ t

pub record NextRow (T : ℕ) (row : ℕ → Row) (t n : ℕ) : Type 0 where
  pub above : t < n
  pub done : n ≤ T
  pub kind : kind_of (row n) ≡ 2
  pub back : (touch_of (row n)).origin ≡ t

pub record OpenAt (T : ℕ) (row : ℕ → Row) (k t : ℕ) : Type 0 where
  pub done : t ≤ T
  pub kind : kind_of (row t) ≡ 1
  pub back : (touch_of (row t)).origin ≡ k

pub record LastAt (T : ℕ) (row : ℕ → Row) (e : CellEntry) (t : ℕ) : Type 0 where
  pub done : t ≤ T
  pub touch : IsTouch (row t)
  pub cell : (touch_of (row t)).cell ≡ e.cell
  pub after : (touch_of (row t)).after ≡ e.value
  pub next : (touch_of (row t)).next ≡ 0

pub record Sofar (ev : ℕ → Event) (T n : ℕ) (row : ℕ → Row) (ent : ℕ → CellEntry) : Type 0 where
  pub shown : (i : ℕ) → i < T → event_of (row (suc i)) ≡ ev i
  pub firsts : (t : ℕ) → t ≤ T → kind_of (row t) ≡ 1 → FirstRow n ent t (touch_of (row t))
  pub laters : (t : ℕ) → t ≤ T → kind_of (row t) ≡ 2 → LaterRow row t (touch_of (row t))
  pub nexts : (t : ℕ) → t ≤ T → IsTouch (row t) → ((touch_of (row t)).next ≡ 0) ⊎ NextRow T row t (touch_of (row t)).next
  pub opens : (k : ℕ) → k < n → OpenAt T row k (ent k).first
  pub lasts : (k : ℕ) → k < n → LastAt T row (ent k) (ent k).last

pub record Holds (mem : ℕ → ℕ) (n : ℕ) (ent : ℕ → CellEntry) : Type 0 where
  pub held : (k : ℕ) → k < n → mem (ent k).cell ≡ (ent k).value
  pub clear : (c : ℕ) → ((k : ℕ) → k < n → (ent k).cell ≢ c) → mem c ≡ 0

abbrev pub Other : Row → Type 0
Other r = IsTouch r → ⊥
