-- The run of any machine with memory and an advice tape, its log, and the rules by which rows fit its steps.
--
--   `Machine S`               a machine whose state, but for memory and tape, is an S
--   `Fourths M`               each cell that it asks for is a multiple of 4
--   `after M ws n`            where the machine is after n steps from the start on the tape ws
--   `trace M ws n`            what the first n steps show
--   `Accepts M ws n`          step n answers 0, and no step before it answers
--   `Logs M rs ls ws`         rows and lines log the run on ws up to the step that answers 0
--   `advice_of rs`            the advice words of the rows
--   `state_at M rs i`         the state after i rows, by what the rows say that the steps were given
--   `Fits M rs`               each row fits its step: rules 26 to 30
--   `step_finding`            the number of the first of these rules that a row breaks, or 0
--
-- Assumes nothing.
use Rattle.std.specs.Prelude.{◌≡◌, ℕ, zero, suc, ◌%◌, ◌<◌, ◌≤◌, Bool, false, cond, ◌&&◌, ◌||◌, List, [], ◌∷◌, map, length, Some, None, Option, ◌==◌, ◌≢◌, nat_lt}
use Rattle.std.specs.List.{range_with_len}
use Rattle.dossier.specs.declared.record.Row.{Row}
use Rattle.dossier.specs.declared.record.Row.TheVariants.{Plain, FromLine, FromStep, Advice, AdviceEnd}
use Rattle.dossier.specs.declared.record.Line.{Line}
use Rattle.run_log.specs.Log.{Event, quiet, word, ended, touch, log_rows, log_lines}
use Rattle.run_log.specs.Rules.{row_at, kind_of, touch_of, IsTouch, test_touch, Linked}
use Rattle.run_log.specs.Words.{Exactly}

-- THE MACHINE

-- what a step asks for: nothing, the next advice word, what a cell holds; or it answers
pub data Demand : Type 0 where
  alone : Demand
  advice : Demand
  access : ℕ → Demand
  answer : ℕ → Demand

-- what a step asks, what it makes of the word that it is given, if any, and what it leaves in the cell;
-- `initial` is what each cell holds at the start
pub record Machine (S : Type 0) : Type 0 where
  pub start : S
  pub initial : ℕ → ℕ
  pub asks : S → Demand
  pub makes : S → Option ℕ → S
  pub leaves : S → ℕ → ℕ

-- each cell that it asks for is a multiple of 4
abbrev pub Fourths : {S : Type 0} → Machine S → Type 0
Fourths {S} M = (s : S) (c : ℕ) → M.asks s ≡ access c → c % 4 ≡ 0

-- the state with memory and the part of the tape that is unread
pub record Config (S : Type 0) : Type 0 where
  pub state : S
  pub memory : ℕ → ℕ
  pub tape : List ℕ

-- THE RUN

abbrev pub head : List ℕ → Option ℕ
head [] = None
head (w ∷ ws) = Some w

abbrev pub tail : List ℕ → List ℕ
tail [] = []
tail (w ∷ ws) = ws

-- what a step that asks for advice shows
abbrev pub heard : List ℕ → Event
heard [] = ended
heard (w ∷ ws) = word w

module _ {S : Type 0} (M : Machine S) where
  -- what a step is given
  abbrev pub given : Demand → Config S → Option ℕ
  given alone g = None
  given advice g = head g.tape
  given (access c) g = Some (g.memory c)
  given (answer v) g = None

  -- what it shows
  abbrev pub shown : Demand → Config S → Event
  shown alone g = quiet
  shown advice g = heard g.tape
  shown (access c) g = touch c (M.leaves g.state (g.memory c))
  shown (answer v) g = quiet

  -- memory and tape after it
  abbrev pub stored : Demand → Config S → ℕ → ℕ
  stored alone g d = g.memory d
  stored advice g d = g.memory d
  stored (access c) g d = cond (c == d) (M.leaves g.state (g.memory c)) (g.memory d)
  stored (answer v) g d = g.memory d

  abbrev pub unread : Demand → Config S → List ℕ
  unread alone g = g.tape
  unread advice g = tail g.tape
  unread (access c) g = g.tape
  unread (answer v) g = g.tape

  abbrev pub asked : Config S → Demand
  asked g = M.asks g.state

  abbrev pub stepped : Config S → Config S
  stepped g = record { state = M.makes g.state (given (asked g) g); memory = stored (asked g) g; tape = unread (asked g) g }

  abbrev pub after : List ℕ → ℕ → Config S
  after ws zero = record { state = M.start; memory = M.initial; tape = ws }
  after ws (suc n) = stepped (after ws n)

  abbrev pub shown_at : List ℕ → ℕ → Event
  shown_at ws i = shown (asked (after ws i)) (after ws i)

  abbrev pub trace : List ℕ → ℕ → List Event
  trace ws n = map (shown_at ws) (range_with_len 0 n)

  pub record Accepts (ws : List ℕ) (n : ℕ) : Type 0 where
    pub last : (i : ℕ) → suc i ≡ n → asked (after ws i) ≡ answer 0
    pub before : (i v : ℕ) → suc i < n → asked (after ws i) ≢ answer v
    pub some : 1 ≤ n

  pub record Logs (rs : List Row) (ls : List Line) (ws : List ℕ) : Type 0 where
    pub rows : rs ≡ log_rows M.initial (trace ws (length rs))
    pub lines : ls ≡ log_lines (trace ws (length rs))
    pub accepts : Accepts ws (length rs)

-- THE RULES OF A STEP

-- what a row says that its step was given
abbrev pub input_of : Row → Option ℕ
input_of Plain = None
input_of (FromLine x) = Some x.before
input_of (FromStep x) = Some x.before
input_of (Advice w) = Some w
input_of AdviceEnd = None

abbrev pub advice_of : List Row → List ℕ
advice_of [] = []
advice_of (Plain ∷ rs) = advice_of rs
advice_of (FromLine x ∷ rs) = advice_of rs
advice_of (FromStep x ∷ rs) = advice_of rs
advice_of (Advice w ∷ rs) = w ∷ advice_of rs
advice_of (AdviceEnd ∷ rs) = advice_of rs

-- row t is an advice row: an advice end, or an advice word that follows no advice end
abbrev pub Hears : List Row → ℕ → Row → Type 0
Hears rs t Plain = ⊥
Hears rs t (FromLine x) = ⊥
Hears rs t (FromStep x) = ⊥
Hears rs t (Advice w) = (u : ℕ) → u < t → kind_of (row_at rs u) ≢ 4
Hears rs t AdviceEnd = Unit {0}

-- the row is a touch of cell c, with what the step leaves there
pub record TouchFits (leaves : ℕ → ℕ) (c : ℕ) (r : Row) : Type 0 where
  pub touch : IsTouch r
  pub cell : (touch_of r).cell ≡ c
  pub after : (touch_of r).after ≡ leaves (touch_of r).before

-- what is asked of row t by what its step asks: a step answers 0 at the last row and nowhere else, and no other answer
abbrev pub RowFits : (ℕ → ℕ) → List Row → ℕ → Demand → Row → Type 0
RowFits leaves rs t alone r = (t < length rs) × (r ≡ Plain)
RowFits leaves rs t advice r = (t < length rs) × Hears rs t r
RowFits leaves rs t (access c) r = (t < length rs) × TouchFits leaves c r
RowFits leaves rs t (answer v) r = (v ≡ 0) × ((t ≡ length rs) × (r ≡ Plain))

module _ {S : Type 0} (M : Machine S) where
  abbrev pub state_at : List Row → ℕ → S
  state_at rs zero = M.start
  state_at rs (suc i) = M.makes (state_at rs i) (input_of (row_at rs (suc i)))

  pub record Fits (rs : List Row) : Type 0 where
    pub some : 1 ≤ length rs
    pub each : (i : ℕ) → i < length rs →
        RowFits (M.leaves (state_at rs i)) rs (suc i) (M.asks (state_at rs i)) (row_at rs (suc i))

-- THE SAME AS TESTS

-- an advice end stands among the first i rows
abbrev pub ended_by : List Row → ℕ → Bool
ended_by rs zero = false
ended_by rs (suc i) = kind_of (row_at rs (suc i)) == 4 || ended_by rs i

-- rules 28 and 29 of an advice step
abbrev pub advice_finding : Bool → Row → ℕ
advice_finding over Plain = 28
advice_finding over (FromLine x) = 28
advice_finding over (FromStep x) = 28
advice_finding over (Advice w) = cond over 29 0
advice_finding over AdviceEnd = 0

-- rules 28 and 30 of a step that touches cell c
abbrev pub touch_finding : (ℕ → ℕ) → ℕ → Row → ℕ
touch_finding leaves c r =
    cond (test_touch r) (cond ((touch_of r).cell == c && (touch_of r).after == leaves (touch_of r).before) 0 30) 28

-- rule 28 of any other step
abbrev pub plain_finding : Row → ℕ
plain_finding r = cond (kind_of r == 0) 0 28

-- rules 26 to 30 of row t of T; `over` says that an advice end came before
abbrev pub step_finding : (ℕ → ℕ) → ℕ → ℕ → Bool → Demand → Row → ℕ
step_finding leaves T t over alone r = cond (nat_lt t T) (plain_finding r) 27
step_finding leaves T t over advice r = cond (nat_lt t T) (advice_finding over r) 27
step_finding leaves T t over (access c) r = cond (nat_lt t T) (touch_finding leaves c r) 27
step_finding leaves T t over (answer v) r = cond (v == 0) (cond (t == T) (plain_finding r) 27) 26

module _ {S : Type 0} (M : Machine S) where
  pub record NoStepFinding (rs : List Row) : Type 0 where
    pub some : 1 ≤ length rs
    pub each : (i : ℕ) → i < length rs →
        step_finding (M.leaves (state_at M rs i)) (length rs) (suc i) (ended_by rs i) (M.asks (state_at M rs i)) (row_at rs (suc i)) ≡ 0

-- THE THEOREMS

-- rows and lines that keep all rules log an accepting run on the tape of their advice words
abbrev pub RunSound : Type 0 → Type 0
RunSound S = (M : Machine S) (rs : List Row) (ls : List Line) → Linked M.initial rs ls → Fits M rs → Logs M rs ls (advice_of rs)

-- every log of an accepting run keeps all rules
abbrev pub RunComplete : Type 0 → Type 0
RunComplete S = (M : Machine S) → Fourths M → (rs : List Row) (ls : List Line) (ws : List ℕ) →
    Logs M rs ls ws → Linked M.initial rs ls × Fits M rs

-- equal advice words make equal logs
abbrev pub RunUnique : Type 0 → Type 0
RunUnique S = (M : Machine S) → Fourths M → (rs rs' : List Row) (ls ls' : List Line) (ws ws' : List ℕ) →
    Logs M rs ls ws → Logs M rs' ls' ws' → advice_of rs ≡ advice_of rs' → (rs ≡ rs') × (ls ≡ ls')

-- an accepting run has a log, of a row for each step
abbrev pub RunLogged : Type 0 → Type 0
RunLogged S = (M : Machine S) (ws : List ℕ) (n : ℕ) → Accepts M ws n →
    Logs M (log_rows M.initial (trace M ws n)) (log_lines (trace M ws n)) ws
    × (length (log_rows M.initial (trace M ws n)) ≡ n)

-- the tests decide the rules
abbrev pub RunDecided : Type 0 → Type 0
RunDecided S = (M : Machine S) (rs : List Row) → Exactly (NoStepFinding M rs) (Fits M rs)
