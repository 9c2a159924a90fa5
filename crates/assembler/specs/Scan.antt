-- The labels and the count of instructions, line by line.
--   onwards r f     what f makes of the value of r, or the refusal that r is
--   labelled k n l  after the label of line n: at most 256 labels, each defined once
--   counted k n b   after the instruction of line n: at most 4,096
--   stepped k n l   after line n, which is l
--   scanned n k ls  after the lines ls, of which the first is line n
-- Assumes nothing.
use Rattle.std.specs.Prelude.{ℕ, ◌+◌, Bool, true, false, cond, List, [], ◌∷◌, ◌++◌, length, is_some, Some, None, Ok, Err, Option, Result, nat_lt}
use Rattle.parser.specs.Statements.{LabelView, LineView, line_in}
use Rattle.assembler.specs.declared.labels.Labels as declared
use Rattle.assembler.specs.declared.error.AssemblyError.{AssemblyError}
use Rattle.assembler.specs.declared.error.AssemblyError.TheVariants.{Unreadable, Redefined, TooMany}
use Rattle.assembler.specs.Labels.{Known, summary, found}

abbrev pub onwards : {A B : Type 0} → Result A AssemblyError → (A → Result B AssemblyError) → Result B AssemblyError
onwards (Ok x) f = f x
onwards (Err e) f = Err e

-- what a call answers, with what is known after it
abbrev pub outcome : Result (Unit {0}) AssemblyError → declared.Labels → Result Known AssemblyError
outcome (Ok x) t = Ok (summary t)
outcome (Err e) t = Err e

-- what a call has gathered
abbrev pub gathered : Result declared.Labels AssemblyError → Result Known AssemblyError
gathered (Ok t) = Ok (summary t)
gathered (Err e) = Err e

abbrev pub defined : Known → ℕ → List ℕ → Result Known AssemblyError
defined k n w =
    cond (is_some (found w k.labels)) (Err (Redefined n))
    (cond (nat_lt (length k.labels) 256) (Ok (record { labels = k.labels ++ (w, k.instructions) ∷ []; instructions = k.instructions })) (Err (TooMany n)))

abbrev pub labelled : Known → ℕ → Option LabelView → Result Known AssemblyError
labelled k n (Some w) = defined k n w.text
labelled k n None = Ok k

abbrev pub tallied : Known → ℕ → Result Known AssemblyError
tallied k n = cond (nat_lt k.instructions 4096) (Ok (record { labels = k.labels; instructions = k.instructions + 1 })) (Err (TooMany n))

abbrev pub counted : Known → ℕ → Bool → Result Known AssemblyError
counted k n true = tallied k n
counted k n false = Ok k

abbrev pub stepped_by : Known → ℕ → Option LineView → Result Known AssemblyError
stepped_by k n (Some l) = onwards (labelled k n l.label) (λ k'. counted k' n (is_some l.statement))
stepped_by k n None = Err (Unreadable n)

abbrev pub stepped : Known → ℕ → List ℕ → Result Known AssemblyError
stepped k n l = stepped_by k n (line_in l)

abbrev pub scanned : ℕ → Known → List (List ℕ) → Result Known AssemblyError
scanned n k [] = Ok k
scanned n k (l ∷ ls) = onwards (stepped k n l) (λ k'. scanned (n + 1) k' ls)
