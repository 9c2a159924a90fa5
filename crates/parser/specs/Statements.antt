-- One line of a program.
--   StatementView       an instruction as it is written; a register that it does not have is 0
--   LineView            a line: its label with its place, and its instruction
--   operands_in m w bs  the instruction m with its operands, which bs begins with, and what follows them
--   statement_in w bs   the instruction in bs, or none, if bs can be read
--   line_in bs          the line bs, if it can be read
-- Here bs is the end of a line of w bytes. Assumes nothing.
use Rattle.std.specs.Prelude.{ℕ, cond, List, length, Some, None, Option}
use Rattle.std.specs.Option.{option_map}
use Rattle.encoding.specs.declared.mnemonic.Mnemonic as encoding
use Rattle.encoding.specs.declared.mnemonic.Mnemonic.TheVariants as M
use Rattle.lexer.specs.declared.token.Word.{Word}
use Rattle.lexer.specs.Tokens.{Kind, Label, Mnemonic, Register, Integer, Colon, Comma, End, Unknown, kind_in, text_in, rest_in, place_in, after_mark}
use Rattle.parser.specs.declared.operand.Argument.{Argument}
use Rattle.parser.specs.declared.statement.Statement.{Statement}
use Rattle.parser.specs.declared.statement.Line.{Line}
use Rattle.mnemonics.specs.Names.{mnemonic_of}
use Rattle.parser.specs.Operands.{ArgumentView, view_argument, and_then, label, comma_in, ended, operand_in, register_in}

pub record StatementView : Type 0 where
  pub mnemonic : encoding.Mnemonic
  pub destination : ℕ
  pub source : ℕ
  pub operand : ArgumentView

pub record LabelView : Type 0 where
  pub text : List ℕ
  pub place : ℕ

pub record LineView : Type 0 where
  pub label : Option LabelView
  pub statement : Option StatementView

abbrev pub view_statement : Statement → StatementView
view_statement s =
    record { mnemonic = s.mnemonic; destination = s.destination; source = s.source; operand = view_argument s.operand }

-- a register and an operand
abbrev pub view_pair : ℕ × Argument → ℕ × ArgumentView
view_pair x = (x.0, view_argument x.1)

abbrev pub view_label : Word → LabelView
view_label w = record { text = w.text.now; place = w.place }

abbrev pub view_line : Line → LineView
view_line l = record { label = option_map view_label l.label; statement = option_map view_statement l.statement }

-- m on the registers i and j and an operand, which is read with what follows it
abbrev pub stated : encoding.Mnemonic → ℕ → ℕ → ArgumentView × List ℕ → StatementView × List ℕ
stated m i j x = (record { mnemonic = m; destination = i; source = j; operand = x.0 }, x.1)

-- ri, A
abbrev pub pair_in : ℕ → List ℕ → Option ((ℕ × ArgumentView) × List ℕ)
pair_in width bs =
    and_then (register_in width bs) (λ i. and_then (comma_in i.1) (λ cs. option_map (λ a. ((i.0, a.0), a.1)) (operand_in width cs)))

-- A, ri
abbrev pub reversed_in : ℕ → List ℕ → Option ((ℕ × ArgumentView) × List ℕ)
reversed_in width bs =
    and_then (operand_in width bs) (λ a. and_then (comma_in a.1) (λ cs. option_map (λ i. ((i.0, a.0), i.1)) (register_in width cs)))

-- ri, rj, A
abbrev pub three_in : encoding.Mnemonic → ℕ → List ℕ → Option (StatementView × List ℕ)
three_in m width bs =
    and_then (register_in width bs) (λ i. and_then (comma_in i.1) (λ cs. option_map (λ x. stated m i.0 x.0.0 (x.0.1, x.1)) (pair_in width cs)))

-- ri, A, where ri is the source
abbrev pub compare_in : encoding.Mnemonic → ℕ → List ℕ → Option (StatementView × List ℕ)
compare_in m width bs = option_map (λ x. stated m 0 x.0.0 (x.0.1, x.1)) (pair_in width bs)

-- ri, A, where ri is the destination
abbrev pub two_in : encoding.Mnemonic → ℕ → List ℕ → Option (StatementView × List ℕ)
two_in m width bs = option_map (λ x. stated m x.0.0 0 (x.0.1, x.1)) (pair_in width bs)

-- A, ri
abbrev pub store_in : encoding.Mnemonic → ℕ → List ℕ → Option (StatementView × List ℕ)
store_in m width bs = option_map (λ x. stated m x.0.0 0 (x.0.1, x.1)) (reversed_in width bs)

-- A
abbrev pub one_in : encoding.Mnemonic → ℕ → List ℕ → Option (StatementView × List ℕ)
one_in m width bs = option_map (stated m 0 0) (operand_in width bs)

abbrev pub operands_in : encoding.Mnemonic → ℕ → List ℕ → Option (StatementView × List ℕ)
operands_in (M.Compute b) width bs = three_in (M.Compute b) width bs
operands_in M.Not width bs = two_in M.Not width bs
operands_in (M.Compare b) width bs = compare_in (M.Compare b) width bs
operands_in M.Move width bs = two_in M.Move width bs
operands_in M.MoveIfFlag width bs = two_in M.MoveIfFlag width bs
operands_in (M.Jump c) width bs = one_in (M.Jump c) width bs
operands_in (M.Store s) width bs = store_in (M.Store s) width bs
operands_in (M.Load s) width bs = two_in (M.Load s) width bs
operands_in M.Read width bs = two_in M.Read width bs
operands_in M.Answer width bs = one_in M.Answer width bs

-- a mnemonic and its operands, with nothing after them
abbrev pub whole : ℕ → List ℕ → encoding.Mnemonic → Option (Option StatementView)
whole width rest m = and_then (operands_in m width rest) (λ x. cond (ended x.1) (Some (Some x.0)) None)

abbrev pub statement_from : Kind → ℕ → List ℕ → List ℕ → Option (Option StatementView)
statement_from End width w rest = Some None
statement_from Mnemonic width w rest = and_then (mnemonic_of w) (whole width rest)
statement_from Label width w rest = None
statement_from Register width w rest = None
statement_from Integer width w rest = None
statement_from Colon width w rest = None
statement_from Comma width w rest = None
statement_from Unknown width w rest = None

abbrev pub statement_in : ℕ → List ℕ → Option (Option StatementView)
statement_in width bs = statement_from (kind_in bs) width (text_in bs) (rest_in bs)

abbrev pub line : Option LabelView → Option StatementView → LineView
line l s = record { label = l; statement = s }

abbrev pub unlabelled : List ℕ → Option LineView
unlabelled bs = option_map (line None) (statement_in (length bs) bs)

-- the colon stands right behind the label
abbrev pub labelled : List ℕ → List ℕ → List ℕ → Option LineView
labelled w rest bs =
    cond (label w) (option_map (line (Some (record { text = w; place = place_in (length bs) bs }))) (and_then (after_mark 58 rest) (statement_in (length bs)))) None

abbrev pub line_from : Kind → List ℕ → List ℕ → List ℕ → Option LineView
line_from Label w rest bs = labelled w rest bs
line_from Mnemonic w rest bs = unlabelled bs
line_from Register w rest bs = unlabelled bs
line_from Integer w rest bs = unlabelled bs
line_from Colon w rest bs = unlabelled bs
line_from Comma w rest bs = unlabelled bs
line_from End w rest bs = unlabelled bs
line_from Unknown w rest bs = unlabelled bs

abbrev pub line_in : List ℕ → Option LineView
line_in bs = line_from (kind_in bs) (text_in bs) (rest_in bs) bs
