-- The operands of an instruction.
--   ArgumentView      an operand as it is written: a register, an integer, or a label with its place
--   label w           a word that starts with an underscore is a label
--   argument_of t     the operand that a token is
--   operand_in w bs   the first operand of bs, the end of a line of w bytes, and what follows it
--   register_in w bs  the same where a register is wanted
--   comma_in bs       what follows a comma
--   ended bs          nothing follows but blanks and a comment
--   left view r line  what a call answers, with what it leaves of the line
--   Reads f view r b a  the call answers what f says of the line b before it; a is the line after it
--   and_then r f      what f makes of the value of r
-- Assumes nothing.
use Rattle.std.specs.Prelude.{◌≡◌, ℕ, Bool, true, false, cond, ◌&&◌, List, length, Some, None, Option, ◌==◌, nat_lt}
use Rattle.std.specs.Option.{option_map}
use Rattle.lexer.specs.declared.class.Class.TheVariants.{Name}
use Rattle.lexer.specs.Classes.{past}
use Rattle.lexer.specs.declared.token.Cursor.{Cursor}
use Rattle.lexer.specs.Tokens.{Kind, Label, Mnemonic, Register, Integer, Colon, Comma, End, Unknown, Seen, kind_in, rest_in, token_in}
use Rattle.parser.specs.declared.operand.Argument.{Argument}
use Rattle.parser.specs.declared.operand.Argument.TheVariants as argument
use Rattle.parser.specs.Numbers.{register_of, integer_of}

pub data ArgumentView : Type 0 where
  register : ℕ → ArgumentView
  integer : ℕ → ArgumentView
  named : List ℕ → ℕ → ArgumentView

abbrev pub view_argument : Argument → ArgumentView
view_argument (argument.Register n) = register n
view_argument (argument.Integer n) = integer n
view_argument (argument.Label w) = named w.text.now w.place

abbrev pub left : {A B : Type 0} → (A → B) → Option A → Cursor → Option (B × List ℕ)
left view r line = option_map (λ x. (view x, line.rest.now)) r

-- a call answers what f says of the line before it, whose width stays
abbrev pub Reads : {A B : Type 0} → (ℕ → List ℕ → Option (B × List ℕ)) → (A → B) → Option A → Cursor → Cursor → Type 0
Reads f view r before after = (left view r after ≡ f before.width before.rest.now) × (after.width ≡ before.width)

abbrev pub and_then : {A B : Type 0} → Option A → (A → Option B) → Option B
and_then (Some x) f = f x
and_then None f = None

abbrev pub label : List ℕ → Bool
label w = nat_lt 1 (length w) && length (past Name w) == 0

abbrev pub argument_from : Kind → List ℕ → ℕ → Option ArgumentView
argument_from Register w place = option_map register (register_of w)
argument_from Integer w place = option_map integer (integer_of w)
argument_from Label w place = cond (label w) (Some (named w place)) None
argument_from Mnemonic w place = None
argument_from Colon w place = None
argument_from Comma w place = None
argument_from End w place = None
argument_from Unknown w place = None

abbrev pub argument_of : Seen → Option ArgumentView
argument_of t = argument_from t.kind t.text t.place

abbrev pub on_comma : Kind → List ℕ → Option (List ℕ)
on_comma Comma rest = Some rest
on_comma Label rest = None
on_comma Mnemonic rest = None
on_comma Register rest = None
on_comma Integer rest = None
on_comma Colon rest = None
on_comma End rest = None
on_comma Unknown rest = None

abbrev pub comma_in : List ℕ → Option (List ℕ)
comma_in bs = on_comma (kind_in bs) (rest_in bs)

abbrev pub is_end : Kind → Bool
is_end End = true
is_end Label = false
is_end Mnemonic = false
is_end Register = false
is_end Integer = false
is_end Colon = false
is_end Comma = false
is_end Unknown = false

abbrev pub ended : List ℕ → Bool
ended bs = is_end (kind_in bs)

abbrev pub operand_in : ℕ → List ℕ → Option (ArgumentView × List ℕ)
operand_in width bs = option_map (λ a. (a, rest_in bs)) (argument_of (token_in width bs))

abbrev pub on_register : ArgumentView → List ℕ → Option (ℕ × List ℕ)
on_register (register n) rest = Some (n, rest)
on_register (integer n) rest = None
on_register (named w place) rest = None

abbrev pub register_in : ℕ → List ℕ → Option (ℕ × List ℕ)
register_in width bs = and_then (operand_in width bs) (λ x. on_register x.0 x.1)
