-- The first token of what is left of a line.
--   Kind             what a token is
--   start_of c next  the kind of what starts with the byte c and goes on with next
--   kind_in bs       the kind of the first token of bs
--   text_in bs       its text, which a mark and an end have not
--   rest_in bs       what follows it
--   token_at p bs    the first token of bs, which has no blank in front, at place p
--   token_in w bs    the token, with its place in the line of w bytes that bs is the end of
--   seen token       a token by its kind, its text and its place
--   after_mark c bs  what follows the byte c at the very front of bs
-- Assumes nothing.
use Rattle.std.specs.Prelude.{ℕ, ◌-◌, cond, ◌&&◌, ◌||◌, List, [], length, drop, Some, None, Option, ◌==◌, slice_index}
use Rattle.lexer.specs.declared.class.Class.TheVariants.{Blank, Word}
use Rattle.lexer.specs.declared.token.Token.{Token}
use Rattle.lexer.specs.declared.token.Token.TheVariants as token
use Rattle.lexer.specs.Classes.{between, front, past}

pub data Kind : Type 0 where
  Label : Kind
  Mnemonic : Kind
  Register : Kind
  Integer : Kind
  Colon : Kind
  Comma : Kind
  End : Kind
  Unknown : Kind

pub record Seen : Type 0 where
  pub kind : Kind
  pub text : List ℕ
  pub place : ℕ

abbrev pub seen : Token → Seen
seen (token.Label w) = record { kind = Label; text = w.text.now; place = w.place }
seen (token.Mnemonic w) = record { kind = Mnemonic; text = w.text.now; place = w.place }
seen (token.Register w) = record { kind = Register; text = w.text.now; place = w.place }
seen (token.Integer w) = record { kind = Integer; text = w.text.now; place = w.place }
seen (token.Colon p) = record { kind = Colon; text = []; place = p }
seen (token.Comma p) = record { kind = Comma; text = []; place = p }
seen (token.End p) = record { kind = End; text = []; place = p }
seen (token.Unknown p) = record { kind = Unknown; text = []; place = p }

abbrev pub start_of : ℕ → ℕ → Kind
start_of c next =
    cond (c == 59) End
    (cond (c == 58) Colon
    (cond (c == 44) Comma
    (cond (c == 95) Label
    (cond (c == 45 || between 48 57 c) Integer
    (cond (c == 114 && between 48 57 next) Register
    (cond (between 97 122 c) Mnemonic Unknown))))))

-- of a text with no blank in front
abbrev pub kind_of : List ℕ → Kind
kind_of bs = cond (length bs == 0) End (start_of (slice_index bs 0) (slice_index bs 1))

abbrev pub text_of : Kind → List ℕ → List ℕ
text_of Label bs = front Word bs
text_of Mnemonic bs = front Word bs
text_of Register bs = front Word bs
text_of Integer bs = front Word bs
text_of Colon bs = []
text_of Comma bs = []
text_of End bs = []
text_of Unknown bs = []

abbrev pub rest_of : Kind → List ℕ → List ℕ
rest_of Label bs = past Word bs
rest_of Mnemonic bs = past Word bs
rest_of Register bs = past Word bs
rest_of Integer bs = past Word bs
rest_of Colon bs = drop 1 bs
rest_of Comma bs = drop 1 bs
rest_of End bs = bs
rest_of Unknown bs = bs

abbrev pub kind_in : List ℕ → Kind
kind_in bs = kind_of (past Blank bs)

abbrev pub text_in : List ℕ → List ℕ
text_in bs = text_of (kind_in bs) (past Blank bs)

abbrev pub rest_in : List ℕ → List ℕ
rest_in bs = rest_of (kind_in bs) (past Blank bs)

abbrev pub place_in : ℕ → List ℕ → ℕ
place_in width bs = width - length (past Blank bs)

-- of a text with no blank in front
abbrev pub token_at : ℕ → List ℕ → Seen
token_at place bs = record { kind = kind_of bs; text = text_of (kind_of bs) bs; place = place }

abbrev pub token_in : ℕ → List ℕ → Seen
token_in width bs = record { kind = kind_in bs; text = text_in bs; place = place_in width bs }

abbrev pub after_mark : ℕ → List ℕ → Option (List ℕ)
after_mark c bs = cond (slice_index bs 0 == c) (Some (drop 1 bs)) None
