-- What `strip_prefix` leaves of a text behind a character of one byte. Assumes nothing.
use Rattle.std.proofs.Common.{◌≡◌, ◌≢◌, ℕ, ◌+◌, ◌<◌, List, [], ◌∷◌, length, drop, Some, None, Option, Bor, refl, sym, ap, eq-eqb, arith}
use Rattle.std.specs.Prelude.{MatchOption}
use Rattle.std.specs.Option.{option_copied}
use Rattle.std.specs.Str.Pattern.{FindsCharPrefix}
use Rattle.std.proofs.lemmas.Bool.Decides.{nat_tests}
use Rattle.std.proofs.lemmas.Str.Pattern.{strip_prefix_char}
use Rattle.lexer.specs.Tokens.{after_mark}

differs : (c : ℕ) (bs : List ℕ) → 0 < c → ((rest : List ℕ) → bs ≢ c ∷ rest) → None ≡ after_mark c bs
differs c [] some h = grind (arith, nat_tests)
differs c (b ∷ bs) some h = let off : b ≢ c = λ e. h bs (ap (λ x. x ∷ bs) e) in grind (arith, nat_tests)

same : (c : ℕ) (bs rest : List ℕ) → bs ≡ c ∷ rest → Some rest ≡ after_mark c bs
same c [] rest e = absurd (cc)
same c (b ∷ bs) rest e =
    let first : b ≡ c = cc in
    let others : bs ≡ rest = cc in
    rw (eq-eqb b c first, others) refl

from_cases : (c : ℕ) (bs : List ℕ) (r : Option (Bor (List ℕ))) → 0 < c → MatchOption r ((rest : List ℕ) → bs ≢ c ∷ rest) (λ x. bs ≡ c ∷ x.now) → option_copied r ≡ after_mark c bs
from_cases c bs None some h = differs c bs some h
from_cases c bs (Some x) some h = same c bs x.now h

pub stripped : (c : ℕ) (bs : List ℕ) (r : Option (Bor (List ℕ))) → MatchOption r (FindsCharPrefix c bs None) (λ x. (n : ℕ) × FindsCharPrefix c bs (Some n) × (x.now ≡ drop n bs) × (length x.now + n ≡ length bs)) → 0 < c → c < 128 → option_copied r ≡ after_mark c bs
stripped c bs r h some low = from_cases c bs r some (strip_prefix_char c bs r h low)

pub unmarked : (c : ℕ) (bs : List ℕ) → FindsCharPrefix c bs None → 0 < c → c < 128 → after_mark c bs ≡ None
unmarked c bs h some low = sym (stripped c bs None h some low)
