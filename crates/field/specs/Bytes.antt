-- Bytes, words of four bytes with the lowest first, and fields.
--   Bytes bs               every element is below 256
--   bytes_of n             the four bytes of a word
--   word_at bs k           the word whose first byte is at place k
--   words_at bs k n        n words, the first at place k
--   field_bytes t s p      the field of tag t and length s with the payload p
--   field_read t s f bs    what f reads from the payload, if bs is a field of tag t and length s
--   filled new old         new, where it has the length of old; else old
--   Form s f p q           payloads p of s bytes, read by q, and records of the numbers f answer each other
use Rattle.std.specs.Prelude.{◌≡◌, ℕ, zero, suc, ◌+◌, ◌*◌, ◌/◌, ◌%◌, ◌<◌, cond, ◌&&◌, List, [], ◌∷◌, length, drop, Some, None, Option, ◌==◌, slice_index}
use Rattle.dossier.specs.Numbers.{Fit}

abbrev pub Bytes : List ℕ → Type 0
Bytes bs = (k : ℕ) → k < length bs → slice_index bs k < 256

abbrev pub bytes_of : ℕ → List ℕ
bytes_of n = n % 256 ∷ n / 256 % 256 ∷ n / 65536 % 256 ∷ n / 16777216 % 256 ∷ []

abbrev pub word_at : List ℕ → ℕ → ℕ
word_at bs k = slice_index bs k + slice_index bs (k + 1) * 256 + slice_index bs (k + 2) * 65536 + slice_index bs (k + 3) * 16777216

abbrev pub words_at : List ℕ → ℕ → ℕ → List ℕ
words_at bs k zero = []
words_at bs k (suc n) = word_at bs k ∷ words_at bs (k + 4) n

abbrev pub field_bytes : ℕ → ℕ → List ℕ → List ℕ
field_bytes t s p = t ∷ s % 256 ∷ s / 256 ∷ p

abbrev pub field_read : {R : Type 0} → ℕ → ℕ → (List ℕ → Option R) → List ℕ → Option R
field_read t s f bs =
    cond (length bs == 3 + s && (slice_index bs 0 == t && slice_index bs 1 + slice_index bs 2 * 256 == s)) (f (drop 3 bs)) None

abbrev pub filled : List ℕ → List ℕ → List ℕ
filled new old = cond (length new == length old) new old

-- a payload gives its record back, and no other payload gives that record
pub record Form {R : Type 0} (s : ℕ) (numbers : R → List ℕ) (payload : R → List ℕ) (parsed : List ℕ → Option R) : Type 0 where
  pub long : (r : R) → length (payload r) ≡ s
  pub back : (r : R) → Fit numbers r → parsed (payload r) ≡ Some r
  pub only : (bs : List ℕ) (r : R) → Bytes bs → parsed bs ≡ Some r → bs ≡ payload r
  pub fits : (bs : List ℕ) (r : R) → Bytes bs → parsed bs ≡ Some r → Fit numbers r
