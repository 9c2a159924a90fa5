-- Words and their four bytes, both ways. Assumes nothing.
use Rattle.std.specs.Prelude.{◌≡◌, ℕ, zero, suc, ◌+◌, ◌*◌, ◌/◌, ◌%◌, ◌^◌, ◌<◌, ◌≤◌, List, [], ◌∷◌, ◌++◌, length, take, drop, slice_index, slice_index_or}
use Rattle.std.proofs.Common.{sym, ap, ◌∙◌, mod-eq_of_lt, arith}
use Rattle.std.proofs.Math.Nat.{div-div-eq-div-mul}
use borrow.Rule.Slice.PartMut.{put_mid}
use Rattle.std.specs.List.{flat_map}
use Rattle.std.proofs.lemmas.List.{take_more, drop_more, drop_all, flat_map_more}
use Rattle.std.proofs.lemmas.Nat.{div-mul-add, mod-mul-add, div_below, div-add-mod'}
use Rattle.std.proofs.lemmas.Slice.{take-put_mid}
use Rattle.dossier.specs.Numbers.{Words}
use Rattle.field.specs.Bytes.{Bytes, bytes_of, word_at, words_at}

pub split : (n q w r : ℕ) → n ≡ q * w + r → r < w → (n / w ≡ q) × (n % w ≡ r)
split n q w r e h = (ap (λ x. x / w) e ∙ div-mul-add q w r h, ap (λ x. x % w) e ∙ mod-mul-add q w r h)

pub word_back : (n : ℕ) → n < 2 ^ 32 → n % 256 + n / 256 % 256 * 256 + n / 65536 % 256 * 65536 + n / 16777216 % 256 * 16777216 ≡ n
word_back n h =
    let p : n / 256 / 256 ≡ n / 65536 = div-div-eq-div-mul n 256 256 in
    let q : n / 65536 / 256 ≡ n / 16777216 = div-div-eq-div-mul n 65536 256 in
    let small : n / 16777216 < 256 = div_below n 16777216 256 (omega arith) (omega arith) in
    let top : n / 16777216 % 256 ≡ n / 16777216 = mod-eq_of_lt small in
    let r0 = div-add-mod' n 256 in
    let r1 = div-add-mod' (n / 256) 256 in
    let r2 = div-add-mod' (n / 65536) 256 in
    omega arith

bytes_back : (a b c d : ℕ) → a < 256 → b < 256 → c < 256 → d < 256 → bytes_of (a + b * 256 + c * 65536 + d * 16777216) ≡ a ∷ b ∷ c ∷ d ∷ []
bytes_back a b c d ha hb hc hd =
    let n = a + b * 256 + c * 65536 + d * 16777216 in
    let s0 = split n (b + c * 256 + d * 65536) 256 a (omega arith) ha in
    let s1 = split (n / 256) (c + d * 256) 256 b (s0.0 ∙ omega arith) hb in
    let s2 = split (n / 65536) d 256 c (sym (div-div-eq-div-mul n 256 256) ∙ s1.0 ∙ omega arith) hc in
    let top : n / 16777216 % 256 ≡ d = ap (λ x. x % 256) (sym (div-div-eq-div-mul n 65536 256) ∙ s2.0) ∙ mod-eq_of_lt hd in
    cc (s0.1, s1.1, s2.1)

word_small : (bs : List ℕ) (k : ℕ) → Bytes bs → k + 4 ≤ length bs → word_at bs k < 2 ^ 32
word_small bs k small h =
    let a : slice_index_or bs k 0 < 256 = small k (omega arith) in
    let b : slice_index_or bs (k + 1) 0 < 256 = small (k + 1) (omega arith) in
    let c : slice_index_or bs (k + 2) 0 < 256 = small (k + 2) (omega arith) in
    let d : slice_index_or bs (k + 3) 0 < 256 = small (k + 3) (omega arith) in
    omega arith

word_only : (bs : List ℕ) (k : ℕ) → Bytes bs → k + 4 ≤ length bs → bytes_of (word_at bs k) ++ drop (k + 4) bs ≡ drop k bs
word_only bs k small h =
    let a : slice_index_or bs k 0 < 256 = small k (omega arith) in
    let b : slice_index_or bs (k + 1) 0 < 256 = small (k + 1) (omega arith) in
    let c : slice_index_or bs (k + 2) 0 < 256 = small (k + 2) (omega arith) in
    let d : slice_index_or bs (k + 3) 0 < 256 = small (k + 3) (omega arith) in
    let e = bytes_back (slice_index bs k) (slice_index bs (k + 1)) (slice_index bs (k + 2)) (slice_index bs (k + 3)) a b c d in
    let p = drop_more bs k 0 (omega arith) in
    let q = drop_more bs (k + 1) 0 (omega arith) in
    let r = drop_more bs (k + 2) 0 (omega arith) in
    let s = drop_more bs (k + 3) 0 (omega arith) in
    let two : k + 1 + 1 ≡ k + 2 = omega arith in
    let three : k + 2 + 1 ≡ k + 3 = omega arith in
    let four : k + 3 + 1 ≡ k + 4 = omega arith in
    ap (λ (x : List ℕ). x ++ drop (k + 4) bs) e ∙ cc

pub words_only : (bs : List ℕ) (k n : ℕ) → Bytes bs → length bs ≡ k + 4 * n → flat_map bytes_of (words_at bs k n) ≡ drop k bs
words_only bs k zero small h = sym (drop_all k bs (omega arith))
words_only bs k (suc n) small h = ap (λ (x : List ℕ). bytes_of (word_at bs k) ++ x) (words_only bs (k + 4) n small (omega arith)) ∙ word_only bs k small (omega arith)

pub words_fit : (bs : List ℕ) (k n : ℕ) → Bytes bs → length bs ≡ k + 4 * n → Words (words_at bs k n)
words_fit bs k zero small h = tt
words_fit bs k (suc n) small h = (word_small bs k small (omega arith), words_fit bs (k + 4) n small (omega arith))

-- a loop that has put i words puts one more
pub words_more : (ws bs ys : List ℕ) (i k : ℕ) → i < length ws → 4 * i ≤ length bs → take (4 * i) bs ≡ flat_map bytes_of (take i ws) → ys ≡ bytes_of (slice_index ws i) → take (4 * (i + 1)) (put_mid (4 * i) k bs ys) ≡ flat_map bytes_of (take (i + 1) ws)
words_more ws bs ys i k within room before e =
    let four : length ys ≡ 4 = ap length e in
    let step = take-put_mid (4 * i) k bs ys (4 * (i + 1)) (omega arith) room in
    let more = flat_map_more bytes_of [] (take i ws) (slice_index ws i) in
    let last = take_more ws i 0 within in
    step ∙ cc
