-- What the calls of a list leave, made one by one. Assumes nothing.
use Rattle.std.proofs.Common.{◌≡◌, ℕ, suc, ◌+◌, ◌<◌, ◌≤◌, List, length, get_or, drop, sym, ap, ◌∙◌, arith, drop-cons}
use lib.Seq.{drop-length}
use Rattle.dossier.specs.Meaning.{Meaning}
use Rattle.rules.specs.declared.call.Call.{Call}
use Rattle.rules.specs.declared.progress.Progress.{Progress}
use Rattle.rules.specs.Course.{begun, called, after_from, after}

pub one_made : (m n : Meaning) (p q r : Progress) (cs : List Call) (i : ℕ) (d : Call) → i < length cs → n ≡ m → r ≡ called n q (get_or cs i d) → after_from m q (drop i cs) ≡ p → after_from m r (drop (i + 1) cs) ≡ p
one_made m n p q r cs i d lt same made rest =
    let e : i + 1 ≡ suc i = omega arith in
    ap (λ (x : Progress). after_from m x (drop (i + 1) cs)) (made ∙ ap (λ (x : Meaning). called x q (get_or cs i d)) same)
    ∙ ap (λ k. after_from m (called m q (get_or cs i d)) (drop k cs)) e
    ∙ sym (ap (after_from m q) (drop-cons cs i d lt)) ∙ rest

pub all_made : (m n : Meaning) (q r : Progress) (cs : List Call) (i : ℕ) → length cs ≤ i → i ≤ length cs → n ≡ m → r ≡ begun m → after_from n q (drop i cs) ≡ after_from n r cs → q ≡ after m cs
all_made m n q r cs i least most same start rest =
    let e : i ≡ length cs = omega arith in
    sym (ap (λ k. after_from n q (drop k cs)) e ∙ ap (after_from n q) (drop-length cs)) ∙ rest
    ∙ ap (λ (x : Meaning). after_from x r cs) same ∙ ap (λ (x : Progress). after_from m x cs) start
