-- The product of two sizes of at most 2^31 has at most 30 bits above the low 32.
use Rattle.std.proofs.Common.{◌^◌, ◌≤◌, arith}
use Rattle.std.proofs.lemmas.Nat.{mul-le}
use Rattle.word.proofs.outcome.smulh.Goals as goal

pub overflow_add-result : goal.overflow_add-result
overflow_add-result c =
    let p : c.from.result ≤ 2 ^ 31 = omega (arith, c.magnitude.ensures.bound) in
    let q : c.from-2.result ≤ 2 ^ 31 = omega (arith, c.magnitude-2.ensures.bound) in
    record { fits = omega (arith, mul-le c.from.result c.from-2.result (2 ^ 31) (2 ^ 31) p q) }
