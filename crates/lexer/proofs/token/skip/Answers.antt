use Rattle.std.proofs.Common.{arith}
use Rattle.std.proofs.lemmas.Str.{lead_after_ascii}
use Rattle.lexer.proofs.token.skip.Goals as goal

pub range_from-requires : goal.range_from-requires
range_from-requires c = grind (arith, lead_after_ascii c.args.s.now 0 c.utf8.s)
