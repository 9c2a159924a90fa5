use Rattle.std.proofs.Common.{sym, ◌∙◌}
use Rattle.encoding.proofs.Inverse.{encoded_back}
use Rattle.encoding.proofs.operation.Operation.encode.Goals as goal

pub returns-clause-back : goal.returns-clause-back
returns-clause-back c = λ n e. encoded_back c.args.self n (sym c.write.ensures ∙ e)
