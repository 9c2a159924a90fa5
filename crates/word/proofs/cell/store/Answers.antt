use Rattle.std.proofs.Common.{sym, subst}
use Rattle.word.specs.Cell.{Bytewise}
use Rattle.word.proofs.Bytes.{bytewise}
use Rattle.word.proofs.cell.store.Goals as goal

pub returns-clause-bytes : goal.returns-clause-bytes
returns-clause-bytes c = subst (Bytewise c.args.size c.args.address c.args.word c.args.cell) (sym c.put.ensures) (bytewise c.args.size c.args.address c.args.word c.args.cell)
