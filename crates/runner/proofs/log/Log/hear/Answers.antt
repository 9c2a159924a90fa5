use Rattle.std.proofs.Common.{rules}
use Rattle.std.proofs.lemmas.List.{nil_from_length}
use Rattle.runner.proofs.Onward.{onward, onward_word, onward_end}
use Rattle.runner.proofs.log.Log.hear.Goals as goal

pub returns-in-Some : goal.returns-in-Some
returns-in-Some c =
    let s = c.args.self.now in
    rw c.make.ensures (onward {s = s} c.in-Some.unread (onward_word c.requires.going c.requires.more c.args.by c.requires.by c.requires.asks c.in-Some.field-0-0.now c.in-Some.unread.now (search rules)))

pub returns-in_default : goal.returns-in_default
returns-in_default c =
    let s = c.args.self.now in
    rw c.make-in_default.ensures (onward {s = s} s.unread (onward_end c.requires.going c.requires.more c.args.by c.requires.by c.requires.asks (nil_from_length s.unread.now c.in_default.ensures.cases)))
