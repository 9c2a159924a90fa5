use Rattle.std.proofs.Common.{rules, sym, refl, ◌∙◌}
use Rattle.runner.proofs.Onward.{onward, onward_plain}
use Rattle.runner.proofs.log.Log.step.Goals as goal

pub returns-in-Halt : goal.returns-in-Halt
returns-in-Halt c =
    let s = c.args.self.now in
    rw c.make-in-Halt.ensures (onward {s = s} s.unread (onward_plain c.requires.going c.requires.more _ c.fetch-by.ensures _ _ (rw (sym c.asks.ensures ∙ c.in-Halt.is) (refl, refl))))

pub returns-in-Nothing : goal.returns-in-Nothing
returns-in-Nothing c =
    let s = c.args.self.now in
    rw c.make.ensures (onward {s = s} s.unread (onward_plain c.requires.going c.requires.more _ c.fetch-by.ensures _ _ (rw (sym c.asks.ensures ∙ c.in-Nothing.is) (refl, refl))))

pub returns-in-Primary : goal.returns-in-Primary
returns-in-Primary c =
    let s = c.args.self.now in
    rw c.make-in-Primary.ensures (onward {s = s} s.unread (onward_plain c.requires.going c.requires.more _ c.fetch-by.ensures _ _ (rw (sym c.asks.ensures ∙ c.in-Primary.is) (search rules, refl))))
