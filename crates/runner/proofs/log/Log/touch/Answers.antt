use Rattle.std.proofs.Common.{◌+◌, ◌-◌, get_or, set, Some, sym, refl, ap, ◌∙◌, add-one}
use Rattle.dossier.specs.declared.record.Row.TheVariants as row
use Rattle.runner.specs.Sofar.{link_to, later_touch}
use Rattle.runner.specs.Filling.{entry_at, config_at}
use Rattle.runner.proofs.Onward.{onward, onward_first, onward_later}
use Rattle.runner.proofs.log.Log.touch.Goals as goal

pub returns-in-Free : goal.returns-in-Free
returns-in-Free c =
    let s = c.args.self.now in
    let h = c.requires.going in
    let free = c.in-Free.ensures in
    rw (c.make.ensures, c.first_record-record.ensures) (onward {s = s} s.unread (
    onward_first h c.requires.more c.args.by c.requires.by c.args.cell c.requires.asks 0 c.after-value.result (h.filling.holds.clear c.args.cell free.0) c.after-value.ensures.value free.0 refl
    c.insert.new.self c.insert.new.cells (c.insert.ensures.cells ∙ ap (set s.cells.now s.touched) (c.opened-entry.ensures ∙ rw add-one refl)) c.insert.ensures.kept
    (c.insert.ensures.room _ h.filling.room)))

pub returns-in-Taken : goal.returns-in-Taken
returns-in-Taken c =
    let s = c.args.self.now in
    let h = c.requires.going in
    let k = c.in-Taken.number in
    let taken = c.in-Taken.ensures in
    let e = entry_at s.cells.now k in
    let value = c.after-value-in-Taken.result in
    let holds = ap (λ u. (config_at s.job s.steps).memory u) (sym taken.1) ∙ h.filling.holds.held k taken.0 in
    rw (c.make-in-Taken.ensures, c.later_record-record.ensures) (onward {s = s} s.unread (
    onward_later h c.requires.more c.args.by c.requires.by c.args.cell c.requires.asks e.value value holds c.after-value-in-Taken.ensures.value k taken.0 taken.1 refl
    c.linked.result row.Plain (
    c.linked.ensures
    ∙ ap (λ m. link_to (s.steps + 1) (get_or m.rows.now (e.last - 1) row.Plain)) c.make-in-Taken.ensures
    ∙ ap (λ r. link_to (s.steps + 1) (get_or (set s.rows.now s.steps (row.FromStep r)) (e.last - 1) row.Plain)) c.later_record-record.ensures)
    c.renew.new.cells (c.renew.ensures.cells ∙ rw add-one refl) c.renew.ensures.kept))
