use Rattle.std.proofs.Common.{◌-◌, length, vec_items}
use Rattle.index.proofs.Walk.{Going}
use Rattle.index.proofs.tree.Index.find.Given as goal

abbrev pub invariant-loop-count : goal.invariant-loop-count
invariant-loop-count l = Going l.self.roots (vec_items l.self.links) l.cells l.count l.cell l.slot l.rest

abbrev pub decreases-loop-count : goal.decreases-loop-count
decreases-loop-count l = length (vec_items l.self.links) - l.slot
