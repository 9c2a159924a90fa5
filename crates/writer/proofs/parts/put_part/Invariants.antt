use Rattle.std.proofs.Common.{◌≡◌, ◌+◌, ◌*◌, ◌++◌, take}
use Rattle.std.specs.List.{flat_map}
use Rattle.codec.specs.Written.{item_bytes}
use Rattle.writer.proofs.parts.put_part.Given as goal

abbrev pub invariant-loop-place : goal.invariant-loop-place
invariant-loop-place g l =
    g.D.Dossier.rule l.dossier ×
    (g.D.Dossier.meaning l.dossier ≡ g.D.Dossier.meaning l.initial.dossier) ×
    (take (g.R.FilePart.start l.head + (3 + g.R.Kind.SIZE) * l.place) l.out ≡ take (g.R.FilePart.start l.head) l.initial.out ++ flat_map (item_bytes g.R.Kind.TAG g.R.Kind.SIZE g.R.Kind.payload) (take l.place (g.R.ListedRecord.list (g.D.Dossier.meaning l.initial.dossier))))
