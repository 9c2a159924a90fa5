use Rattle.std.proofs.Common.{None, Option, sym, refl, subst}
use Rattle.std.proofs.lemmas.List.{get_or-replicate}
use Rattle.layers.specs.declared.cache.Stored.{Stored}
use Rattle.layers.specs.Cache.{Stands}
use Rattle.layers.proofs.cache.RowCache.new.Goals as goal

pub returns : goal.returns
returns g c = record {
  rule = (c.requires, λ i h. subst (λ (s : Option Stored). Stands (g.D.Dossier.meaning c.args.below) s) (sym (get_or-replicate 32 i None None h)) tt);
  meant = refl;
  empty = refl;
}
