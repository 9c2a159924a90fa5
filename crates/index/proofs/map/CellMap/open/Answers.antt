use Rattle.std.proofs.Common.{rules, ◌≡◌, ◌+◌, ◌∷◌, ◌++◌, [], length, vec_items, set, sym, ap, ◌∙◌, arith}
use Rattle.std.specs.Vec.{with_items}
use Rattle.std.proofs.Math.Seq.{set-append_seam}
use Rattle.std.proofs.lemmas.List.{length-append, with_items_is}
use Rattle.index.proofs.Walk.{kept_longer}
use Rattle.index.proofs.map.CellMap.open.Goals as goal

pub insert-requires-clause-kept : goal.insert-requires-clause-kept
insert-requires-clause-kept c =
    let items : c.deref_mut.result.now ≡ vec_items c.self.inside.entries ++ c.args.entry ∷ [] = search rules in
    let number : c.len-number.result ≡ length (vec_items c.self.inside.entries) = search rules in
    rw (items, number) (kept_longer c.self.invariant.tree c.args.entry)

-- the entries after the call
module _ (c : goal.After-self-1) where
  more : c.insert.new.cells ≡ vec_items c.self.inside.entries ++ c.args.entry ∷ []
  more =
      let items : c.deref_mut.result.now ≡ vec_items c.self.inside.entries ++ c.args.entry ∷ [] = search rules in
      let number : c.len-number.result ≡ length (vec_items c.self.inside.entries) = search rules in
      c.insert.ensures.cells ∙ ap (λ l. set l c.len-number.result c.args.entry) items ∙ ap (λ n. set (vec_items c.self.inside.entries ++ c.args.entry ∷ []) n c.args.entry) number
      ∙ set-append_seam (vec_items c.self.inside.entries) c.args.entry [] c.args.entry

  long : length c.insert.new.cells ≡ c.len-number.result + 1
  long =
      let number : c.len-number.result ≡ length (vec_items c.self.inside.entries) = search rules in
      let e : length (vec_items c.self.inside.entries ++ c.args.entry ∷ []) ≡ length (vec_items c.self.inside.entries) + 1 = simp length-append (omega arith) in
      ap length more ∙ e ∙ ap (λ n. n + 1) (sym number)

  whole : vec_items (with_items c.push.new.self c.insert.new.cells) ≡ c.insert.new.cells
  whole =
      let len : length c.insert.new.cells ≡ c.push.new.self.len = search rules in
      with_items_is c.push.new.self c.insert.new.cells len

pub invariant_of-self-in-Free : goal.invariant_of-self-in-Free
invariant_of-self-in-Free c =
    let x = c.self.invariant in
    let n = long c in
    record {
      tree = rw (whole c, n) c.insert.ensures.kept;
      room = c.insert.ensures.room _ x.room;
      within = rw (whole c, n) (omega (arith, x.within, c.if-number-self.false));
      lent = omega (arith, c.push.ensures.capacity, x.lent);
    }

pub returns-in_ok-ok-in-Free-clause-apart : goal.returns-in_ok-ok-in-Free-clause-apart
returns-in_ok-ok-in-Free-clause-apart c = rw (whole c, long c) c.insert.ensures.kept.apart
