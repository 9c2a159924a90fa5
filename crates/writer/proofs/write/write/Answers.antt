use Rattle.std.proofs.Common.{◌≡◌, ℕ, ◌-◌, List, ◌++◌, length, drop, Ok, sym, ap, ◌∙◌, subst, arith, length-take}
use Rattle.dossier.specs.Meaning.{Meaning, Made, Readable}
use Rattle.codec.specs.Layout.{file_size}
use Rattle.codec.specs.Written.{written}
use Rattle.writer.specs.Write.{items_answer}
use Rattle.writer.proofs.Whole.{head_is, all_readable, write_ok, write_back}
use Rattle.writer.proofs.write.write.Goals as goal

pub put_items-requires : goal.put_items-requires
put_items-requires g c =
    let a = c.in_ok-head.ensures in
    let b = c.in_ok-try_items.ensures in
    let h = c.in_ok-head.head in
    let m = g.D.Dossier.meaning c.args.dossier.now in
    let same : g.D.Dossier.meaning c.try_items.new.dossier ≡ m = b.same ∙ a.same in
    let under = head_is m.head h a.answer in
    let answers : items_answer m ≡ Ok tt = ap items_answer (sym a.same) ∙ sym b.answer in
    record {
      rule = b.kept;
      under = record { made = subst Made (sym same) a.made; head = ap (λ (x : Meaning). x.head) same ∙ under };
      readable = subst Readable (sym same) (all_readable m h under answers);
      room = let e = length-take (c.file_size-size.result - 0) c.args.out.now in omega (arith, c.file_size-size.ensures, c.if-out-size.false);
    }

pub returns : goal.returns
returns g c =
    let a = c.in_ok-head.ensures in
    let b = c.in_ok-try_items.ensures in
    let p = c.put_items.ensures in
    let h = c.in_ok-head.head in
    let n = c.file_size-size.result in
    let out = c.args.out.now in
    let m = g.D.Dossier.meaning c.args.dossier.now in
    let same : g.D.Dossier.meaning c.try_items.new.dossier ≡ m = b.same ∙ a.same in
    let under = head_is m.head h a.answer in
    let answers : items_answer m ≡ Ok tt = ap items_answer (sym a.same) ∙ sym b.answer in
    let size : n ≡ file_size h = c.file_size-size.ensures in
    let none : n - 0 ≡ n = omega arith in
    let bytes = ap (λ (x : List ℕ). x ++ drop (n - 0) out) (p.bytes ∙ ap written same) ∙ ap (λ x. written m ++ drop x out) none in
    record {
      kept = p.kept;
      same = p.same ∙ same;
      answer = write_ok m h n (length out) a.answer answers size c.if-out-size.false;
      bytes = bytes;
      back = λ k e. let ok : n ≡ k = cc in write_back m h n k (c.put_items.new.out ++ drop (n - 0) out) (drop n out) under a.made (all_readable m h under answers) size bytes ok;
    }
