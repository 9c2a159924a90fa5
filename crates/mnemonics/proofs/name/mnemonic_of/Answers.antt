use Rattle.std.proofs.Common.{◌++◌, sym, ap, ◌∙◌}
use Rattle.std.specs.List.{find}
use Rattle.std.specs.Option.{option_or}
use Rattle.std.proofs.lemmas.List.Folds.{find-append}
use Rattle.mnemonics.specs.Names.{is_named, computing, comparing, others}
use Rattle.mnemonics.proofs.name.mnemonic_of.Goals as goal

pub returns : goal.returns
returns c =
    let named = is_named c.args.text.now in
    c.or-2.ensures
    ∙ ap (λ r. option_or r c.other.result) (c.or.ensures ∙ ap (λ r. option_or r c.comparing.result) c.computing.ensures ∙ ap (option_or (find named computing)) c.comparing.ensures ∙ sym (find-append named computing comparing))
    ∙ ap (option_or (find named (computing ++ comparing))) c.other.ensures ∙ sym (find-append named (computing ++ comparing) others)
