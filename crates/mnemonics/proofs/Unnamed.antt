-- A text that is not a mnemonic's name.
-- Assumes nothing.
use Rattle.std.proofs.Common.{◌≡◌, ℕ, List, false, rules}
use Rattle.std.proofs.lemmas.Slice.Eq.{bytes_eq-Decides}
use Rattle.std.specs.Str.{bytes_eq}
use Rattle.encoding.specs.declared.mnemonic.Mnemonic.{Mnemonic}
use Rattle.mnemonics.specs.Names.{name_of, is_named}

differs : {xs ys : List ℕ} → (ys ≡ xs → ⊥) → bytes_eq xs ys ≡ false
differs {xs = xs} {ys = ys} f = search (rules, bytes_eq-Decides)

pub unnamed : {w : List ℕ} (m : Mnemonic) → (w ≡ name_of m → ⊥) → is_named w m ≡ false
unnamed m f = differs f
