use Rattle.std.proofs.Common.{◌≡◌, ◌+◌, ◌≤◌, length}
use Rattle.std.specs.Iterator.Adapters.{enumerate_source, enumerate_count}
use Rattle.lexer.specs.Lines.{lines}
use Rattle.assembler.specs.Labels.{known}
use Rattle.assembler.specs.Program.{counting}
use Rattle.assembler.proofs.labels.Labels.entries.Given as goal

abbrev pub invariant-loop-i : goal.invariant-loop-i
invariant-loop-i l =
    let left = lines (enumerate_source l.i-iterator).0.now in
    record {
      fits : enumerate_count l.i-iterator + length left ≤ length l.text;
      few : l.needed ≤ enumerate_count l.i-iterator;
      counted : counting (2 + enumerate_count l.i-iterator) l.needed (known l.self) left ≡ counting 2 0 (known l.self) (lines l.text);
    }
