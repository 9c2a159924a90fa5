use Rattle.std.proofs.Common.{◌≡◌, ◌+◌, ◌≤◌, length}
use Rattle.std.specs.Iterator.Adapters.{enumerate_source, enumerate_count}
use Rattle.lexer.specs.Lines.{lines}
use Rattle.assembler.specs.Labels.{summary, none}
use Rattle.assembler.specs.Scan.{scanned}
use Rattle.assembler.proofs.labels.Labels.scan.Given as goal

abbrev pub invariant-loop-i : goal.invariant-loop-i
invariant-loop-i l =
    let left = lines (enumerate_source l.i-iterator).0.now in
    record {
      fits : enumerate_count l.i-iterator + length left ≤ length l.text;
      scanned : scanned (2 + enumerate_count l.i-iterator) (summary l.labels) left ≡ scanned 2 none (lines l.text);
    }
