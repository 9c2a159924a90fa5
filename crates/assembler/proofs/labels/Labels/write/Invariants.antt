use Rattle.std.proofs.Common.{◌≡◌, ◌+◌, length}
use Rattle.lexer.specs.Lines.{lines}
use Rattle.assembler.specs.Labels.{known}
use Rattle.assembler.specs.Program.{program, overlaid}
use Rattle.assembler.proofs.labels.Labels.write.Given as goal

abbrev pub invariant-loop-line : goal.invariant-loop-line
invariant-loop-line l =
    let left = program (known l.self) (lines l.line-iterator.0.now) in
    let whole = program (known l.self) (lines l.text) in
    record {
      count : l.at + length left ≡ length whole;
      table : overlaid l.at left l.table ≡ overlaid 0 whole l.initial.table;
    }
