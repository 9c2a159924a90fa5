-- Past the 16 registers nothing is written.
use Rattle.std.proofs.Common.{◌≡◌, ◌≤◌, length, arith, rules}
use Rattle.std.proofs.lemmas.List.{set_past}
use Rattle.machine.specs.State.{written}
use Rattle.machine.proofs.cpu.Cpu.write.Goals as goal

pub returns-else-i-lt16 : goal.returns-else-i-lt16
returns-else-i-lt16 c =
    let n : length c.args.self.registers ≡ 16 = search rules in
    let h : length c.args.self.registers ≤ c.args.i = omega arith in
    simp (set_past, written)
