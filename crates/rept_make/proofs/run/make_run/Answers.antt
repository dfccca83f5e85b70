use Rattle.std.proofs.Common.{◌≡◌, [], List, length, sym, ap, subst}
use Rattle.rept_isa.specs.declared.row.StepRow.{StepRow}
use Rattle.rept_make.specs.Ran.{RanRows}
use Rattle.rept_make.proofs.Running.{ran_first, start_of}
use Rattle.rept_make.proofs.run.make_run.Goals as goal

pub loop-i-init : goal.loop-i-init
loop-i-init c =
    let m = c.new-machine.ensures in
    let none : c.new-steps.result ≡ [] = c.new-steps.ensures in
    let regs = c.requires.registers in
    record {
      ran = subst (λ (rows : List StepRow). RanRows c.args.seed c.args.code.now c.new-machine.result rows) (sym none) (ran_first c.args.seed c.args.code.now c.new-machine.result m.code m.base m.pc (λ r. start_of c.args.seed c.args.registers _ r regs (m.registers r)) m.memory m.state);
      size = ap (length {A = StepRow}) none;
    }
