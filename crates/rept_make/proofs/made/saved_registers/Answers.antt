use Rattle.std.proofs.Common.{ℕ, ◌∙◌, ap, arith}
use Rattle.std.proofs.Math.ListN.{length-set}
use Rattle.rept_machine.specs.Machine.{state_of}
use Rattle.rept_make.proofs.Saving.{pc_kept, one_saved}
use Rattle.rept_make.proofs.made.saved_registers.Goals as goal

pub loop-r-preserved : goal.loop-r-preserved
loop-r-preserved c =
    let i = c.loop-r.invariant in
    let auto = c.loop-r.auto in
    let from = c.from.ensures in
    let test = c.loop-r-test.true in
    let reg : ℕ → ℕ = (state_of c.args.machine.now).register in
    record {
      size = simp length-set i.size;
      pc = pc_kept c.loop-r.saved c.from.result c.reg.result _ (omega arith) i.pc;
      saved = λ k some less. one_saved c.loop-r.saved (state_of c.args.machine.now).register c.from.result c.loop-r.r c.reg.result k from (let size = i.size in omega arith) (c.reg.ensures ∙ ap (state_of c.args.machine.now).register c.register.ensures) i.saved some less;
    }
