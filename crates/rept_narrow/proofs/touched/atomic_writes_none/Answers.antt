use Rattle.std.proofs.Common.{◌≡◌, ◌≢◌, ◌<◌, ◌≤◌, ◌+◌, ℕ, length, ◌∙◌, arith}
use Rattle.rept_narrow.proofs.Touching.{none_of_lr, none_of_sc, at_least}
use Rattle.rept_narrow.proofs.touched.atomic_writes_none.Goals as goal

pub returns-in-Lr : goal.returns-in-Lr
returns-in-Lr c = λ yes story run base a inside h. none_of_lr c.args.op c.args.rd base (run (c.args.index + 1)).register a c.in-Lr.is

pub returns-then-number-ne0 : goal.returns-then-number-ne0
returns-then-number-ne0 c = λ more story run base a inside h.
    let named : c.args.rd ≢ 0 = λ e. c.if-number-ne0.true (c.number.ensures.value ∙ e) in
    let le : c.args.index + 1 ≤ length story.rows = omega (arith, inside) in
    none_of_sc c.args.op c.args.rd base (run (c.args.index + 1)).register a c.in-Sc.is named (at_least c.at.result c.lo.result ((run (c.args.index + 1)).register c.args.rd) c.lo.ensures (grind (arith, more)) (h.sets (c.args.index + 1) c.args.rd c.at.result le c.at.ensures.value))
