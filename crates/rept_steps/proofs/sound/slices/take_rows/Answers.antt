use Rattle.std.proofs.Common.{◌<◌, ◌∙◌, sym, drop, arith}
use Rattle.rept_steps.proofs.Deciding.{too_far}
use Rattle.rept_steps.proofs.sound.slices.take_rows.Goals as goal

pub returns-then-from : goal.returns-then-from
returns-then-from c =
    let past : c.args.rows < c.loop-slice.from = omega (arith, c.from.ensures, c.if-from.true) in
    sym (c.loop-slice.invariant.0 ∙ too_far c.loop-slice.from (drop c.loop-slice.slice-index c.args.slices.now) c.args.rows past)
