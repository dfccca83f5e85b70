use Rattle.std.proofs.Common.{◌-◌, ◌∙◌, arith}
use Rattle.rept_encode.proofs.Cutting.{cut_more}
use Rattle.rept_encode.proofs.payload.cut.Goals as goal

pub loop-size-preserved : goal.loop-size-preserved
loop-size-preserved c =
    let more = c.loop-size-test.true in
    let same = c.if-payload-size.true in
    let i = c.loop-size.invariant in
    record {
      some = omega arith;
      within = omega arith;
      spells = λ widths packet h. cut_more widths c.args.payload.now c.loop-size.size packet more i.within (omega (arith, c.type_inv.payload (c.loop-size.size - 2))) (c.if-payload-size.true ∙ c.filler.ensures) (i.spells widths packet h);
    }
