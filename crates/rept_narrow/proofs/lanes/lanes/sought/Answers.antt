use Rattle.std.proofs.Common.{◌≡◌, ◌-◌, ◌+◌, suc, length, ap, ◌∙◌, arith}
use Rattle.rept_narrow.specs.Lanes.{sought}
use Rattle.rept_narrow.proofs.lanes.lanes.sought.Goals as goal

pub loop-preserved : goal.loop-preserved
loop-preserved c =
    let less = c.loop-test.true in
    let fuel : length c.args.spans.now - c.loop.counter ≡ suc (length c.args.spans.now - (c.loop.counter + 1)) = omega (arith, less) in
    record {
      inside = c.half-ends.ensures.inside;
      same = c.loop.invariant.same ∙ ap (λ n. sought c.args.spans.now c.args.point c.args.address n c.loop.ends.0 c.loop.ends.1) fuel ∙ c.half-ends.ensures.same (length c.args.spans.now - (c.loop.counter + 1));
    }
