use Rattle.std.proofs.Common.{refl}
use Rattle.rept_moments.proofs.Beginning.{lowering_step}
use Rattle.rept_moments.proofs.begins.lower.Goals as goal

pub loop-place-preserved : goal.loop-place-preserved
loop-place-preserved c = lowering_step _ c.loop-place.list.items _ c.loop-place.place c.loop-place.least c.sooner-least.result c.index-begun.result.now c.loop-place-test.true c.loop-place.invariant c.index-begun.ensures c.sooner-least.ensures refl
