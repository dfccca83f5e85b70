use Rattle.std.proofs.Common.{arith, ◌∙◌}
use Rattle.rept_ports.proofs.CallerLemmas.{Appends-from}
use Rattle.rept_ports.proofs.sink.write_all.Goals as goal

pub loop-done-preserved : goal.loop-done-preserved
loop-done-preserved g c = record {
  within = grind arith;
  bytes = Appends-from _ _ _ c.loop-done.done c.in_ok-count.count c.args.text.now c.loop-done.invariant.bytes c.in_ok-count.ensures.bytes;
  calm = c.in_ok-count.ensures.cause.calm ∙ c.loop-done.invariant.calm;
}
