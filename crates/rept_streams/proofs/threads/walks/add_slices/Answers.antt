use Rattle.std.proofs.Common.{refl}
use Rattle.rept_streams.proofs.ThreadsLemmas.Walking.{none_left}
use Rattle.rept_streams.proofs.threads.walks.add_slices.Goals as goal

pub loop-i-init : goal.loop-i-init
loop-i-init c = refl

pub returns-in_default-clause-ok : goal.returns-in_default-clause-ok
returns-in_default-clause-ok c = none_left _ _ _ _ _ c.loop-i.walked.items c.loop-i.i c.loop-i.invariant c.in_default.ensures.lookup.3
