use Rattle.rept_timeline.proofs.Steady.{still_end}
use Rattle.rept_timeline.proofs.strips.first_other.Goals as goal

pub returns-in-None : goal.returns-in-None
returns-in-None c = still_end c.args.many.now c.args.number c.loop-row.from c.requires.inside c.requires.next c.requires.apart c.loop-row.invariant.own c.in-None.ensures
