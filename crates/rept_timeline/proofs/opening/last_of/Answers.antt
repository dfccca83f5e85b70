use Rattle.std.proofs.Common.{arith}
use Rattle.rept_moments.proofs.Places.{leg_below}
use Rattle.rept_timeline.proofs.opening.last_of.Goals as goal

pub returns-in-None-clause-up : goal.returns-in-None-clause-up
returns-in-None-clause-up c =
    let under = leg_below c.args.many.now c.args.row c.requires in
    let past = c.in-None.ensures in
    absurd (omega arith)

pub returns-in-None-clause-inside : goal.returns-in-None-clause-inside
returns-in-None-clause-inside c =
    let under = leg_below c.args.many.now c.args.row c.requires in
    let past = c.in-None.ensures in
    absurd (omega arith)
