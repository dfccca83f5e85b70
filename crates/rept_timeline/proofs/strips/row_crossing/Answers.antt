use Rattle.std.proofs.Common.{false, true, Some, None, refl}
use Rattle.rept_timeline.proofs.Steady.{crossing_row, crossing_still}
use Rattle.rept_timeline.proofs.strips.row_crossing.Goals as goal

pub returns-in-Some : goal.returns-in-Some
returns-in-Some c = crossing_row c.args.many.now c.args.number (record { is_crossed = true; hint = record { row = Some c.in-Some.row; still = None } }) c.in-Some.row c.in-Some.ensures c.requires.apart refl refl refl

pub returns-in-None : goal.returns-in-None
returns-in-None c = crossing_still c.args.many.now c.args.number (record { is_crossed = false; hint = record { row = None; still = Some c.args.number } }) c.in-None.ensures c.requires.light refl refl refl
