use Rattle.std.proofs.Common.{◌+◌, Some, refl}
use Rattle.rept_timeline.proofs.Steady.{not_true, not_false}
use Rattle.rept_timeline.proofs.Stripping.{clear_more, crossed_more, two_of}
use Rattle.rept_timeline.proofs.strips.longer.Goals as goal

pub returns-then-not-crossing : goal.returns-then-not-crossing
returns-then-not-crossing c = clear_more c.args.many.now c.args.strip (record { first = c.args.strip.first; last = c.args.strip.last + 1; pause = c.args.strip.pause }) c.requires.part refl refl c.requires.inside c.requires.joined refl (c.requires.crossing.clear (not_true c.args.crossing.is_crossed c.if-not-crossing.true))

pub stays_if-requires-clause-two : goal.stays_if-requires-clause-two
stays_if-requires-clause-two c = λ p some. two_of c.args.many.now c.args.strip p c.requires.part some c.requires.inside c.requires.joined (c.requires.crossing.apart (not_false c.args.crossing.is_crossed c.if-not-crossing.false))

pub returns : goal.returns
returns c = crossed_more c.args.many.now c.args.strip (record { first = c.args.strip.first; last = c.args.strip.last + 1; pause = Some c.args.strip.last }) c.requires.part refl refl c.requires.inside c.requires.joined refl (c.requires.crossing.crossed (not_false c.args.crossing.is_crossed c.if-not-crossing.false)) (c.requires.crossing.apart (not_false c.args.crossing.is_crossed c.if-not-crossing.false)) (c.stays_if.ensures.yes c.if-not-stays_if.false)
