use Rattle.rept_timeline.proofs.Lists.{sound_of}
use Rattle.rept_timeline.proofs.Steady.{still_too}
use Rattle.rept_timeline.proofs.strips.is_still_too.Goals as goal

pub returns : goal.returns
returns c = λ yes. still_too c.args.many.now (sound_of c.args.many.now c.args.storing.now c.requires.listed) c.args.still c.args.number c.requires.still c.requires.next c.requires.apart (c.are_together.ensures.0 c.if-not-are_together.false) (c.are_together-2.ensures.0 c.if-not-are_together-2.false) (c.are_together-3.ensures.0 yes) c.requires.inside
