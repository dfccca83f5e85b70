use Rattle.rept_timeline.proofs.Lists.{sound_of}
use Rattle.rept_timeline.proofs.Stripping.{stays_all}
use Rattle.rept_timeline.proofs.strips.stays.Goals as goal

pub returns-clause-yes : goal.returns-clause-yes
returns-clause-yes c = λ yes. stays_all c.args.many.now (sound_of c.args.many.now c.args.storing.now c.requires.listed) c.args.pause c.args.number c.requires.two (c.do_rows_stay.ensures.yes yes) (c.does_untraced_stay.ensures.yes c.if-not-does_untraced_stay.false)
