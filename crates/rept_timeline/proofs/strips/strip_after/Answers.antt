use Rattle.rept_moments.specs.Several.{seen_of}
use Rattle.rept_extents.specs.Timelines.{as_timeline}
use Rattle.rept_timeline.proofs.Stripping.{strip_same_more}
use Rattle.rept_timeline.proofs.strips.strip_after.Goals as goal

pub returns-then-number-strip : goal.returns-then-number-strip
returns-then-number-strip c = strip_same_more (as_timeline (seen_of c.args.many.now)) c.args.number c.args.strip c.if-number-strip.true c.requires.strip
