use Rattle.std.proofs.Common.{false, true, refl, sym, ◌∙◌}
use Rattle.rept_timeline.proofs.Lists.{sound_of}
use Rattle.rept_timeline.proofs.Steady.{crossing_own, crossing_untraced}
use Rattle.rept_timeline.proofs.strips.crossing_at.Goals as goal

pub returns-in-Some : goal.returns-in-Some
returns-in-Some c = crossing_own c.args.many.now c.args.number (record { is_crossed = false; hint = c.args.hint }) (sound_of c.args.many.now c.args.storing.now c.requires.listed) c.in-Some._own c.requires.next c.in-Some.ensures refl c.requires.hint

pub returns-then-is_untraced_between : goal.returns-then-is_untraced_between
returns-then-is_untraced_between c = crossing_untraced c.args.many.now c.args.number (record { is_crossed = true; hint = c.args.hint }) (sym c.is_untraced_between.ensures ∙ c.if-is_untraced_between.true) c.in-None.ensures refl c.requires.hint
