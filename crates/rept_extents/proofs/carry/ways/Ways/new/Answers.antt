use Rattle.std.proofs.Common.{sym, subst}
use Rattle.rept_steps.specs.Runs.{course_of}
use Rattle.rept_report.specs.Moments.{AreMoments}
use Rattle.rept_moments.specs.Seen.{SeenMoments}
use Rattle.rept_extents.proofs.carry.ways.Ways.new.Goals as goal

pub with_links-requires : goal.with_links-requires
with_links-requires c = subst (λ (s : SeenMoments). AreMoments s.legs s.moments) (sym c.in_ok-course.ensures.ok) (c.numbers_are_names.ensures.moments (course_of c.args.run.now) c.requires.sound)
