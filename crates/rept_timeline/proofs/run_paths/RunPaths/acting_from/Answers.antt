use Rattle.std.proofs.Common.{sym, subst, ◌∙◌}
use Rattle.rept_moments.specs.declared.course.NumberedRun.{NumberedRun}
use Rattle.rept_report.specs.Timeline.{IsActingFrom}
use Rattle.rept_extents.specs.Timelines.{time_of}
use Rattle.rept_timeline.proofs.run_paths.RunPaths.acting_from.Goals as goal

pub returns-in-Many : goal.returns-in-Many
returns-in-Many c = subst (λ (d : NumberedRun). IsActingFrom (time_of d) c.args.number c.args.next c.args.least c.acting_from.result) (sym (sym c.course.ensures.value ∙ c.in-Many.is)) c.acting_from.ensures
