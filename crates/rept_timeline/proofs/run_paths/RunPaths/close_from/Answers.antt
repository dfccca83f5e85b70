use Rattle.std.proofs.Common.{◌<◌, ◌≤◌, ℕ, length, sym, subst, ◌∙◌}
use Rattle.rept_moments.specs.declared.course.NumberedRun.{NumberedRun}
use Rattle.rept_report.specs.Timeline.{IsLeastFrom}
use Rattle.rept_extents.specs.Timelines.{time_of, IsCloseFrom}
use Rattle.rept_timeline.proofs.Lists.{sound_of}
use Rattle.rept_timeline.proofs.Making.{many_storing, close_alone}
use Rattle.rept_timeline.proofs.run_paths.RunPaths.close_from.Goals as goal

pub close_from-requires-clause-sound : goal.close_from-requires-clause-sound
close_from-requires-clause-sound c = sound_of c.in-Many.many c.args.self.now.storing (many_storing c.args.self.now.ways c.in-Many.many c.args.self.now.storing (sym c.course.ensures.value ∙ c.in-Many.is) c.args.self.now.listed)

pub returns-in-One : goal.returns-in-One
returns-in-One c =
    let low : IsLeastFrom (λ (i : ℕ). (i < length c.in-One.steps.now) × (c.args.row ≤ i)) c.args.least c.least_below.result = subst (λ (n : ℕ). IsLeastFrom (λ (i : ℕ). (i < n) × (c.args.row ≤ i)) c.args.least c.least_below.result) c.len.ensures.value c.least_below.ensures in
    subst (λ (d : NumberedRun). IsCloseFrom (time_of d) c.args.row c.args.least c.least_below.result) (sym (sym c.course.ensures.value ∙ c.in-One.is)) (close_alone c.in-One.steps.now c.args.row c.args.least c.least_below.result low)
