use Rattle.std.proofs.Common.{◌<◌, ◌≤◌, ℕ, length, sym, subst, ◌∙◌}
use Rattle.rept_moments.specs.declared.course.NumberedRun.{NumberedRun}
use Rattle.rept_report.specs.Timeline.{IsLeastFrom}
use Rattle.rept_extents.specs.Timelines.{time_of, IsOpenFrom}
use Rattle.rept_timeline.proofs.Making.{many_storing, open_alone}
use Rattle.rept_timeline.proofs.run_paths.RunPaths.open_from.Goals as goal

pub open_from-requires-clause-listed : goal.open_from-requires-clause-listed
open_from-requires-clause-listed c = (many_storing c.args.self.now.ways c.in-Many.many c.args.self.now.storing (sym c.course.ensures.value ∙ c.in-Many.is) c.args.self.now.listed)

pub returns-in-One : goal.returns-in-One
returns-in-One c =
    let low : IsLeastFrom (λ (i : ℕ). (i < length c.in-One.steps.now) × (c.args.number ≤ i)) c.args.least c.least_below.result = subst (λ (n : ℕ). IsLeastFrom (λ (i : ℕ). (i < n) × (c.args.number ≤ i)) c.args.least c.least_below.result) c.len.ensures.value c.least_below.ensures in
    subst (λ (d : NumberedRun). IsOpenFrom (time_of d) c.args.number c.args.least c.least_below.result) (sym (sym c.course.ensures.value ∙ c.in-One.is)) (open_alone c.in-One.steps.now c.args.number c.args.least c.least_below.result low)
