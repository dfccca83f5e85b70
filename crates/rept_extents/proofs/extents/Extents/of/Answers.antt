use Rattle.std.proofs.Common.{subst}
use Rattle.rept_moments.specs.declared.course.NumberedRun.{NumberedRun}
use Rattle.rept_extents.specs.Timelines.{time_of}
use Rattle.rept_extents.specs.Extents.{AreExtents}
use Rattle.rept_extents.proofs.extents.Extents.of.Goals as goal

pub among-requires-clause-extents : goal.among-requires-clause-extents
among-requires-clause-extents c = subst (λ (d : NumberedRun). ∥ AreExtents (time_of d) c.args.self.now ∥₁) c.in-Many.is c.requires.extents
