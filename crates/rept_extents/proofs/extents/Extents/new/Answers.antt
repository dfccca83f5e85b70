use Rattle.std.proofs.Common.{sym, subst}
use Rattle.rept_moments.specs.declared.course.NumberedRun.{NumberedRun}
use Rattle.rept_extents.specs.Timelines.{time_of}
use Rattle.rept_extents.specs.Extents.{AreExtents}
use Rattle.rept_extents.proofs.extents.Extents.new.Goals as goal

pub returns-in_ok-windows-in-Many-clause-extents : goal.returns-in_ok-windows-in-Many-clause-extents
returns-in_ok-windows-in-Many-clause-extents c = subst (λ (d : NumberedRun). AreExtents (time_of d) c.in_ok-windows-in-Many.field-0.items) (sym c.in-Many.is) c.in_ok-windows-in-Many.ensures
