use Rattle.std.proofs.Common.{sym, subst}
use Rattle.rept_steps.specs.Course.{Course, IsSoundCourse}
use Rattle.rept_extents.proofs.Acting.{extent_is}
use Rattle.rept_extents.proofs.extents.window.Goals as goal

pub returns-then-stores : goal.returns-then-stores
returns-then-stores c some = extent_is c.args.many.now (subst (λ (C : Course). IsSoundCourse C) (sym c.requires.course) c.requires.sound) c.args.row (record { from = c.from-from.result; to = c.to-to.result }) c.from-from.ensures c.to-to.ensures
