use Rattle.std.proofs.Common.{sym, ◌∙◌}
use Rattle.rept_order.specs.Ordered.{course_in}
use Rattle.rept_order.specs.Runs.{moment_named}
use Rattle.rept_order.proofs.Decide.{earlier_true, earlier_from}
use Rattle.rept_order.proofs.order.Order.earlier.Goals as goal

pub returns : goal.returns
returns c = (
  λ k. earlier_true (course_in c.args.self.now) c.requires.sound (moment_named c.args.m) (moment_named c.args.w) c.requires.first c.requires.second (sym c.is_earlier.ensures ∙ k),
  λ k. c.is_earlier.ensures ∙ earlier_from (course_in c.args.self.now) c.requires.sound (moment_named c.args.m) (moment_named c.args.w) k,
)
