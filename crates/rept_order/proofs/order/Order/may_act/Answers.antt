use Rattle.std.proofs.Common.{sym, ◌∙◌}
use Rattle.rept_order.specs.Ordered.{course_in}
use Rattle.rept_order.specs.Runs.{moment_named, act_named}
use Rattle.rept_order.proofs.Acting.{may_act_true, may_act_from}
use Rattle.rept_order.proofs.order.Order.may_act.Goals as goal

pub returns : goal.returns
returns c = (
  λ k. may_act_true (course_in c.args.self.now) c.requires.sound (act_named c.args.act) (moment_named c.args.m) (moment_named c.args.w) c.requires.act c.requires.first c.requires.second (sym c.may_act_between.ensures ∙ k),
  λ k. c.may_act_between.ensures ∙ may_act_from (course_in c.args.self.now) c.requires.sound (act_named c.args.act) (moment_named c.args.m) (moment_named c.args.w) c.requires.act c.requires.first c.requires.second k,
)
