use Rattle.std.proofs.Common.{sym, ◌∙◌, arith}
use Rattle.rept_moments.proofs.Places.{leg_below}
use Rattle.rept_moments.proofs.Told.{after_own, after_merged}
use Rattle.rept_moments.proofs.many.Many.after.Goals as goal

pub is_merged-requires : goal.is_merged-requires
is_merged-requires c = let less = leg_below c.args.self.now c.args.row c.requires in omega arith

pub overflow_add-row : goal.overflow_add-row
overflow_add-row c = let less = leg_below c.args.self.now c.args.row c.requires in let few = c.is_merged.ensures.few in omega arith

pub moment_at-requires : goal.moment_at-requires
moment_at-requires c = let less = leg_below c.args.self.now c.args.row c.requires in omega arith

pub number-requires : goal.number-requires
number-requires c = let less = leg_below c.args.self.now c.args.row c.requires in omega arith

pub returns-then-is_merged : goal.returns-then-is_merged
returns-then-is_merged c = after_merged c.args.self.now c.args.row c.requires c.moment_at.result (sym c.is_merged.ensures.value ∙ c.if-is_merged.true) c.moment_at.ensures

pub returns-else-is_merged : goal.returns-else-is_merged
returns-else-is_merged c = after_own c.args.self.now c.args.row c.requires c.number.result (sym c.is_merged.ensures.value ∙ c.if-is_merged.false) c.number.ensures
