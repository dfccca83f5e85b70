use Rattle.std.proofs.Common.{Option, subst, arith}
use Rattle.std.specs.Prelude.{IfSome}
use Rattle.std.specs.Option.{IsSome}
use Rattle.rept_order.specs.Legs.{leg_row}
use Rattle.rept_moments.specs.declared.side.PointSide.{PointSide}
use Rattle.rept_moments.proofs.Places.{leg_below}
use Rattle.rept_moments.proofs.nexts.with_end.Goals as goal

pub end-requires : goal.end-requires
end-requires c = let less = leg_below c.args.points.now c.in-Some.side.point (subst (λ (o : Option PointSide). IfSome o (λ s. IsSome (leg_row c.args.points.now s.point))) c.in-Some.is c.requires) in omega arith
