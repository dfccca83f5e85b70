use Rattle.std.proofs.Common.{◌≡◌, Bool, true, false, not, sym, arith}
use Rattle.std.proofs.lemmas.Bool.{false≢true}
use Rattle.rept_moments.proofs.Places.{leg_below}
use Rattle.rept_moments.proofs.Adding.{side_then, side_else}
use Rattle.rept_moments.proofs.many.Many.add_side.Goals as goal

is_off : (b : Bool) → not b ≡ true → b ≡ false
is_off true e = absurd (false≢true e)
is_off false e = λ i. false

is_on : (b : Bool) → not b ≡ false → b ≡ true
is_on true e = λ i. true
is_on false e = absurd (false≢true (sym e))

pub add_point-requires : goal.add_point-requires
add_point-requires c = let less = leg_below c.args.self.now c.args.side.point c.requires in omega arith

pub returns-in_ok-add_point : goal.returns-in_ok-add_point
returns-in_ok-add_point c = side_else c.args.self.now c.args.own c.args.side c.args.list.now.items c.add_after.new.list.items c.add_point.new.list.items (is_off c.args.side.is_after c.if-not-side.true) c.in_ok-add_after.ensures c.in_ok-add_point.ensures

pub returns-else-not-side : goal.returns-else-not-side
returns-else-not-side c = side_then c.args.self.now c.args.own c.args.side c.args.list.now.items c.add_after.new.list.items (is_on c.args.side.is_after c.if-not-side.false) c.in_ok-add_after.ensures
