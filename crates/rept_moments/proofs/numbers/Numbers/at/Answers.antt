use Rattle.std.proofs.Common.{◌<◌, ℕ, refl, sym, ap, subst}
use Rattle.rept_moments.specs.Numbering.{Numbered}
use Rattle.rept_moments.proofs.Numbering.{at_some, at_none, at_inside}
use Rattle.rept_moments.proofs.numbers.Numbers.at.Goals as goal

pub returns-in-Some-clause-is : goal.returns-in-Some-clause-is
returns-in-Some-clause-is c = at_some c.self.inside.list.items c.deref.result.now c.args.self.now.list c.args.number c.in-Some.side.now c.deref.ensures.value (ap (λ (n : Numbered). n.list) c.self.view_is) c.in-Some.ensures.lookup.0 c.in-Some.ensures.lookup.1

pub returns-in-Some-clause-inside : goal.returns-in-Some-clause-inside
returns-in-Some-clause-inside c = subst (λ (n : ℕ). c.in-Some.side.now.point < n) (ap (λ (n : Numbered). n.points) c.self.view_is) (at_inside _ c.args.number _ c.in-Some.side.now c.self.invariant.inside (sym (at_some c.self.inside.list.items c.deref.result.now _ c.args.number c.in-Some.side.now c.deref.ensures.value refl c.in-Some.ensures.lookup.0 c.in-Some.ensures.lookup.1)))

pub returns-in-None-clause-is : goal.returns-in-None-clause-is
returns-in-None-clause-is c = at_none c.self.inside.list.items c.deref.result.now c.args.self.now.list c.args.number c.deref.ensures.value (ap (λ (n : Numbered). n.list) c.self.view_is) c.in-None.ensures.lookup.3
