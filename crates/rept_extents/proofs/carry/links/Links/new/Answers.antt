use Rattle.std.proofs.Common.{◌≡◌, ℕ, subst, arith}
use Rattle.rept_moments.specs.Courses.{seen_in}
use Rattle.rept_extents.specs.Carry.Links.{AreLinked}
use Rattle.rept_extents.proofs.CarryLemmas.Linking.{IsBelow, below_more, below_all}
use Rattle.rept_extents.proofs.carry.links.Links.new.Goals as goal

pub loop-from-preserved : goal.loop-from-preserved
loop-from-preserved c = record {
  room = c.in_ok-add_nexts.ensures.room;
  linked = below_more (seen_in c.args.course.now).moments c.loop-from.from c.loop-from.links c.add_nexts.new.self c.loop-from.invariant.linked c.in_ok-add_nexts.ensures.adds;
}

pub returns : goal.returns
returns c =
    let M = (seen_in c.args.course.now).moments in
    let last : c.loop-from.from ≡ c.end-end.result = omega (arith, c.loop-from-test.false, c.loop-from.auto.from-end) in
    below_all M (seen_in c.args.course.now).legs c.end-end.result c.loop-from.links c.add_nexts-2.new.self c.requires.laws c.end-end.ensures
    (subst (λ (k : ℕ). AreLinked (IsBelow M k) c.loop-from.links) last c.loop-from.invariant.linked)
    c.in_ok-add_nexts-2.ensures.adds
