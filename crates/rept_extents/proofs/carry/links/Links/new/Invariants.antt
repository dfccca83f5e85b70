use Rattle.rept_moments.specs.Courses.{seen_in}
use Rattle.rept_extents.specs.Carry.Links.{AreRoomFor, AreLinked}
use Rattle.rept_extents.proofs.CarryLemmas.Linking.{IsBelow}
use Rattle.rept_extents.proofs.carry.links.Links.new.Given as goal

abbrev pub invariant-loop-from : goal.invariant-loop-from
invariant-loop-from l = record {
  room : AreRoomFor (seen_in l.course).moments l.links;
  linked : AreLinked (IsBelow (seen_in l.course).moments l.from) l.links;
}
