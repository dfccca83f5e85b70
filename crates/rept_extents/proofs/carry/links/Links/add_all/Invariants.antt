use Rattle.std.proofs.Common.{◌≡◌, length}
use Rattle.rept_extents.specs.Carry.Links.{AddsPairs}
use Rattle.rept_extents.proofs.CarryLemmas.Linking.{IsPairTo}
use Rattle.rept_extents.proofs.carry.links.Links.add_all.Given as goal

abbrev pub invariant-loop-to : goal.invariant-loop-to
invariant-loop-to l = record {
  onward : length l.self.onward.items ≡ length l.fn.self.onward.items;
  back : length l.self.back.items ≡ length l.fn.self.back.items;
  adds : AddsPairs (IsPairTo l.from l.list l.to-index) l.fn.self l.self;
}
