use Rattle.std.proofs.Common.{◌≡◌, take}
use Rattle.std.specs.List.{flat_map}
use Rattle.rept_remote.specs.Moves.Spots.{accesses_of}
use Rattle.rept_remote.proofs.moves.spots.Spots.accessed.Given as goal

abbrev pub invariant-loop-region : goal.invariant-loop-region
invariant-loop-region l = l.addresses.items ≡ flat_map accesses_of (take l.region-index l.self.regions)
