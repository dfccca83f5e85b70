use Rattle.std.proofs.Common.{◌≡◌, ◌++◌, map}
use Rattle.std.specs.List.{range_with_len}
use Rattle.rept_remote.specs.Moves.Spots.{address_in}
use Rattle.rept_remote.proofs.moves.spots.push_addresses.Given as goal

abbrev pub invariant-loop-i : goal.invariant-loop-i
invariant-loop-i l = l.addresses.items ≡ l.fn.addresses.items ++ map (address_in l.region) (range_with_len 0 l.i)
