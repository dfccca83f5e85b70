use Rattle.std.proofs.Common.{arith}
use Rattle.std.proofs.lemmas.List.FromFn.{map-range_with_len_more}
use Rattle.std.proofs.lemmas.Grind.{common_steps}
use Rattle.rept_remote.specs.Moves.Spots.{address_in}
use Rattle.rept_remote.proofs.moves.spots.push_addresses.Goals as goal

pub loop-i-preserved : goal.loop-i-preserved
loop-i-preserved c = rw (map-range_with_len_more (address_in c.args.region) 0 c.loop-i.i c.loop-i.i (omega arith)) (grind (arith, common_steps))
