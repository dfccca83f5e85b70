use Rattle.std.proofs.Common.{◌≡◌, take, map}
use Rattle.rept_maps.specs.Mapped.Naming.{own_of}
use Rattle.rept_maps.specs.Mapped.Views.{asked_of}
use Rattle.rept_maps.proofs.mapped.naming.own_addresses.Given as goal

abbrev pub invariant-loop-one : goal.invariant-loop-one
invariant-loop-one l = l.owns.items ≡ map own_of (map asked_of (take l.one-index l.asked))
