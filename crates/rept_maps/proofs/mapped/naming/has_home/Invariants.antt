use Rattle.std.proofs.Common.{◌≡◌, drop, map}
use Rattle.rept_maps.specs.Mapped.Naming.{some_in}
use Rattle.rept_maps.specs.Mapped.Views.{asked_of}
use Rattle.rept_maps.proofs.mapped.naming.has_home.Given as goal

-- the addresses that are left decide
abbrev pub invariant-loop-one : goal.invariant-loop-one
invariant-loop-one l = some_in l.mapping (map asked_of l.asked) ≡ some_in l.mapping (map asked_of (drop l.one-index l.asked))
