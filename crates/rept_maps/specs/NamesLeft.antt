-- The names that are still to come.
use Rattle.std.specs.Prelude.{ℕ, List, take}
use Rattle.rept_maps.specs.FileMap.{parts}
use Rattle.rept_maps.specs.declared.names.Names.{Names}

abbrev pub names_left : Names → List (List ℕ)
names_left n = take n.left (parts n.rest.now)
