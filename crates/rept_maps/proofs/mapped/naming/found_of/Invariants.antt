use Rattle.std.proofs.Common.{◌≡◌, take, map}
use Rattle.std.specs.Option.{option_map}
use Rattle.rept_elf.specs.Symbols.{symbol_of}
use Rattle.rept_maps.specs.Mapped.Naming.{found_of}
use Rattle.rept_maps.specs.Mapped.Views.{asked_of}
use Rattle.rept_maps.proofs.mapped.naming.found_of.Given as goal

abbrev pub invariant-loop-one : goal.invariant-loop-one
invariant-loop-one l = map (option_map symbol_of) l.found.items ≡ map found_of (map asked_of (take l.one-index l.asked))
