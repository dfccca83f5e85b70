use Rattle.std.proofs.Common.{◌≡◌, map, take}
use Rattle.rept_elf.specs.Symbols.{symbols}
use Rattle.rept_elf.specs.Naming.{asked_among, asked_of}
use Rattle.rept_elf.proofs.naming.first_functions.Given as goal

abbrev pub invariant-loop-index : goal.invariant-loop-index
invariant-loop-index l = map asked_of l.asked.items ≡ map (asked_among (take l.index (symbols l.table))) l.addresses
