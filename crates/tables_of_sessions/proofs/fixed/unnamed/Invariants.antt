use Rattle.std.proofs.Common.{◌≡◌, map, take}
use Rattle.std.specs.Prelude.{None}
use Rattle.std.specs.Option.{option_map}
use Rattle.rept_elf.specs.Symbols.{symbol_of}
use Rattle.tables_of_sessions.proofs.fixed.unnamed.Given as goal

abbrev pub invariant-loop : goal.invariant-loop
invariant-loop l = map (option_map symbol_of) l.found.items ≡ map (λ _. None) (take l.index l.addresses)
