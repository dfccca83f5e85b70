use Rattle.std.proofs.Common.{◌≡◌, map, take}
use Rattle.std.specs.Option.{option_map}
use Rattle.rept_elf.specs.SectionParts.{tables_of}
use Rattle.rept_elf.specs.Symbols.{symbol_of}
use Rattle.rept_elf.proofs.NamingLemmas.{name_of}
use Rattle.rept_elf.proofs.naming.symbols_in.Given as goal

abbrev pub invariant-loop-sought : goal.invariant-loop-sought
invariant-loop-sought l = map (option_map symbol_of) l.found.items ≡ map (name_of (tables_of l.tables).names) (take l.sought-index l.sought-items)
