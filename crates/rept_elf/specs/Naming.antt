-- Addresses whose functions are looked for together (the project's own).
use Rattle.std.specs.Prelude.{ℕ, List, Bool, ◌&&◌, Option, None, Some, is_none, if◌then◌else◌}
use Rattle.std.specs.List.{find}
use Rattle.std.specs.Option.{option_map}
use Rattle.rept_elf.specs.SectionParts.{entry_of}
use Rattle.rept_elf.specs.Symbols.{ElfSymbol, is_function_at}
use Rattle.rept_elf.specs.declared.naming.SymbolSearch.{SymbolSearch}

-- an address, and the symbol of its function, where one was found
pub record Asked : Type 0 where
  pub address : ℕ
  pub found : Option ElfSymbol

abbrev pub asked_of : SymbolSearch → Asked
asked_of s = record { address = s.address; found = option_map entry_of s.found }

-- what is found of an address among these symbols
abbrev pub asked_among : List ElfSymbol → ℕ → Asked
asked_among symbols a = record { address = a; found = find (is_function_at a) symbols }

-- the address still wants a symbol, and this is one of its function
abbrev pub wants : ElfSymbol → Asked → Bool
wants e s = is_none s.found && is_function_at s.address e

-- what is found of it with one symbol more
abbrev pub answered : ElfSymbol → Asked → Asked
answered e s = if wants e s then record { address = s.address; found = Some e } else s
