-- Addresses whose functions are sought together, by the files that have them (the project's own).
use Rattle.std.specs.Prelude.{ℕ, List, [], ◌∷◌, Bool, ◌==◌, ◌||◌, false, Option, None, Some, nat_lt, slice_get, if◌then◌else◌}
use Rattle.std.specs.Option.{option_and_then, option_map, option_or}
use Rattle.rept_elf.specs.Symbols.{FunctionSymbol, symbol_at}
use Rattle.rept_maps.specs.Mapped.Mapped.{Mapping, moved}
use Rattle.rept_maps.specs.declared.mapped.naming.Home.{Home}

-- an address: where its function is sought, if a file has the address, and what is found
pub record AskedMapped : Type 0 where
  pub home : Option Home
  pub found : Option FunctionSymbol

-- a function of a file, as it stands in memory
abbrev pub moved_home : Home → FunctionSymbol → FunctionSymbol
moved_home h s = moved h.own h.address s

-- the function of an address in the file of a mapping
abbrev pub named_in : List ℕ → Home → Option FunctionSymbol
named_in file h = option_map (moved_home h) (symbol_at file h.own)

-- the file of the mapping of an index
abbrev pub file_at : List Mapping → ℕ → Option (List ℕ)
file_at ms i = option_and_then (λ m. m.file) (slice_get ms i)

-- the function of an address in memory
abbrev pub named_at : List Mapping → Home → Option FunctionSymbol
named_at ms h = option_and_then (λ file. named_in file h) (file_at ms h.mapping)

-- what is found in the end
abbrev pub in_the_end : List Mapping → AskedMapped → Option FunctionSymbol
in_the_end ms s = option_and_then (named_at ms) s.home

-- what is found by the files of the mappings below an index
abbrev pub so_far : List Mapping → ℕ → AskedMapped → Option FunctionSymbol
so_far ms i s = option_and_then (λ h. if nat_lt h.mapping i then named_at ms h else None) s.home

abbrev pub found_of : AskedMapped → Option FunctionSymbol
found_of s = s.found

-- whether an address is sought in the file of a mapping
abbrev pub is_in_home : ℕ → Option Home → Bool
is_in_home i None = false
is_in_home i (Some h) = h.mapping == i

abbrev pub is_in : ℕ → AskedMapped → Bool
is_in i s = is_in_home i s.home

abbrev pub some_in : ℕ → List AskedMapped → Bool
some_in i [] = false
some_in i (s ∷ ss) = is_in i s || some_in i ss

-- the address at which a file is asked; any one where no file has the address
abbrev pub own_at : Option Home → ℕ
own_at None = 0
own_at (Some h) = h.own

abbrev pub own_of : AskedMapped → ℕ
own_of s = own_at s.home

-- what is found with a function of the file of a mapping
abbrev pub or_named : ℕ → AskedMapped → Option FunctionSymbol → AskedMapped
or_named i s symbol = if is_in i s then record { home = s.home; found = option_or s.found (option_and_then (λ h. option_map (moved_home h) symbol) s.home) } else s

-- what is found with the file of a mapping
abbrev pub asked_in : List ℕ → ℕ → AskedMapped → AskedMapped
asked_in file i s = or_named i s (symbol_at file (own_of s))

-- what is found with the mapping of an index
abbrev pub with_file : List Mapping → ℕ → AskedMapped → AskedMapped
with_file ms i s = if is_in i s then record { home = s.home; found = option_or s.found (in_the_end ms s) } else s
