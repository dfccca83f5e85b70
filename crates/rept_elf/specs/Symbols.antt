-- The symbols of a file: TIS ELF 1.2, book I, "Symbol Table" and "String Table". A symbol has 16
-- bytes. Only the first symbol table is looked at (the project's own).
use Rattle.std.specs.Prelude.{ℕ, ◌+◌, ◌*◌, ◌/◌, ◌%◌, max, List, length, take, drop, slice_index, slice_get, Bool, false, not, ◌==◌, ◌&&◌, nat_le, nat_lt, Option, None, Some}
use Rattle.std.specs.List.{find, position}
use Rattle.std.specs.Option.{option_map, option_and_then}
use Rattle.std.specs.Str.{bytes_eq}
use Rattle.rept_elf.specs.Header.{half_at, word_at}
use Rattle.rept_elf.specs.Sections.{ElfSection, sections, contents, entries_from, is_symbol_table}
use Rattle.rept_elf.specs.declared.symbol.Symbol.{Symbol}

-- a symbol of a table: `st_name`, the offset of its name in the table of names, `st_value`,
-- `st_size`, `st_info`, and `st_shndx`, the section that it is defined in
pub record ElfSymbol : Type 0 where
  pub name : ℕ
  pub value : ℕ
  pub size : ℕ
  pub info : ℕ
  pub section : ℕ

-- the symbol at an offset of a symbol table
abbrev pub symbol_from : List ℕ → ℕ → ElfSymbol
symbol_from table at = record {
  name = word_at table at;
  value = word_at table (at + 4);
  size = word_at table (at + 8);
  info = slice_index table (at + 12);
  section = half_at table (at + 14);
}

-- the symbols of a table in order; fewer bytes than a symbol has are none
abbrev pub symbols : List ℕ → List ElfSymbol
symbols table = entries_from (λ index. symbol_from table (16 * index)) 0 (length table / 16)

-- the symbol is a function's, `STT_FUNC`, and the address is the function's; a function of size 0
-- has one address
abbrev pub is_function_at : ℕ → ElfSymbol → Bool
is_function_at a s = (s.info % 16 == 2) && (nat_le s.value a && nat_lt a (s.value + max s.size 1))

-- the name at an offset of a table of names, without the zero byte that ends it; none where the
-- table has no such byte
abbrev pub name_at : List ℕ → ℕ → Option (List ℕ)
name_at names offset = option_map (λ end. take end (drop offset names)) (position (λ b. b == 0) (drop offset names))

-- a symbol table's bytes, and those of the table of its names
pub record SymbolTables : Type 0 where
  pub entries : List ℕ
  pub names : List ℕ

-- the tables of a symbol table's section: the section that it is linked to has the names
abbrev pub linked_tables : List ℕ → ElfSection → Option SymbolTables
linked_tables file s =
    option_and_then (λ entries. option_map (λ names. record { entries = entries; names = names }) (option_and_then (contents file) (slice_get (sections file) s.link)))
    (contents file s)

-- the tables of the file's first symbol table, where the file holds them
abbrev pub symbol_tables : List ℕ → Option SymbolTables
symbol_tables file = option_and_then (linked_tables file) (find is_symbol_table (sections file))

-- the name of a function, and the address of its first byte
pub record FunctionSymbol : Type 0 where
  pub name : List ℕ
  pub value : ℕ

-- a symbol with its name
abbrev pub named : List ℕ → ElfSymbol → Option FunctionSymbol
named names s = option_map (λ name. record { name = name; value = s.value }) (name_at names s.name)

-- the first function of these tables that has an address
abbrev pub function_in : SymbolTables → ℕ → Option FunctionSymbol
function_in tables a = option_and_then (named tables.names) (find (is_function_at a) (symbols tables.entries))

-- the function of the file that has an address
abbrev pub symbol_at : List ℕ → ℕ → Option FunctionSymbol
symbol_at file a = option_and_then (λ tables. function_in tables a) (symbol_tables file)

-- the name and the value of a symbol of the code
abbrev pub symbol_of : Symbol → FunctionSymbol
symbol_of s = record { name = s.name.now; value = s.value }

-- a name is this one
abbrev pub is_this : List ℕ → Option (List ℕ) → Bool
is_this sought None = false
is_this sought (Some name) = bytes_eq name sought

-- the symbol has this name, and an address of its own: its kind is `STT_NOTYPE`, `STT_OBJECT` or
-- `STT_FUNC`, and its section isn't `SHN_UNDEF`
abbrev pub is_named : List ℕ → List ℕ → ElfSymbol → Bool
is_named names sought s = nat_le (s.info % 16) 2 && not (s.section == 0) && is_this sought (name_at names s.name)

-- the address that the first such symbol of these tables has
abbrev pub address_in : SymbolTables → List ℕ → Option ℕ
address_in tables sought = option_map (λ s. s.value) (find (is_named tables.names sought) (symbols tables.entries))

-- the address that a file gives to a name
abbrev pub address_named : List ℕ → List ℕ → Option ℕ
address_named file sought = option_and_then (λ tables. address_in tables sought) (symbol_tables file)
