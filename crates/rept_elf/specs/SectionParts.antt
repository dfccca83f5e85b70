-- A section and a symbol of the code as those of the file.
use Rattle.rept_elf.specs.Sections.{ElfSection}
use Rattle.rept_elf.specs.Symbols.{ElfSymbol, SymbolTables}
use Rattle.rept_elf.specs.declared.section.Section.{Section}
use Rattle.rept_elf.specs.declared.symbol.TableEntry.{TableEntry}
use Rattle.rept_elf.specs.declared.symbol.SymbolBytes.{SymbolBytes}

-- the fields of a section
abbrev pub section_of : Section → ElfSection
section_of s = record { kind = s.kind; offset = s.offset; size = s.size; link = s.link }

-- the fields of a symbol
abbrev pub entry_of : TableEntry → ElfSymbol
entry_of s = record { name = s.name; value = s.value; size = s.size; info = s.info; section = s.section }

-- the bytes of the two tables
abbrev pub tables_of : SymbolBytes → SymbolTables
tables_of t = record { entries = t.entries.now; names = t.names.now }
