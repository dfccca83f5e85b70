use Rattle.std.proofs.Common.{◌≡◌, drop}
use Rattle.std.specs.List.{find}
use Rattle.rept_elf.specs.Symbols.{symbols, is_named}
use Rattle.rept_elf.proofs.symbol.named_entry.Given as goal

-- the symbols that are left decide
abbrev pub invariant-loop-index : goal.invariant-loop-index
invariant-loop-index l = find (is_named l.tables.names.now l.sought) (symbols l.tables.entries.now) ≡ find (is_named l.tables.names.now l.sought) (drop l.index (symbols l.tables.entries.now))
