use Rattle.std.proofs.Common.{◌≡◌, drop}
use Rattle.std.specs.List.{find}
use Rattle.rept_elf.specs.Sections.{sections, is_symbol_table}
use Rattle.rept_elf.proofs.section.symbol_section.Given as goal

-- the sections that are left decide
abbrev pub invariant-loop-index : goal.invariant-loop-index
invariant-loop-index l = find is_symbol_table (sections l.bytes) ≡ find is_symbol_table (drop l.index (sections l.bytes))
