use Rattle.std.proofs.Common.{◌≡◌, drop}
use Rattle.std.specs.List.{find}
use Rattle.rept_elf.specs.Symbols.{symbols, is_function_at}
use Rattle.rept_elf.proofs.symbol.function_at.Given as goal

-- the symbols that are left decide
abbrev pub invariant-loop-index : goal.invariant-loop-index
invariant-loop-index l = find (is_function_at l.a) (symbols l.table) ≡ find (is_function_at l.a) (drop l.index (symbols l.table))
