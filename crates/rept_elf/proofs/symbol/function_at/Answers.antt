use Rattle.std.proofs.Common.{◌≡◌, ◌≤◌, ◌∙◌, sym, ap, length, arith}
use Rattle.std.specs.Prelude.{Some, slice_get}
use Rattle.rept_elf.specs.Symbols.{symbols, is_function_at}
use Rattle.rept_elf.specs.SectionParts.{entry_of}
use Rattle.rept_elf.proofs.SymbolLemmas.{find_hit, find_miss, find_none, length-symbols, slice_get-symbols}
use Rattle.rept_elf.proofs.symbol.function_at.Goals as goal

pub returns-then-is_function_at : goal.returns-then-is_function_at
returns-then-is_function_at c =
    let at : slice_get (symbols c.args.table.now) c.loop-index.index ≡ Some (entry_of c.table_entry-entry.result) =
    slice_get-symbols c.args.table.now c.loop-index.index c.loop-index-test.true ∙ ap Some (sym c.table_entry-entry.ensures) in
    sym (c.loop-index.invariant ∙ find_hit (is_function_at c.args.a) (symbols c.args.table.now) c.loop-index.index (entry_of c.table_entry-entry.result) at (sym c.is_function_at.ensures ∙ c.if-is_function_at.true))

pub loop-index-preserved : goal.loop-index-preserved
loop-index-preserved c =
    let at : slice_get (symbols c.args.table.now) c.loop-index.index ≡ Some (entry_of c.table_entry-entry.result) =
    slice_get-symbols c.args.table.now c.loop-index.index c.loop-index-test.true ∙ ap Some (sym c.table_entry-entry.ensures) in
    c.loop-index.invariant ∙ find_miss (is_function_at c.args.a) (symbols c.args.table.now) c.loop-index.index (entry_of c.table_entry-entry.result) at (sym c.is_function_at.ensures ∙ c.if-is_function_at.false)

pub returns : goal.returns
returns c =
    let all : length (symbols c.args.table.now) ≤ c.loop-index.index = omega (arith, length-symbols c.args.table.now, c.loop-index-test.false) in
    sym (c.loop-index.invariant ∙ find_none (is_function_at c.args.a) (symbols c.args.table.now) c.loop-index.index all)
