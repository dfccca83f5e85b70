use Rattle.std.proofs.Common.{◌≡◌, ◌≤◌, ◌∙◌, sym, ap, length, arith}
use Rattle.std.specs.Prelude.{Some, slice_get}
use Rattle.rept_elf.specs.Symbols.{symbols, is_named}
use Rattle.rept_elf.specs.SectionParts.{entry_of}
use Rattle.rept_elf.proofs.SymbolLemmas.{find_hit, find_miss, find_none, length-symbols, slice_get-symbols}
use Rattle.rept_elf.proofs.symbol.named_entry.Goals as goal

pub returns-then-is_named : goal.returns-then-is_named
returns-then-is_named c =
    let at : slice_get (symbols c.args.tables.now.entries.now) c.loop-index.index ≡ Some (entry_of c.table_entry-entry.result) =
    slice_get-symbols c.args.tables.now.entries.now c.loop-index.index c.loop-index-test.true ∙ ap Some (sym c.table_entry-entry.ensures) in
    sym (c.loop-index.invariant ∙ find_hit (is_named c.args.tables.now.names.now c.args.sought.now) (symbols c.args.tables.now.entries.now) c.loop-index.index (entry_of c.table_entry-entry.result) at (sym c.is_named.ensures ∙ c.if-is_named.true))

pub loop-index-preserved : goal.loop-index-preserved
loop-index-preserved c =
    let at : slice_get (symbols c.args.tables.now.entries.now) c.loop-index.index ≡ Some (entry_of c.table_entry-entry.result) =
    slice_get-symbols c.args.tables.now.entries.now c.loop-index.index c.loop-index-test.true ∙ ap Some (sym c.table_entry-entry.ensures) in
    c.loop-index.invariant ∙ find_miss (is_named c.args.tables.now.names.now c.args.sought.now) (symbols c.args.tables.now.entries.now) c.loop-index.index (entry_of c.table_entry-entry.result) at (sym c.is_named.ensures ∙ c.if-is_named.false)

pub returns : goal.returns
returns c =
    let all : length (symbols c.args.tables.now.entries.now) ≤ c.loop-index.index = omega (arith, length-symbols c.args.tables.now.entries.now, c.loop-index-test.false) in
    sym (c.loop-index.invariant ∙ find_none (is_named c.args.tables.now.names.now c.args.sought.now) (symbols c.args.tables.now.entries.now) c.loop-index.index all)
