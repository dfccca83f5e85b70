use Rattle.std.proofs.Common.{◌≡◌, ◌≤◌, ◌<◌, ◌/◌, ◌∙◌, List, ap, arith, length, map, rules, sym}
use Rattle.std.specs.Prelude.{Some}
use Rattle.std.proofs.lemmas.List.{take_all, with_items_is}
use Rattle.rept_elf.specs.Naming.{answered, asked_among, asked_of}
use Rattle.rept_elf.specs.SectionParts.{entry_of}
use Rattle.rept_elf.specs.Symbols.{ElfSymbol, symbols}
use Rattle.rept_elf.specs.declared.naming.SymbolSearch.{SymbolSearch}
use Rattle.rept_elf.proofs.NamingLemmas.{one_symbol}
use Rattle.rept_elf.proofs.SymbolLemmas.{length-symbols, slice_get-symbols}
use Rattle.rept_elf.proofs.naming.first_functions.Goals as goal

pub loop-index-preserved : goal.loop-index-preserved
loop-index-preserved c =
    let table = c.args.table.now in
    let e = entry_of c.table_entry-entry.result in
    one_symbol (symbols table) c.loop-index.index e c.args.addresses.now (map asked_of c.loop-index.asked.items) _ (omega (arith, length-symbols table, c.loop-index-test.true))
    (slice_get-symbols table c.loop-index.index c.loop-index-test.true ∙ ap Some (sym c.table_entry-entry.ensures)) c.loop-index.invariant
    (ap (map asked_of) (with_items_is c.loop-index.asked c.answer.new.asked (search rules)) ∙ c.answer.ensures ∙ ap (λ (xs : List SymbolSearch). map (answered e) (map asked_of xs)) c.as_mut_slice.ensures.value)

pub returns : goal.returns
returns c =
    let all : length (symbols c.args.table.now) ≤ c.loop-index.index = omega (arith, length-symbols c.args.table.now, c.loop-index-test.false) in
    c.loop-index.invariant ∙ ap (λ (front : List ElfSymbol). map (asked_among front) c.args.addresses.now) (take_all c.loop-index.index (symbols c.args.table.now) all)
