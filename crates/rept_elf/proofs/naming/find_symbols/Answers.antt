use Rattle.std.proofs.Common.{◌≡◌, ◌∙◌, List, ap, map, subst, sym}
use Rattle.std.specs.Prelude.{IfOk, Option}
use Rattle.std.specs.Option.{option_map}
use Rattle.rept_elf.specs.SectionParts.{tables_of}
use Rattle.rept_elf.specs.Symbols.{FunctionSymbol, symbol_of}
use Rattle.rept_elf.proofs.NamingLemmas.{by_tables, without_tables}
use Rattle.rept_elf.proofs.naming.find_symbols.Goals as goal

pub returns-in-Some : goal.returns-in-Some
returns-in-Some c =
    subst (λ (names : List (Option FunctionSymbol)). IfOk c.symbols_in.result (λ found. map (option_map symbol_of) found.items ≡ names))
    (by_tables c.args.bytes.now (tables_of c.in-Some.tables) c.args.addresses.now (sym (c.in-Some.ensures))) c.symbols_in.ensures

pub returns-in-None : goal.returns-in-None
returns-in-None c =
    subst (λ (names : List (Option FunctionSymbol)). IfOk c.no_symbols.result (λ found. map (option_map symbol_of) found.items ≡ names))
    (without_tables c.args.bytes.now c.args.addresses.now (sym c.in-None.ensures)) c.no_symbols.ensures
