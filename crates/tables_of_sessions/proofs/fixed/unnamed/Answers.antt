use Rattle.std.proofs.Common.{◌∷◌, [], ◌++◌, ◌∙◌, ℕ, List, ap, map, sym}
use Rattle.std.specs.Prelude.{None, Option}
use Rattle.std.specs.Option.{option_map}
use Rattle.std.proofs.lemmas.List.{map_more, map_push}
use Rattle.rept_elf.specs.Symbols.{FunctionSymbol, symbol_of}
use Rattle.tables_of_sessions.proofs.fixed.unnamed.Goals as goal

pub loop-preserved : goal.loop-preserved
loop-preserved c =
    ap (map (option_map symbol_of)) c.in_ok-push.ensures.items ∙ map_push (option_map symbol_of) c.loop.found.items None ∙ ap (λ (xs : List (Option FunctionSymbol)). xs ++ None ∷ []) c.loop.invariant
    ∙ sym (map_more (λ (_ : ℕ). None) c.args.addresses.now c.loop.index 0 c.loop-test.true)
