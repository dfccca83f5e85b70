use Rattle.std.proofs.Common.{◌∷◌, [], ◌++◌, ◌∙◌, ℕ, List, ap, map, sym, take, cond}
use Rattle.std.specs.Prelude.{None, Some, Option, ◌==◌}
use Rattle.std.specs.Option.{option_map}
use Rattle.std.proofs.lemmas.List.{map_more, map_push}
use Rattle.rept_elf.specs.Symbols.{FunctionSymbol, symbol_of}
use Rattle.tables_of_sessions.proofs.fixed.FixedFindings.symbols.Goals as goal

pub loop-address-preserved : goal.loop-address-preserved
loop-address-preserved c =
    let f : ℕ → Option FunctionSymbol = λ a. cond (a == 65540) (Some (record { name = 102 ∷ 7 ∷ []; value = 65536 })) None in
    let asked = c.args.addresses.now in
    ap (map (option_map symbol_of)) c.in_ok-push.ensures.items ∙ map_push (option_map symbol_of) c.loop-address.found.items c.function_at.result
    ∙ ap (λ (xs : List (Option FunctionSymbol)). xs ++ option_map symbol_of c.function_at.result ∷ []) c.loop-address.invariant
    ∙ ap (λ (o : Option FunctionSymbol). map f (take c.loop-address.address-index asked) ++ o ∷ []) c.function_at.ensures
    ∙ sym (map_more f asked c.loop-address.address-index 0 c.loop-address-test.true)
