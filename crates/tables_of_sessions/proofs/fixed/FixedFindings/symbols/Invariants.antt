use Rattle.std.proofs.Common.{◌≡◌, ◌∷◌, [], map, take, cond}
use Rattle.std.specs.Prelude.{None, Some, ◌==◌}
use Rattle.std.specs.Option.{option_map}
use Rattle.rept_elf.specs.Symbols.{symbol_of}
use Rattle.tables_of_sessions.proofs.fixed.FixedFindings.symbols.Given as goal

abbrev pub invariant-loop-address : goal.invariant-loop-address
invariant-loop-address l = map (option_map symbol_of) l.found.items ≡ map (λ a. cond (a == 65540) (Some (record { name = 102 ∷ 7 ∷ []; value = 65536 })) None) (take l.address-index l.addresses)
