use Rattle.std.proofs.Common.{◌≡◌, map}
use Rattle.rept_maps.specs.Mapped.Mapped.{mapped_symbol}
use Rattle.rept_maps.specs.Mapped.Mappings.{mappings_of}
use Rattle.rept_maps.specs.Mapped.Naming.{found_of, in_the_end, so_far}
use Rattle.rept_maps.specs.Mapped.Views.{asked_of}
use Rattle.rept_maps.proofs.mapped.mapped.Mapped.symbols.Given as goal

abbrev pub invariant-loop-i : goal.invariant-loop-i
invariant-loop-i l = (map (in_the_end (mappings_of l.self)) (map asked_of l.asked.items) ≡ map (mapped_symbol (mappings_of l.self)) l.addresses)
    × (map found_of (map asked_of l.asked.items) ≡ map (so_far (mappings_of l.self) l.i) (map asked_of l.asked.items))
