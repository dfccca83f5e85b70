use Rattle.std.proofs.Common.{◌≡◌, drop}
use Rattle.std.specs.List.{find}
use Rattle.rept_maps.specs.Mapped.Mapped.{has_some, addresses}
use Rattle.rept_maps.specs.Mapped.Mappings.{mappings_of}
use Rattle.rept_maps.proofs.mapped.mapped.Mapped.mapping_with.Given as goal

-- the mappings that are left decide
abbrev pub invariant-loop-i : goal.invariant-loop-i
invariant-loop-i l = find (λ m. has_some l.count l.a (addresses m)) (mappings_of l.self) ≡ find (λ m. has_some l.count l.a (addresses m)) (drop l.i (mappings_of l.self))
