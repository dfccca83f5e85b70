use Rattle.std.proofs.Common.{◌≡◌, drop}
use Rattle.std.specs.List.{find}
use Rattle.rept_maps.specs.Views.{desc_of}
use Rattle.rept_maps.specs.Mapped.Mapped.{mappings}
use Rattle.rept_stub.specs.CrashFiles.{has_address}
use Rattle.rept_stub.proofs.loading.loaded_in.Given as goal

-- the mappings that are left decide
abbrev pub invariant-loop-i : goal.invariant-loop-i
invariant-loop-i l = find (has_address l.entry) (mappings (desc_of l.maps) l.images) ≡ find (has_address l.entry) (drop l.i (mappings (desc_of l.maps) l.images))
