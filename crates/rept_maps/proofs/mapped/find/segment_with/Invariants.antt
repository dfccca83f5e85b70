use Rattle.std.proofs.Common.{◌≡◌, drop}
use Rattle.std.specs.List.{find}
use Rattle.rept_elf.specs.Image.{segments_of}
use Rattle.rept_maps.specs.Mapped.Mapped.{has_some, offsets}
use Rattle.rept_maps.proofs.mapped.find.segment_with.Given as goal

-- the segments that are left decide
abbrev pub invariant-loop-i : goal.invariant-loop-i
invariant-loop-i l = find (λ s. has_some l.count l.offset (offsets s)) (segments_of l.image) ≡ find (λ s. has_some l.count l.offset (offsets s)) (drop l.i (segments_of l.image))
