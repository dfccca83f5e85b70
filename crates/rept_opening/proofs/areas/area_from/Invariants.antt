use Rattle.std.proofs.Common.{◌≡◌, drop}
use Rattle.rept_elf.specs.Image.{segments_of}
use Rattle.rept_opening.specs.Beyond.{area_from}
use Rattle.rept_opening.proofs.areas.area_from.Given as goal

-- the segments that are left decide
abbrev pub invariant-loop-i : goal.invariant-loop-i
invariant-loop-i l = area_from (segments_of l.core) l.a ≡ area_from (drop l.i (segments_of l.core)) l.a
