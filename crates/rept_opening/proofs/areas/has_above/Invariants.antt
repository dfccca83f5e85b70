use Rattle.std.proofs.Common.{◌≡◌, drop}
use Rattle.std.specs.List.{list_any}
use Rattle.rept_elf.specs.Image.{segments_of}
use Rattle.rept_opening.specs.Beyond.{lies_above}
use Rattle.rept_opening.proofs.areas.has_above.Given as goal

-- the segments that are left decide
abbrev pub invariant-loop-i : goal.invariant-loop-i
invariant-loop-i l = list_any (lies_above l.a) (segments_of l.core) ≡ list_any (lies_above l.a) (drop l.i (segments_of l.core))
