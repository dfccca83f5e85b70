use Rattle.std.proofs.Common.{◌≡◌, max, drop}
use Rattle.rept_elf.specs.Image.{segments_of}
use Rattle.rept_elf.specs.Segments.{greatest_end}
use Rattle.rept_elf.proofs.image.Image.image_end.Given as goal

-- the greatest end so far, and of the segments that are left
abbrev pub invariant-loop-i : goal.invariant-loop-i
invariant-loop-i l = max l.end (greatest_end (drop l.i (segments_of l.self))) ≡ greatest_end (segments_of l.self)
