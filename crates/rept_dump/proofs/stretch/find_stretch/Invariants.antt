use Rattle.rept_elf.specs.Image.{segments_of}
use Rattle.rept_dump.proofs.Stretches.{Narrowed}
use Rattle.rept_dump.proofs.stretch.find_stretch.Given as goal

abbrev pub invariant-loop-i : goal.invariant-loop-i
invariant-loop-i l = Narrowed (record { allowed = l.allowed; count = l.count; segments = segments_of l.image }) l.a l.i l.bounds.from l.bounds.to
