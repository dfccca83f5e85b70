-- The loop.
use Rattle.std.proofs.Common.{◌≡◌, drop}
use Rattle.rept_elf.specs.Image.{segments_of}
use Rattle.rept_opening.specs.Beyond.{loaded_at}
use Rattle.rept_opening.proofs.premises.loaded_at.Given as goal

-- the segments that are left decide
abbrev pub invariant-loop-i : goal.invariant-loop-i
invariant-loop-i l = loaded_at (segments_of l.program) l.a ≡ loaded_at (drop l.i (segments_of l.program)) l.a
