use Rattle.std.proofs.Common.{◌≡◌, drop}
use Rattle.rept_elf.specs.Image.{segments_of}
use Rattle.rept_dump.specs.Memory.{kept_at}
use Rattle.rept_stub.proofs.files.kept_at.Given as goal

-- the segments that are left decide
abbrev pub invariant-loop-i : goal.invariant-loop-i
invariant-loop-i l = kept_at (segments_of l.executable) l.a ≡ kept_at (drop l.i (segments_of l.executable)) l.a
