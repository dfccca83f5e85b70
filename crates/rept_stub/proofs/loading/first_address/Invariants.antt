use Rattle.std.proofs.Common.{◌≡◌, drop}
use Rattle.rept_elf.specs.Image.{segments_of}
use Rattle.rept_stub.specs.CrashFiles.{first_address}
use Rattle.rept_stub.proofs.loading.first_address.Given as goal

-- the segments that are left decide
abbrev pub invariant-loop-i : goal.invariant-loop-i
invariant-loop-i l = first_address (segments_of l.program) ≡ first_address (drop l.i (segments_of l.program))
