use Rattle.std.proofs.Common.{◌≡◌, drop}
use Rattle.std.specs.List.{list_any}
use Rattle.rept_elf.specs.Image.{segments_of}
use Rattle.rept_dump.specs.Memory.{may_be_written}
use Rattle.rept_stub.proofs.files.may_be_written.Given as goal

-- the segments that are left decide
abbrev pub invariant-loop-i : goal.invariant-loop-i
invariant-loop-i l = list_any (may_be_written l.a) (segments_of l.core) ≡ list_any (may_be_written l.a) (drop l.i (segments_of l.core))
