use Rattle.std.proofs.Common.{◌≡◌, take}
use Rattle.rept_remote.specs.Escapes.{checksum}
use Rattle.rept_remote.proofs.writer.checksum.Given as goal

abbrev pub invariant-loop-byte : goal.invariant-loop-byte
invariant-loop-byte l = l.sum ≡ checksum (take l.byte-index l.bytes)
