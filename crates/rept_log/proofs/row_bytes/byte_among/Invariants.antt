use Rattle.std.proofs.Common.{◌≡◌, drop}
use Rattle.rept_log.specs.RowBytes.{byte_among}
use Rattle.rept_log.proofs.row_bytes.byte_among.Given as goal

abbrev pub invariant-loop-byte : goal.invariant-loop-byte
invariant-loop-byte l = byte_among l.bytes l.when l.a ≡ byte_among (drop l.byte-index l.bytes) l.when l.a
