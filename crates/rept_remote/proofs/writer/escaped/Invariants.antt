use Rattle.std.proofs.Common.{◌≡◌, take}
use Rattle.rept_remote.specs.Escapes.{escaped}
use Rattle.rept_remote.proofs.writer.escaped.Given as goal

abbrev pub invariant-loop-byte : goal.invariant-loop-byte
invariant-loop-byte l = l.text ≡ escaped (take l.byte-index l.reply)
