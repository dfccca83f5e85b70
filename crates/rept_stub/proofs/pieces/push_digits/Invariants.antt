use Rattle.std.proofs.Common.{◌≡◌, ◌++◌, take}
use Rattle.rept_stub.specs.Replies.{digits_of}
use Rattle.rept_stub.proofs.pieces.push_digits.Given as goal

abbrev pub invariant-loop-byte : goal.invariant-loop-byte
invariant-loop-byte l = l.text ≡ l.fn.text ++ digits_of (take l.byte-index l.bytes)
