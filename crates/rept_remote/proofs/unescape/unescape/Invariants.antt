use Rattle.std.proofs.Common.{◌≤◌, length, drop}
use Rattle.rept_remote.proofs.Escaping.{SoFar}
use Rattle.rept_remote.proofs.unescape.unescape.Given as goal

abbrev pub invariant-loop-byte : goal.invariant-loop-byte
invariant-loop-byte l = record {
  few : length l.carried.items ≤ l.byte-index;
  so_far : SoFar l.bytes l.carried.items l.is_escaped (drop l.byte-index l.bytes);
}
