use Rattle.std.proofs.Common.{◌≡◌, ◌<◌, ℕ, slice_index, true}
use Rattle.rept_trace.specs.Header.{is_header_byte}
use Rattle.rept_trace.proofs.header.read_header.Given as goal

abbrev pub invariant-loop-i : goal.invariant-loop-i
invariant-loop-i l = (j : ℕ) → j < l.i → is_header_byte l.container j (slice_index l.bytes j) ≡ true
