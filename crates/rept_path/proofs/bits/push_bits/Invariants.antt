use Rattle.std.proofs.Common.{◌≡◌, ◌++◌, ◌-◌, ◌+◌, length}
use Rattle.rept_path.specs.Packets.{low_bits}
use Rattle.rept_path.proofs.bits.push_bits.Given as goal

abbrev pub invariant-loop : goal.invariant-loop
invariant-loop l = (l.bits.items ++ low_bits (l.count - l.counter) l.rest ≡ l.fn.bits.items ++ low_bits l.count l.map) × (length l.bits.items ≡ length l.fn.bits.items + l.counter)
