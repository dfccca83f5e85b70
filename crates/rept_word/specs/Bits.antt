-- The bits of a packet's payload (Efficient Trace for RISC-V 2.0, on the encoder's output packets:
-- fields are packed from the least significant bit on, and bits at a payload's end that equal the
-- last one kept may be left out).
use Rattle.std.specs.Prelude.{ℕ, zero, suc, ◌+◌, ◌-◌, ◌*◌, ◌/◌, ◌%◌, ◌^◌, ◌==◌, min, List, length, slice_index, Bool, if◌then◌else◌}

-- Bit number i, the lowest of each byte first. The last bit goes on for ever.
unfoldable pub bit_of : List ℕ → ℕ → Bool
bit_of payload i = (slice_index payload (min i (8 * length payload - 1) / 8) / 2 ^ (min i (8 * length payload - 1) % 8)) % 2 == 1

-- The number that so many bits from bit i on spell, the lowest first.
unfoldable pub field : List ℕ → ℕ → ℕ → ℕ
field payload i zero = 0
field payload i (suc count) = (if bit_of payload i then 1 else 0) + 2 * field payload (i + 1) count
