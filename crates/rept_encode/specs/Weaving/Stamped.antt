-- The numbers whose bytes, the lowest first, are the payloads of the two packets with a time and a
-- context (Efficient Trace for RISC-V 2.0, the tables of format 3), with times of 64 bits and
-- contexts of 32. The privilege is that of a user.
use Rattle.std.specs.Prelude.{◌≡◌, ℕ, ◌+◌, ◌*◌, ◌/◌, ◌%◌, ◌^◌, Bool, List, [], ◌∷◌, ◌++◌, if◌then◌else◌}
use Rattle.std.specs.Int.{w128, to_le_bytes}
use Rattle.rept_trace.specs.declared.parameters.Parameters.{Parameters}
use Rattle.rept_trace.specs.declared.packet.Packet.{Packet}
use Rattle.rept_encode.specs.declared.weaving.stamped.Start.{Start}
use Rattle.rept_encode.specs.Written.{bit, high, sent, past_address, AreWritten}

-- an address that is sent, in 33 bits: past its last one stand copies of it
abbrev pub wide : Bool → ℕ → ℕ
wide halves a = sent halves a + past_address halves (if high a then (if halves then 3 else 7) else 0)

-- a time and a context, and what stands past them
abbrev pub stamped : ℕ → ℕ → ℕ → ℕ
stamped time context rest = time + 2 ^ 64 * (context + 2 ^ 32 * rest)

-- a start packet, of 136 bits
abbrev pub start_number : Bool → ℕ → ℕ
start_number branch rest = 3 + 16 * bit branch + 128 * rest

-- its bytes: the lowest 16, and the highest
abbrev pub start_bytes : Bool → Start → List ℕ
start_bytes halves s =
    let a = wide halves s.address in
    to_le_bytes w128 (start_number s.branch (stamped s.time s.context (a % 2 ^ 25))) ++ (a / 2 ^ 25) ∷ []

-- a context packet, of 102 bits
abbrev pub context_number : ℕ → ℕ
context_number rest = 11 + 64 * rest

-- Bytes were added, and they are these packets.
pub record AddsPackets (widths : Parameters) (old new : List ℕ) (packets : List Packet) : Type 0 where
  pub bytes : List ℕ
  pub appended : new ≡ old ++ bytes
  pub written : AreWritten widths bytes packets
