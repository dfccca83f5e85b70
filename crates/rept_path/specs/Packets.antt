-- What the packets say, taken together (Efficient Trace for RISC-V 2.0: the fields branch,
-- branch_map, address and qual_status). Lists of packets are newest first.
use Rattle.std.specs.Prelude.{ℕ, zero, suc, ◌%◌, ◌/◌, ◌==◌, List, [], ◌∷◌, ◌++◌, Bool, true, false, if◌then◌else◌}
use Rattle.rept_path.specs.Code.{Code}
use Rattle.rept_trace.specs.declared.packet.Qual.TheVariants.{NoChange, EndedRep, TraceLost, EndedNtr}
use Rattle.rept_trace.specs.declared.packet.Packet.{Packet}
use Rattle.rept_trace.specs.declared.packet.Packet.TheVariants.{Start, Context, Support, Address, Map, MapAddress}
use Rattle.rept_path.specs.Code.{sum, is_branch}

-- the lowest bits of a map, the lowest first
unfoldable pub low_bits : ℕ → ℕ → List Bool
low_bits zero map = []
low_bits (suc count) map = (map % 2 == 1) ∷ low_bits count (map / 2)

-- the branch bits of a packet, oldest first
abbrev pub bits_of : Code → Packet → List Bool
bits_of code (Start branch privilege a time context) = if is_branch code a then branch ∷ [] else []
bits_of code (Address report) = []
bits_of code (MapAddress count map report) = low_bits count map
bits_of code (Map map) = low_bits 31 map
bits_of code (Context privilege time context) = []
bits_of code (Support enabled status) = []

-- whether the trace waits for a start packet after these
abbrev pub waits_after : Packet → Bool → Bool
waits_after (Start branch privilege a time context) before = false
waits_after (Address report) before = before
waits_after (MapAddress count map report) before = before
waits_after (Map map) before = before
waits_after (Context privilege time context) before = before
waits_after (Support enabled NoChange) before = before
waits_after (Support enabled EndedRep) before = true
waits_after (Support enabled TraceLost) before = before
waits_after (Support enabled EndedNtr) before = true

unfoldable pub waiting : List Packet → Bool
waiting [] = true
waiting (packet ∷ earlier) = waits_after packet (waiting earlier)

-- whether a packet begins a stretch, where the trace waits or not before it
abbrev pub begins : Packet → Bool → Bool
begins (Start branch privilege a time context) before = before
begins (Address report) before = false
begins (MapAddress count map report) before = false
begins (Map map) before = false
begins (Context privilege time context) before = false
begins (Support enabled status) before = false

-- the branch bits of the stretch, oldest first
abbrev pub bits_before : Packet → Bool → List Bool → List Bool
bits_before packet waits all = if begins packet waits then [] else all

unfoldable pub bits : Code → List Packet → List Bool
bits code [] = []
bits code (packet ∷ earlier) = bits_before packet (waiting earlier) (bits code earlier) ++ bits_of code packet

-- the reported address
abbrev pub reported_after : Packet → ℕ → ℕ
reported_after (Start branch privilege a time context) before = a
reported_after (Address report) before = sum before report.difference
reported_after (MapAddress count map report) before = sum before report.difference
reported_after (Map map) before = before
reported_after (Context privilege time context) before = before
reported_after (Support enabled status) before = before

unfoldable pub reported : List Packet → ℕ
reported [] = 0
reported (packet ∷ earlier) = reported_after packet (reported earlier)
