-- What a packet says of time and of threads (Efficient Trace for RISC-V 2.0: the fields time and
-- context), and what it does to a slice. Times are of one clock; a context is the thread's own
-- number, as `pr_pid` of its note. This project's own, but for the fields.
use Rattle.std.specs.Prelude.{ℕ, nat_lt, Bool, true, false, Option, Some, None, unwrap_or, ◌||◌}
use Rattle.rept_trace.specs.declared.packet.Qual.TheVariants.{EndedRep, EndedNtr}
use Rattle.rept_trace.specs.declared.packet.Packet.{Packet}
use Rattle.rept_trace.specs.declared.packet.Packet.TheVariants.{Start, Context, Support, Address, Map, MapAddress}
use Rattle.rept_path.specs.Trace.{starts}

abbrev pub stamp_of : Packet → Option ℕ
stamp_of (Start branch privilege a time context) = Some time
stamp_of (Context privilege time context) = Some time
stamp_of (Support enabled status) = None
stamp_of (Address report) = None
stamp_of (Map map) = None
stamp_of (MapAddress count map report) = None

-- 0 where it has none
abbrev pub clock_of : Packet → ℕ
clock_of p = unwrap_or (stamp_of p) 0

-- the process of a start packet's thread
abbrev pub context_of : Packet → ℕ
context_of (Start branch privilege a time context) = context
context_of _ = 0

-- the address of a start packet
abbrev pub address_of : Packet → ℕ
address_of (Start branch privilege a time context) = a
address_of _ = 0

abbrev pub is_start : Packet → Bool
is_start p = starts (Some p)

-- whether the packet says that the trace ended
abbrev pub ends : Packet → Bool
ends (Support enabled EndedRep) = true
ends (Support enabled EndedNtr) = true
ends _ = false

-- whether a slice ends there: at a start packet, or at a support packet that ends the trace
abbrev pub closes : Packet → Bool
closes p = is_start p || ends p

-- whether the packet has a time, which is later than this one
abbrev pub is_past : ℕ → Option ℕ → Bool
is_past time None = false
is_past time (Some other) = nat_lt time other

-- whether a packet is of an earlier time than another
abbrev pub is_before : Option ℕ → Option ℕ → Bool
is_before None other = false
is_before (Some time) other = is_past time other

-- the thread that runs after a packet, if the trace runs: that of the last start packet
abbrev pub running_after : Packet → Option ℕ → Option ℕ
running_after (Start branch privilege a time context) before = Some context
running_after (Support enabled EndedRep) before = None
running_after (Support enabled EndedNtr) before = None
running_after _ before = before
