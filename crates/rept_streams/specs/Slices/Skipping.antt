-- Which packets of several streams are skipped, and until when the streams don't tell what
-- happened. Lists of packets are oldest first. This project's own.
use Rattle.std.specs.Prelude.{map, ℕ, suc, ◌+◌, ◌-◌, nat_le, nat_lt, ◌==◌, List, [], ◌∷◌, length, drop, Option, Some, None, unwrap_or, not, ◌&&◌, if◌then◌else◌}
use Rattle.std.specs.List.{prefix_len, list_any, filter, filter_map, sum_by}
use Rattle.rept_trace.specs.declared.packet.Packet.{Packet}
use Rattle.rept_path.specs.Trace.{loses}
use Rattle.rept_streams.specs.Slices.Stamps.{clock_of, is_start}
use Rattle.rept_streams.specs.Slices.Parts.{LeftPackets, ToldSlice, thread_of, begin_of, end_before, slices_told}
use Rattle.rept_streams.specs.Slices.Order.{least}

-- the streams, from that of this number on, the first packet of which has this number
abbrev pub numbered : ℕ → ℕ → List (List Packet) → List LeftPackets
numbered s k [] = []
numbered s k (packets ∷ others) = record { stream = s; number = k; packets = packets } ∷ numbered (suc s) (k + length packets) others

-- all packets of all streams
abbrev pub whole : List (List Packet) → List LeftPackets
whole streams = numbered 0 0 streams

abbrev pub skip : ℕ → LeftPackets → LeftPackets
skip n left = record { stream = left.stream; number = left.number + n; packets = drop n left.packets }

-- The window of a stream: it begins at the first start packet of this number in its stream or a
-- later one, after which no packets were lost. The arguments are this number, that of the next
-- packet, and the packets from it on.
abbrev pub window_from : ℕ → ℕ → List Packet → Option ℕ
window_from from i [] = None
window_from from i (p ∷ later) = if is_start p && nat_le from i && not (list_any loses (p ∷ later)) then Some i else window_from from (suc i) later

abbrev pub window_of : ℕ → List Packet → Option ℕ
window_of from packets = window_from from 0 packets

-- the windows of all streams; of a stream without packets nothing is left
abbrev pub windows : ℕ → List (List Packet) → List LeftPackets
windows from streams = map (λ left. skip (unwrap_or (window_of from left.packets) 0) left) (whole streams)

-- the time of the first packet
abbrev pub opening : LeftPackets → Option ℕ
opening left = first_clock left.packets where
  first_clock : List Packet → Option ℕ
  first_clock [] = None
  first_clock (p ∷ later) = Some (clock_of p)

-- the greatest of times, 0 of none
abbrev pub greatest : List ℕ → ℕ
greatest [] = 0
greatest (n ∷ ns) = if nat_le n (greatest ns) then greatest ns else n

-- The time from which on all streams tell: the greatest of the times at which their windows begin.
abbrev pub full_from : List LeftPackets → ℕ
full_from lefts = greatest (filter_map opening lefts)

-- what is left of a window from that time on: from its first start packet of that time or a later
-- one, if it has one
abbrev pub from_time : ℕ → LeftPackets → LeftPackets
from_time time left = skip (prefix_len (λ p. not (is_start p && nat_le time (clock_of p))) left.packets) left

-- what is left of the streams
abbrev pub kept : ℕ → List (List Packet) → List LeftPackets
kept from streams = map (from_time (full_from (windows from streams))) (windows from streams)

-- how many packets are skipped
abbrev pub skipped : ℕ → List (List Packet) → ℕ
skipped from streams = sum_by (λ packets. length packets) streams - sum_by (λ left. length left.packets) (kept from streams)

-- the least begin of a slice of its thread that is greater than its own
abbrev pub begin_past : List ToldSlice → ToldSlice → Option ℕ
begin_past ts t = least (filter (λ n. nat_lt (begin_of t) n) (map begin_of (filter (λ u. thread_of u == thread_of t) ts)))

-- The time at which a slice that is skipped has ended. Of two slices of one thread that begin at
-- one time in two streams either may be the later one, so neither ends as the other begins: both
-- last to the next greater begin.
abbrev pub end_skipped : List ToldSlice → ToldSlice → ℕ
end_skipped ts t = end_before t (begin_past ts t)

-- the ends of slices that begin before a time
abbrev pub ends_of : ℕ → List ToldSlice → List ℕ
ends_of time ts = map (end_skipped ts) (filter (λ t. nat_lt (begin_of t) time) ts)

-- The time until which anything may have happened: that from which on all streams tell, or the
-- greatest end of a slice that is skipped for it. One stream alone has none.
abbrev pub untraced : ℕ → List (List Packet) → Option ℕ
untraced from streams =
    let ws = windows from streams in
    let time = full_from ws in
    if nat_lt 1 (length (filter_map opening ws)) then Some (greatest (time ∷ ends_of time (slices_told ws))) else None
