-- What is left of a stream of packets, and the slices that its packets tell, before a row is
-- walked. Lists of packets are oldest first. This project's own.
use Rattle.std.specs.Prelude.{ℕ, suc, ◌-◌, ◌^◌, nat_le, List, [], ◌∷◌, drop, Option, Some, None, not, if◌then◌else◌}
use Rattle.std.specs.List.{prefix_len, flat_map}
use Rattle.std.specs.Option.{option_or}
use Rattle.rept_trace.specs.declared.packet.Packet.{Packet}
use Rattle.rept_streams.specs.Slices.Stamps.{stamp_of, clock_of, context_of, is_start, closes, running_after}

-- packets of a stream, and the number of the first one among all packets of all streams
pub record LeftPackets : Type 0 where
  pub stream : ℕ
  pub number : ℕ
  pub packets : List Packet

-- a slice as its stream tells it: its start packet and the number of that packet, the packets after
-- it to the end of the stream, and the thread that runs as the start packet comes, if the trace
-- runs there
pub record ToldSlice : Type 0 where
  pub stream : ℕ
  pub number : ℕ
  pub start : Packet
  pub later : List Packet
  pub inside : Option ℕ

abbrev pub thread_of : ToldSlice → ℕ
thread_of t = context_of t.start

abbrev pub begin_of : ToldSlice → ℕ
begin_of t = clock_of t.start

-- the slices of a stream: one for each start packet. The arguments are the number of the stream,
-- that of the next packet, the thread that runs before it, and the packets from it on.
abbrev pub told_from : ℕ → ℕ → Option ℕ → List Packet → List ToldSlice
told_from s k inside [] = []
told_from s k inside (p ∷ later) =
    if is_start p then record { stream = s; number = k; start = p; later = later; inside = inside } ∷ told_from s (suc k) (running_after p inside) later
    else told_from s (suc k) (running_after p inside) later

abbrev pub told_in : LeftPackets → List ToldSlice
told_in left = told_from left.stream left.number None left.packets

-- those of all streams
abbrev pub slices_told : List LeftPackets → List ToldSlice
slices_told lefts = flat_map told_in lefts

-- how many packets after its start packet belong to it, without the one that ends it: the next
-- start packet, or a support packet that ends the trace
abbrev pub inner : ToldSlice → ℕ
inner t = prefix_len (λ p. not (closes p)) t.later

-- the packets from the one on that ends it
abbrev pub beyond : ToldSlice → List Packet
beyond t = drop (inner t) t.later

-- the first time that packets tell
abbrev pub first_time : List Packet → Option ℕ
first_time [] = None
first_time (p ∷ later) = option_or (stamp_of p) (first_time later)

-- the lesser of a time and another one, if there is one
abbrev pub lesser : ℕ → Option ℕ → ℕ
lesser time None = time
lesser time (Some other) = if nat_le time other then time else other

-- the greatest time that can be told
abbrev pub never : ℕ
never = 2 ^ 64 - 1

-- The time at which a slice has ended: the lesser of the next time that its stream tells from its
-- end on, and of the begin of its thread's next slice.
abbrev pub end_before : ToldSlice → Option ℕ → ℕ
end_before t next = lesser (lesser never (first_time (beyond t))) next
