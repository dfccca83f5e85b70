-- Why several streams are refused before a row is walked. This project's own.
use Rattle.std.specs.Prelude.{ℕ, suc, ◌==◌, List, [], ◌∷◌, length, Option, Some, None, if◌then◌else◌}
use Rattle.std.specs.List.{list_any, filter_map}
use Rattle.rept_trace.specs.declared.packet.Packet.{Packet}
use Rattle.rept_path.specs.declared.fault.PathFault.{PathFault}
use Rattle.rept_path.specs.declared.fault.PathFault.TheVariants.{NoStart, TimeBack, UnknownThread, OtherThread}
use Rattle.rept_streams.specs.Slices.Stamps.{stamp_of, is_before}
use Rattle.rept_streams.specs.Slices.Parts.{LeftPackets, ToldSlice, slices_told, thread_of}
use Rattle.rept_streams.specs.Slices.Order.{head_of}
use Rattle.rept_streams.specs.Slices.Skipping.{whole, window_of, kept}

-- the first fault that a check finds
abbrev pub first_fault : {A : Type 0} → (A → Option PathFault) → List A → Option PathFault
first_fault check xs = head_of (filter_map check xs)

-- A packet is of an earlier time than one before it in its stream. The arguments are the number of
-- the next packet, the packets before it, newest first, and those from it on.
abbrev pub back_from : ℕ → List Packet → List Packet → Option PathFault
back_from k earlier [] = None
back_from k earlier (p ∷ later) = if list_any (λ q. is_before (stamp_of p) (stamp_of q)) earlier then Some (TimeBack k) else back_from (suc k) (p ∷ earlier) later

abbrev pub time_back : LeftPackets → Option PathFault
time_back left = back_from left.number [] left.packets

-- A stream with packets has no window.
abbrev pub startless : ℕ → LeftPackets → Option PathFault
startless from left = by_window left.packets (window_of from left.packets) where
  by_window : List Packet → Option ℕ → Option PathFault
  by_window [] window = None
  by_window (p ∷ later) None = Some (NoStart (length (p ∷ later)))
  by_window (p ∷ later) (Some i) = None

-- No stream has a packet.
abbrev pub all_idle : List (List Packet) → Option PathFault
all_idle [] = Some (NoStart 0)
all_idle ([] ∷ others) = all_idle others
all_idle ((p ∷ later) ∷ others) = None

-- The slice is of a thread without a note, or it begins while another thread runs.
abbrev pub while_other : ToldSlice → Option ℕ → Option PathFault
while_other t None = None
while_other t (Some thread) = if thread == thread_of t then None else Some (OtherThread t.number (thread_of t))

abbrev pub stranger : List ℕ → ToldSlice → Option PathFault
stranger threads t = if list_any (λ thread. thread == thread_of t) threads then while_other t t.inside else Some (UnknownThread t.number (thread_of t))

-- The checks in their order: times that go back, windows, and then the threads of the slices that
-- are left.
abbrev pub checks : ℕ → List ℕ → List (List Packet) → List (Option PathFault)
checks from threads streams =
    first_fault time_back (whole streams)
    ∷ first_fault (startless from) (whole streams)
    ∷ all_idle streams
    ∷ first_fault (stranger threads) (slices_told (kept from streams))
    ∷ []

abbrev pub check : ℕ → List ℕ → List (List Packet) → Option PathFault
check from threads streams = first_fault (λ found. found) (checks from threads streams)
