-- Examples: streams of packets of two threads, which run as the processes 1 and 2, and what the
-- definitions say of them.
use Rattle.std.specs.Prelude.{ℕ, List, [], ◌∷◌, map, true, false, Option}
use Rattle.rept_trace.specs.declared.packet.Qual.TheVariants.{EndedRep, TraceLost}
use Rattle.rept_trace.specs.declared.packet.Packet.{Packet}
use Rattle.rept_trace.specs.declared.packet.Packet.TheVariants.{Start, Context, Support}
use Rattle.rept_path.specs.declared.fault.PathFault.{PathFault}
use Rattle.rept_streams.specs.Slices.Parts.{thread_of, begin_of, slices_told}
use Rattle.rept_streams.specs.Slices.Order.{end_of}
use Rattle.rept_streams.specs.Slices.Skipping.{kept, skipped, untraced}
use Rattle.rept_streams.specs.Slices.Checks.{first_fault, check}
use Rattle.rept_streams.specs.Slices.Many.{overlap_fault}

-- a start packet of a time and a thread, a context packet of a time, and the packets that say that
-- the trace ended, or lost packets
abbrev pub start : ℕ → ℕ → Packet
start time thread = Start true 0 65536 time thread

abbrev pub context : ℕ → Packet
context time = Context 0 time 0

abbrev pub ended : Packet
ended = Support false EndedRep

abbrev pub lost : Packet
lost = Support false TraceLost

-- what is told of a slice
pub record Times : Type 0 where
  pub stream : ℕ
  pub thread : ℕ
  pub begin : ℕ
  pub end : ℕ

abbrev pub times : ℕ → ℕ → ℕ → ℕ → Times
times stream thread begin end = record { stream = stream; thread = thread; begin = begin; end = end }

abbrev pub slices : ℕ → List (List Packet) → List Times
slices from streams = map (λ t. times t.stream (thread_of t) (begin_of t) (end_of (slices_told (kept from streams)) t)) (slices_told (kept from streams))

-- what streams tell: their slices, until when anything may have happened, and how many packets are
-- skipped
pub record SaidOfStreams : Type 0 where
  pub slices : List Times
  pub untraced : Option ℕ
  pub skipped : ℕ

abbrev pub says : ℕ → List (List Packet) → SaidOfStreams
says from streams = record { slices = slices from streams; untraced = untraced from streams; skipped = skipped from streams }

-- the first fault before the walks, and that of two streams that tell of one thread at a time, for
-- the threads 1 and 2
abbrev pub fault : List (List Packet) → Option PathFault
fault streams = check 0 (1 ∷ 2 ∷ []) streams

abbrev pub overlaps : List (List Packet) → Option PathFault
overlaps streams = first_fault (overlap_fault (slices_told (kept 0 streams))) (1 ∷ 2 ∷ [])

-- a slice ends at the next time of its stream after it
abbrev pub two_harts : List (List Packet)
two_harts = (start 1 1 ∷ start 3 1 ∷ start 9 1 ∷ ended ∷ []) ∷ (start 1 2 ∷ start 4 2 ∷ ended ∷ context 8 ∷ []) ∷ []

-- a context packet inside a slice doesn't end it, one after it does
abbrev pub moved : List (List Packet)
moved = (start 1 1 ∷ ended ∷ context 5 ∷ start 9 2 ∷ []) ∷ (start 2 2 ∷ context 6 ∷ ended ∷ start 7 1 ∷ []) ∷ []

-- a slice ends as the next one of its thread begins
abbrev pub next_elsewhere : List (List Packet)
next_elsewhere = (start 1 1 ∷ ended ∷ []) ∷ (start 1 2 ∷ ended ∷ start 6 1 ∷ []) ∷ []

-- one stream has no untraced prefix
abbrev pub one_hart : List (List Packet)
one_hart = (start 5 1 ∷ ended ∷ []) ∷ [] ∷ []

-- the untraced prefix lasts as long as what is skipped may
abbrev pub whole_stream_skipped : List (List Packet)
whole_stream_skipped = (start 1 1 ∷ ended ∷ []) ∷ (start 5 2 ∷ []) ∷ []

-- of two slices of a thread that begin at one time in two streams neither ends as the other begins
abbrev pub tied_while_skipped : List (List Packet)
tied_while_skipped = (start 3 1 ∷ ended ∷ context 9 ∷ []) ∷ (start 3 1 ∷ ended ∷ context 3 ∷ []) ∷ (start 5 2 ∷ []) ∷ []

-- a start packet of the very time is left
abbrev pub start_at_the_time : List (List Packet)
start_at_the_time = (start 5 1 ∷ []) ∷ (start 3 2 ∷ start 5 2 ∷ []) ∷ []

abbrev pub time_goes_back : List (List Packet)
time_goes_back = (start 5 1 ∷ context 4 ∷ []) ∷ []

abbrev pub time_goes_back_after_a_slice : List (List Packet)
time_goes_back_after_a_slice = (start 1 1 ∷ []) ∷ (start 5 2 ∷ ended ∷ context 4 ∷ []) ∷ []

abbrev pub no_packets : List (List Packet)
no_packets = [] ∷ [] ∷ []

abbrev pub no_start : List (List Packet)
no_start = (start 1 1 ∷ []) ∷ (context 1 ∷ ended ∷ []) ∷ []

abbrev pub packets_lost : List (List Packet)
packets_lost = (start 1 1 ∷ lost ∷ []) ∷ []

abbrev pub back_before_no_start : List (List Packet)
back_before_no_start = (context 1 ∷ ended ∷ []) ∷ (start 5 1 ∷ context 4 ∷ []) ∷ []

abbrev pub unknown_thread : List (List Packet)
unknown_thread = (start 1 1 ∷ start 3 1 ∷ start 9 1 ∷ ended ∷ []) ∷ (start 1 3 ∷ start 4 2 ∷ ended ∷ context 8 ∷ []) ∷ []

abbrev pub other_thread : List (List Packet)
other_thread = (start 1 1 ∷ start 3 1 ∷ start 9 1 ∷ ended ∷ []) ∷ (start 1 2 ∷ start 4 1 ∷ ended ∷ context 8 ∷ []) ∷ []

abbrev pub unknown_before_other : List (List Packet)
unknown_before_other = (start 1 1 ∷ start 3 1 ∷ start 9 1 ∷ ended ∷ []) ∷ (start 1 2 ∷ start 4 3 ∷ ended ∷ context 8 ∷ []) ∷ []

abbrev pub no_start_before_unknown : List (List Packet)
no_start_before_unknown = (start 1 3 ∷ []) ∷ (ended ∷ []) ∷ []

abbrev pub skipped_thread : List (List Packet)
skipped_thread = (start 1 3 ∷ ended ∷ start 5 1 ∷ []) ∷ (start 2 2 ∷ []) ∷ []

abbrev pub other_thread_skipped : List (List Packet)
other_thread_skipped = (start 1 1 ∷ start 5 2 ∷ []) ∷ (start 3 1 ∷ []) ∷ []

abbrev pub one_time : List (List Packet)
one_time = (start 1 1 ∷ start 3 1 ∷ start 9 1 ∷ ended ∷ []) ∷ (start 1 1 ∷ start 4 1 ∷ ended ∷ context 8 ∷ []) ∷ []

abbrev pub later_packet : List (List Packet)
later_packet = (start 1 1 ∷ context 5 ∷ ended ∷ []) ∷ (start 1 2 ∷ ended ∷ start 3 1 ∷ []) ∷ []

abbrev pub packet_after_the_end : List (List Packet)
packet_after_the_end = (start 1 1 ∷ ended ∷ context 5 ∷ []) ∷ (start 1 2 ∷ ended ∷ start 3 1 ∷ []) ∷ []

abbrev pub start_that_ends : List (List Packet)
start_that_ends = (start 1 1 ∷ start 5 1 ∷ []) ∷ (start 1 2 ∷ ended ∷ start 3 1 ∷ []) ∷ []

abbrev pub times_that_touch : List (List Packet)
times_that_touch = (start 1 1 ∷ context 3 ∷ ended ∷ []) ∷ (start 1 2 ∷ ended ∷ start 3 1 ∷ []) ∷ []

abbrev pub streams_apart : List (List Packet)
streams_apart = (start 1 1 ∷ context 9 ∷ []) ∷ (start 1 2 ∷ []) ∷ (start 0 2 ∷ ended ∷ start 4 1 ∷ []) ∷ []

abbrev pub first_note_first : List (List Packet)
first_note_first = (start 1 1 ∷ context 9 ∷ ended ∷ []) ∷ (start 1 2 ∷ context 9 ∷ ended ∷ []) ∷ (start 0 3 ∷ ended ∷ start 2 2 ∷ ended ∷ start 4 1 ∷ []) ∷ []

abbrev pub least_time_first : List (List Packet)
least_time_first = (start 1 1 ∷ context 9 ∷ ended ∷ []) ∷ (start 1 2 ∷ ended ∷ start 6 1 ∷ []) ∷ (start 1 3 ∷ ended ∷ start 4 1 ∷ []) ∷ []
