-- What is kept of each stream once all its packets were read. This project's own.
use Rattle.std.specs.Prelude.{◌≡◌, ℕ, suc, ◌+◌, ◌<◌, ◌^◌, List, [], ◌∷◌, length, unwrap_or, Option, Some, None}
use Rattle.std.specs.List.{sum_by}
use Rattle.rept_trace.specs.declared.packet.Packet.{Packet}
use Rattle.rept_trace.specs.declared.fault.TraceFault.{TraceFault}
use Rattle.rept_trace.specs.declared.fault.TraceFault.TheVariants.{BadMagic, BadHeader, Truncated, Optional, Trap, BadSupport, StreamPastEnd, Rest}
use Rattle.rept_trace.specs.Packets.{rest_of}
use Rattle.rept_trace.specs.Stream.{Stream}
use Rattle.rept_path.specs.Survey.{Surveys}
use Rattle.rept_path.specs.declared.window.Begin.{Begin}
use Rattle.rept_streams.specs.declared.slices.reading.StreamWindow.{StreamWindow}
use Rattle.rept_streams.specs.Slices.Parts.{LeftPackets}
use Rattle.rept_streams.specs.Slices.Skipping.{skip, window_of}

-- the stream of this number, the first packet of which has that number, which was sent so, with
-- these packets
pub record IsStreamWindow (s k from : ℕ) (sent : Stream) (packets : List Packet) (w : StreamWindow) : Type 0 where
  pub stream : w.stream ≡ s
  pub number : w.number ≡ k
  pub rest : rest_of w.packets ≡ sent
  pub surveys : Surveys sent packets from (record { count = w.count; begin = w.begin })

-- the streams from that of this number on, the first packet of which has that number
abbrev pub AreWindows : ℕ → ℕ → ℕ → List Stream → List (List Packet) → List StreamWindow → Type 0
AreWindows s k from [] lists ws = (lists ≡ []) × (ws ≡ [])
AreWindows s k from (stream ∷ others) [] ws = ⊥
AreWindows s k from (stream ∷ others) (packets ∷ lists) [] = ⊥
AreWindows s k from (stream ∷ others) (packets ∷ lists) (w ∷ ws) = IsStreamWindow s k from stream packets w × AreWindows (suc s) (k + length packets) from others lists ws

-- what is left of a stream from its window on
abbrev pub window_left : ℕ → LeftPackets → LeftPackets
window_left from l = skip (unwrap_or (window_of from l.packets) 0) l

-- the number that a fault of a packet tells
abbrev pub number_told : TraceFault → ℕ
number_told (Truncated k) = k
number_told (Optional k) = k
number_told (Trap k) = k
number_told (BadSupport k) = k
number_told BadMagic = 0
number_told (BadHeader i) = 0
number_told (StreamPastEnd s) = 0
number_told (Rest offset) = 0

-- the fault where so many packets more stand before
abbrev pub numbered_after : ℕ → TraceFault → TraceFault
numbered_after before (Truncated k) = Truncated (before + k)
numbered_after before (Optional k) = Optional (before + k)
numbered_after before (Trap k) = Trap (before + k)
numbered_after before (BadSupport k) = BadSupport (before + k)
numbered_after before BadMagic = BadMagic
numbered_after before (BadHeader i) = BadHeader i
numbered_after before (StreamPastEnd s) = StreamPastEnd s
numbered_after before (Rest offset) = Rest offset

-- all streams, which have fewer than 2^32 packets
pub record AreAll (from : ℕ) (streams : List Stream) (lists : List (List Packet)) (ws : List StreamWindow) : Type 0 where
  pub windows : AreWindows 0 0 from streams lists ws
  pub few : sum_by (λ packets. length packets) lists < 2 ^ 32

-- how many packets of a stream are skipped: those before the first one that is left, or all of them
abbrev pub skipped_by : ℕ → Option Begin → ℕ
skipped_by count None = count
skipped_by count (Some b) = b.number

abbrev pub skipped_of : StreamWindow → ℕ
skipped_of w = skipped_by w.count w.begin
