-- What is left of streams, as it is kept. This project's own.
use Rattle.std.specs.Prelude.{◌≡◌, ℕ, ◌+◌, ◌<◌, ◌^◌, nat_le, List, [], ◌∷◌, length, drop, Option, Some, None, not, ◌&&◌, if◌then◌else◌}
use Rattle.std.specs.List.{prefix_len}
use Rattle.rept_trace.specs.declared.packet.Packet.{Packet}
use Rattle.rept_trace.specs.Packets.{rest_of}
use Rattle.rept_trace.specs.Stream.{Hold}
use Rattle.rept_path.specs.declared.window.Begin.{Begin}
use Rattle.rept_streams.specs.Slices.Stamps.{clock_of, is_start}
use Rattle.rept_streams.specs.Slices.Parts.{LeftPackets}
use Rattle.rept_streams.specs.declared.slices.reading.StreamWindow.{StreamWindow}

-- the first packet that is left, of a stream the first packet of which has this number, and those
-- after it
pub record BeginsWith (l : LeftPackets) (first : ℕ) (b : Begin) : Type 0 where
  pub later : List Packet
  pub hold : Hold (rest_of b.later) later
  pub packets : l.packets ≡ b.first ∷ later
  pub number : l.number ≡ first + b.number

abbrev pub IsLeftBy : LeftPackets → ℕ → Option Begin → Type 0
IsLeftBy l first None = l.packets ≡ []
IsLeftBy l first (Some b) = BeginsWith l first b

-- that of one stream
pub record IsLeft (w : StreamWindow) (l : LeftPackets) : Type 0 where
  pub stream : w.stream ≡ l.stream
  pub begin : IsLeftBy l w.number w.begin
  pub ends : l.number + length l.packets ≡ w.number + w.count
  pub few : l.number + length l.packets < 2 ^ 32

-- that of all streams
abbrev pub AreLeft : List StreamWindow → List LeftPackets → Type 0
AreLeft [] ls = ls ≡ []
AreLeft (w ∷ ws) [] = ⊥
AreLeft (w ∷ ws) (l ∷ ls) = IsLeft w l × AreLeft ws ls

-- the later of two times
abbrev pub later_of : ℕ → ℕ → ℕ
later_of a b = if nat_le a b then b else a

-- the later of a time and another one, if there is one
abbrev pub later_by : ℕ → Option ℕ → ℕ
later_by time None = time
later_by time (Some other) = later_of time other

-- how many packets stand before the first start packet of this time or a later one
abbrev pub before_time : ℕ → List Packet → ℕ
before_time time packets = prefix_len (λ p. not (is_start p && nat_le time (clock_of p))) packets

-- The packets from the first start packet of this time or a later one on, of packets the first of
-- which has this number in its stream, are that one and those that its stream still holds; or there
-- is none.
abbrev pub BeginsFrom : ℕ → ℕ → List Packet → Option Begin → Type 0
BeginsFrom time number packets None = drop (before_time time packets) packets ≡ []
BeginsFrom time number packets (Some b) = (later : List Packet) × Hold (rest_of b.later) later × (drop (before_time time packets) packets ≡ b.first ∷ later) × (b.number ≡ number + before_time time packets)
