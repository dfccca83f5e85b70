-- Where the window of a trace begins in its bytes.
use Rattle.std.specs.Prelude.{◌≡◌, ℕ, ◌<◌, ◌^◌, List, ◌∷◌, drop, length, Option, Some, None}
use Rattle.rept_trace.specs.declared.packet.Packet.{Packet}
use Rattle.rept_trace.specs.Packets.{rest_of}
use Rattle.rept_trace.specs.Stream.{Stream, Hold}
use Rattle.rept_path.specs.declared.window.Begin.{Begin}
use Rattle.rept_path.specs.declared.window.WindowSurvey.{WindowSurvey}
use Rattle.rept_path.specs.Trace.{IsWindow}

-- the number of the first packet
abbrev pub number_in : Option Begin → Option ℕ
number_in None = None
number_in (Some b) = Some b.number

-- The packets from that number on are the first one, and then those that the bytes hold.
abbrev pub IsThere : List Packet → Option Begin → Type 0
IsThere packets None = Unit {0}
IsThere packets (Some b) = (later : List Packet) × Hold (rest_of b.later) later × (drop b.number packets ≡ b.first ∷ later)

pub record Surveys (bytes : Stream) (packets : List Packet) (from : ℕ) (s : WindowSurvey) : Type 0 where
  pub hold : Hold bytes packets
  pub count : s.count ≡ length packets
  pub few : length packets < 2 ^ 32
  pub window : IsWindow packets from (number_in s.begin)
  pub there : IsThere packets s.begin
