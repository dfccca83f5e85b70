-- The ranges of a packet's fields.
use Rattle.std.specs.Prelude.{◌≡◌, ℕ, ◌%◌, ◌^◌, ◌<◌, ◌≤◌}
use Rattle.rept_trace.specs.declared.packet.Packet.{Packet}
use Rattle.rept_trace.specs.declared.packet.Packet.TheVariants.{Start, Context, Support, Address, Map, MapAddress}
use Rattle.rept_trace.specs.declared.parameters.Parameters.{Parameters}
use Rattle.rept_trace.specs.Grammar.{map_width, address_lsb}

-- an address of 32 bits whose lowest bits, those that aren't sent, are 0
abbrev pub IsSendable : Parameters → ℕ → Type 0
IsSendable widths n = (n < 2 ^ 32) × (n % 2 ^ address_lsb widths ≡ 0)

-- a field that isn't sent is 0
abbrev pub StampFits : Parameters → ℕ → ℕ → Type 0
StampFits widths time context = (time < 2 ^ widths.time_width) × (context < 2 ^ widths.context_width)

-- Each field is one that its width can hold.
abbrev pub FieldsFit : Parameters → Packet → Type 0
FieldsFit widths (Start branch privilege address time context) = (privilege < 4) × IsSendable widths address × StampFits widths time context
FieldsFit widths (Context privilege time context) = (privilege < 4) × StampFits widths time context
FieldsFit widths (Support enabled status) = Unit {0}
FieldsFit widths (Address report) = IsSendable widths report.difference
FieldsFit widths (Map map) = map < 2 ^ 31
FieldsFit widths (MapAddress count map report) = (0 < count) × (count ≤ 31) × (map < 2 ^ map_width count) × IsSendable widths report.difference
