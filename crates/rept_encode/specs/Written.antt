-- The numbers whose bytes, the lowest first, are the payloads of packets (Efficient Trace for
-- RISC-V 2.0, the tables of formats 3, 2 and 1), and how payloads stand in a trace file. Past its
-- fields a number goes on with copies of their last bit.
use Rattle.std.specs.Prelude.{◌≡◌, ◌≢◌, ℕ, ◌+◌, ◌-◌, ◌*◌, ◌/◌, ◌^◌, ◌<◌, ◌≤◌, nat_le, List, [], ◌∷◌, ◌++◌, length, take, slice_index, Bool, false, not, if◌then◌else◌}
use Rattle.std.specs.Int.{w128, to_le_bytes}
use Rattle.rept_trace.specs.declared.parameters.Parameters.{Parameters}
use Rattle.rept_trace.specs.declared.packet.Report.{Report}
use Rattle.rept_trace.specs.declared.packet.Packet.{Packet}
use Rattle.rept_trace.specs.declared.packet.Packet.TheVariants.{Start, Context, Support, Address, Map, MapAddress}
use Rattle.rept_trace.specs.Grammar.{untimed, address_lsb, address_width, map_width, qual_number, IsPacket}

abbrev pub bit : Bool → ℕ
bit b = if b then 1 else 0

-- copies of a bit
abbrev pub copies : Bool → ℕ
copies b = if b then 2 ^ 47 - 1 else 0

abbrev pub differ : Bool → Bool → Bool
differ a b = if a then not b else b

-- the highest bit of 32, which is the last one of an address that is sent
abbrev pub high : ℕ → Bool
high a = nat_le (2 ^ 31) a

-- an address without its lowest bits, which aren't sent; fewer of them where code may be compressed
abbrev pub sent : Bool → ℕ → ℕ
sent halves a = a / 2 ^ address_lsb (untimed halves)

-- what stands past an address
abbrev pub past_address : Bool → ℕ → ℕ
past_address halves rest = 2 ^ address_width (untimed halves) * rest

-- the bits of notify and updiscon
abbrev pub notify_bit : Report → Bool
notify_bit r = differ r.notify (high r.difference)

abbrev pub updiscon_bit : Report → Bool
updiscon_bit r = differ r.updiscon (notify_bit r)

-- a difference and its flags, of which irreport says nothing
abbrev pub report_number : Bool → Report → ℕ
report_number halves r = sent halves r.difference + past_address halves (bit (notify_bit r) + 2 * copies (updiscon_bit r))

-- Times and contexts aren't written.
abbrev pub number_of : Bool → Packet → ℕ
number_of halves (Start branch privilege a time context) = 3 + 16 * bit branch + 32 * privilege + 128 * (sent halves a + past_address halves (copies (high a)))
number_of halves (Context privilege time context) = 11 + 16 * privilege
number_of halves (Support enabled status) = 15 + 16 * bit enabled + 64 * qual_number status
number_of halves (Address report) = 2 + 4 * report_number halves report
number_of halves (Map map) = 1 + 128 * (map + 2 ^ 31 * copies (nat_le (2 ^ 30) map))
number_of halves (MapAddress count map report) = 1 + 4 * (count + 32 * (map + 2 ^ map_width count * report_number halves report))

-- the lowest ten bytes
abbrev pub ten_bytes : ℕ → List ℕ
ten_bytes number = take 10 (to_le_bytes w128 number)

-- the byte that is made of copies of the highest bit of the byte before it
abbrev pub fill_after : ℕ → ℕ
fill_after before = if nat_le 128 before then 255 else 0

-- The last byte of the payload isn't made of copies of the bit before it.
abbrev pub IsPayloadCutShort : List ℕ → Type 0
IsPayloadCutShort payload = (i : ℕ) → i + 2 ≡ length payload → slice_index payload (i + 1) ≢ fill_after (slice_index payload i)

-- A packet's length and its payload, which is cut short, were added.
pub record Appends (halves : Bool) (old new : List ℕ) (packet : Packet) : Type 0 where
  pub payload : List ℕ
  pub appended : new ≡ old ++ length payload ∷ payload
  pub some : 0 < length payload
  pub few : length payload ≤ 10
  pub spells : IsPacket (untimed halves) payload packet
  pub cut : IsPayloadCutShort payload

-- The bytes are these packets, each its length and its payload, sent in fields of these widths, and
-- nothing else.
abbrev pub AreWritten : Parameters → List ℕ → List Packet → Type 0
AreWritten widths bytes [] = bytes ≡ []
AreWritten widths bytes (packet ∷ packets) = (payload : List ℕ) × (rest : List ℕ) × (bytes ≡ length payload ∷ (payload ++ rest)) × (0 < length payload) × IsPacket widths payload packet × AreWritten widths rest packets

-- A report of the packet says nothing by irreport.
abbrev pub IsPacketSilent : Packet → Type 0
IsPacketSilent (Start branch privilege a time context) = Unit {0}
IsPacketSilent (Context privilege time context) = Unit {0}
IsPacketSilent (Support enabled status) = Unit {0}
IsPacketSilent (Address report) = report.irreport ≡ false
IsPacketSilent (Map map) = Unit {0}
IsPacketSilent (MapAddress count map report) = report.irreport ≡ false
