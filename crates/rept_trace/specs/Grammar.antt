-- Which packet the bits of a payload spell: Efficient Trace for RISC-V 2.0, the chapter on the
-- encoder's output packets, its tables of formats 3 (start, context, support), 2 (address) and 1
-- (branch map). The widths of time and context and the lowest bits that addresses leave out are
-- parameters, and the other parameters are fixed: addresses of 32 bits, privilege of 2 bits, an
-- encoder mode of 1 bit and 5 bits of options, and no return stack, call counter, jump cache,
-- branch prediction or sequentially inferred jump. Fields are numbered by their first bit.
use Rattle.std.specs.Prelude.{◌≡◌, ◌≢◌, ℕ, ◌+◌, ◌-◌, ◌*◌, ◌^◌, ◌<◌, nat_lt, List, Bool, not, Result, Ok, Err, if◌then◌else◌, ◌⊎◌}
use Rattle.rept_trace.specs.declared.parameters.Parameters.{Parameters}
use Rattle.rept_trace.specs.declared.packet.Report.{Report}
use Rattle.rept_trace.specs.declared.packet.Qual.{Qual}
use Rattle.rept_trace.specs.declared.packet.Qual.TheVariants.{NoChange, EndedRep, TraceLost, EndedNtr}
use Rattle.rept_trace.specs.declared.packet.Packet.{Packet}
use Rattle.rept_trace.specs.declared.packet.Packet.TheVariants.{Start, Context, Support, Address, Map, MapAddress}
use Rattle.rept_trace.specs.declared.fault.TraceFault.{TraceFault}
use Rattle.rept_trace.specs.declared.fault.TraceFault.TheVariants.{BadMagic, BadHeader, Truncated, Optional, Trap, BadSupport, StreamPastEnd, Rest}
use Rattle.rept_word.specs.Bits.{bit_of, field}

-- whether a bit differs from the bit before it
abbrev pub changes : List ℕ → ℕ → Bool
changes payload i = if bit_of payload i then not (bit_of payload (i - 1)) else bit_of payload (i - 1)

-- the width of the map of so many branches
abbrev pub map_width : ℕ → ℕ
map_width count = if nat_lt count 2 then 1 else if nat_lt count 4 then 3 else if nat_lt count 8 then 7 else if nat_lt count 16 then 15 else 31

-- the number of a qual_status
abbrev pub qual_number : Qual → ℕ
qual_number NoChange = 0
qual_number EndedRep = 1
qual_number TraceLost = 2
qual_number EndedNtr = 3

-- a time and a context
pub record Stamp : Type 0 where
  pub time : ℕ
  pub context : ℕ

-- the fields of a start packet after its format
pub record StartFields : Type 0 where
  pub branch : Bool
  pub privilege : ℕ
  pub stamp : Stamp
  pub address : ℕ

-- the lowest bits of an address that aren't sent, since they are 0 (`iaddress_lsb_p`): with
-- compressed code one, else two
abbrev pub address_lsb : Parameters → ℕ
address_lsb widths = if widths.halves then 1 else 2

-- the bits of an address that are sent
abbrev pub address_width : Parameters → ℕ
address_width widths = 32 - address_lsb widths

-- the address, or the difference of addresses, that is sent from bit i on
abbrev pub sent_address : Parameters → List ℕ → ℕ → ℕ
sent_address widths payload i = 2 ^ address_lsb widths * field payload i (address_width widths)

-- From bit i on: a difference of addresses, notify, updiscon, irreport.
pub record IsReportAt (widths : Parameters) (payload : List ℕ) (i : ℕ) (report : Report) : Type 0 where
  pub address : report.difference ≡ sent_address widths payload i
  pub asked : report.notify ≡ changes payload (i + address_width widths)
  pub discontinuity : report.updiscon ≡ changes payload (i + (address_width widths + 1))
  pub returned : report.irreport ≡ changes payload (i + (address_width widths + 2))

-- no field of time or context is sent
abbrev pub untimed : Bool → Parameters
untimed halves = record { time_width = 0; context_width = 0; halves = halves }

-- times of 64 bits, contexts of 32 bits
abbrev pub timed : Bool → Parameters
timed halves = record { time_width = 64; context_width = 32; halves = halves }

-- From bit i on: the time and then the context, each of its width. A field of no bits is 0.
pub record IsStamp (widths : Parameters) (payload : List ℕ) (i : ℕ) (stamp : Stamp) : Type 0 where
  pub clock : stamp.time ≡ field payload i widths.time_width
  pub process : stamp.context ≡ field payload (i + widths.time_width) widths.context_width

-- the first bit after them
abbrev pub after_stamp : Parameters → ℕ → ℕ
after_stamp widths i = i + widths.time_width + widths.context_width

-- format 3, subformat 0
pub record IsStart (widths : Parameters) (payload : List ℕ) (start : StartFields) : Type 0 where
  pub format : field payload 0 2 ≡ 3
  pub subformat : field payload 2 2 ≡ 0
  pub branch_bit : start.branch ≡ bit_of payload 4
  pub level : start.privilege ≡ field payload 5 2
  pub stamp : IsStamp widths payload 7 start.stamp
  pub place : start.address ≡ sent_address widths payload (after_stamp widths 7)

-- format 3, subformat 2
pub record IsContext (widths : Parameters) (payload : List ℕ) (privilege : ℕ) (sent : Stamp) : Type 0 where
  pub format : field payload 0 2 ≡ 3
  pub subformat : field payload 2 2 ≡ 2
  pub level : privilege ≡ field payload 4 2
  pub stamp : IsStamp widths payload 6 sent

-- format 3, subformat 3, with no encoder mode and no options
pub record IsSupport (payload : List ℕ) (enabled : Bool) (status : Qual) : Type 0 where
  pub format : field payload 0 2 ≡ 3
  pub subformat : field payload 2 2 ≡ 3
  pub enable : enabled ≡ bit_of payload 4
  pub mode : field payload 5 1 ≡ 0
  pub number : field payload 6 2 ≡ qual_number status
  pub options : field payload 8 5 ≡ 0

-- format 2
pub record IsAddress (widths : Parameters) (payload : List ℕ) (report : Report) : Type 0 where
  pub format : field payload 0 2 ≡ 2
  pub fields : IsReportAt widths payload 2 report

-- format 1 with a branch count of 0
pub record IsMap (payload : List ℕ) (map : ℕ) : Type 0 where
  pub format : field payload 0 2 ≡ 1
  pub count : field payload 2 5 ≡ 0
  pub bits : map ≡ field payload 7 31

-- the fields of a map with an address after its format
pub record MapFields : Type 0 where
  pub count : ℕ
  pub map : ℕ
  pub report : Report

-- format 1 with a branch count above 0
pub record IsMapAddress (widths : Parameters) (payload : List ℕ) (sent : MapFields) : Type 0 where
  pub format : field payload 0 2 ≡ 1
  pub some : 0 < sent.count
  pub number : sent.count ≡ field payload 2 5
  pub bits : sent.map ≡ field payload 7 (map_width sent.count)
  pub fields : IsReportAt widths payload (7 + map_width sent.count) sent.report

abbrev pub stamp_of : ℕ → ℕ → Stamp
stamp_of time context = record { time = time; context = context }

-- The payload spells the packet, by an encoder with these widths.
abbrev pub IsPacket : Parameters → List ℕ → Packet → Type 0
IsPacket widths payload (Start branch privilege address time context) =
    IsStart widths payload (record { branch = branch; privilege = privilege; stamp = stamp_of time context; address = address })
IsPacket widths payload (Context privilege time context) = IsContext widths payload privilege (stamp_of time context)
IsPacket widths payload (Support enabled status) = IsSupport payload enabled status
IsPacket widths payload (Address report) = IsAddress widths payload report
IsPacket widths payload (Map map) = IsMap payload map
IsPacket widths payload (MapAddress count map report) = IsMapAddress widths payload (record { count = count; map = map; report = report })

-- format 3, subformat 3, with an encoder mode or an option
pub record IsBadSupport (payload : List ℕ) : Type 0 where
  pub format : field payload 0 2 ≡ 3
  pub subformat : field payload 2 2 ≡ 3
  pub wrong : (field payload 5 1 ≢ 0) ⊎ (field payload 8 5 ≢ 0)

-- The payload of the packet of this number is refused.
abbrev pub IsRefusedPayload : ℕ → List ℕ → TraceFault → Type 0
IsRefusedPayload number payload (Optional k) = (k ≡ number) × (field payload 0 2 ≡ 0)
IsRefusedPayload number payload (Trap k) = (k ≡ number) × (field payload 0 2 ≡ 3) × (field payload 2 2 ≡ 1)
IsRefusedPayload number payload (BadSupport k) = (k ≡ number) × IsBadSupport payload
IsRefusedPayload number payload BadMagic = ⊥
IsRefusedPayload number payload (BadHeader i) = ⊥
IsRefusedPayload number payload (Truncated k) = ⊥
IsRefusedPayload number payload (StreamPastEnd s) = ⊥
IsRefusedPayload number payload (Rest offset) = ⊥

-- What the payload of the packet of this number spells, by an encoder with these widths.
abbrev pub Spells : Parameters → ℕ → List ℕ → Result Packet TraceFault → Type 0
Spells widths number payload (Ok packet) = IsPacket widths payload packet
Spells widths number payload (Err fault) = IsRefusedPayload number payload fault
