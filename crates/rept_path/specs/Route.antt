-- The legs of all packets: what `process_te_inst` and `process_support` make of them in the
-- reference decoder of Efficient Trace for RISC-V 2.0. Lists of packets, legs and rows are newest
-- first.
use Rattle.std.specs.Prelude.{◌≡◌, ℕ, ◌+◌, List, [], ◌∷◌, ◌++◌, length, Option, Some, None, Result, Ok, Err, Bool, true, false, ◌⊎◌, if◌then◌else◌}
use Rattle.rept_path.specs.Code.{Code}
use Rattle.rept_path.specs.declared.fault.PathFault.{PathFault}
use Rattle.rept_path.specs.declared.fault.PathFault.TheVariants.{NoStart}
use Rattle.rept_path.specs.declared.aim.Aim.{Aim}
use Rattle.rept_path.specs.declared.aim.Aim.TheVariants as aims
use Rattle.rept_isa.specs.declared.row.StepRow.{StepRow}
use Rattle.rept_trace.specs.declared.packet.Qual.TheVariants.{NoChange, EndedRep, TraceLost, EndedNtr}
use Rattle.rept_trace.specs.declared.packet.Packet.{Packet}
use Rattle.rept_trace.specs.declared.packet.Packet.TheVariants.{Start, Context, Support, Address, Map, MapAddress}
use Rattle.rept_path.specs.Code.{sum}
use Rattle.rept_path.specs.Packets.{bits, bits_of, reported, reported_after, waiting, begins}
use Rattle.rept_path.specs.Moves.{Lead, Heading, heading_by, Place, Stand, place_along, position, is_inferred}
use Rattle.rept_path.specs.Legs.{PhaseLeg, PhaseFault}
use Rattle.rept_path.specs.Gap.{gap_to_start}

-- a part of what a packet makes the walk do: where an uninferable jump goes, and where the moves
-- stop
pub record Phase : Type 0 where
  pub target : Option ℕ
  pub aim : Aim

-- what leads its moves, where the walk stands so
abbrev pub lead_of : Stand → Phase → Lead
lead_of s phase = record { packet = s.packet; target = phase.target; bits = s.bits; room = s.room }

-- the heading of its moves
abbrev pub heading_of : Stand → Phase → Heading
heading_of s phase = heading_by (lead_of s phase) phase.aim

-- the same packet and bits, after a leg
abbrev pub further : Code → Stand → List StepRow → Stand
further code s leg = record { packet = s.packet; bits = s.bits; place = place_along code s.place leg; room = s.room }

-- The leg is made of those of the phases, each from where the one before it stopped.
abbrev pub PhaseLegs : Code → Stand → List Phase → List StepRow → Type 0
PhaseLegs code s [] leg = leg ≡ []
PhaseLegs code s (phase ∷ phases) leg = (first : List StepRow) × (rest : List StepRow) × (leg ≡ rest ++ first) × PhaseLeg code (heading_of s phase) s.place first × PhaseLegs code (further code s first) phases rest

-- One of the phases has no leg, and this is why.
abbrev pub PhasesFault : Code → Stand → List Phase → PathFault → Type 0
PhasesFault code s [] e = ⊥
PhasesFault code s (phase ∷ phases) e = PhaseFault code (heading_of s phase) s.place e ⊎ ((first : List StepRow) × PhaseLeg code (heading_of s phase) s.place first × PhasesFault code (further code s first) phases e)

-- Where the last stop was inferred, the program had come to the reported address and went on to the
-- next uninferable jump, which led there again.
abbrev pub first_phase : Bool → ℕ → List Phase
first_phase marked before = if marked then record { target = Some before; aim = aims.Jumped } ∷ [] else []

-- what a packet makes a running walk do, from the mark and the reported address before it
abbrev pub phases_of : Packet → Bool → ℕ → List Phase
phases_of (Start branch privilege a time context) marked before = record { target = Some a; aim = aims.Start a } ∷ []
phases_of (Address report) marked before = first_phase marked before ++ record { target = Some (sum before report.difference); aim = aims.Report (sum before report.difference) report.notify report.updiscon } ∷ []
phases_of (MapAddress count map report) marked before = first_phase marked before ++ record { target = Some (sum before report.difference); aim = aims.Report (sum before report.difference) report.notify report.updiscon } ∷ []
phases_of (Map map) marked before = first_phase marked before ++ record { target = None; aim = aims.LastBit } ∷ []
phases_of (Context privilege time context) marked before = []
phases_of (Support enabled NoChange) marked before = []
phases_of (Support enabled EndedRep) marked before = []
phases_of (Support enabled TraceLost) marked before = []
phases_of (Support enabled EndedNtr) marked before = first_phase marked before

-- where a packet and its leg bring the walk: all branch bits of the stretch, the reported address
-- and the place
pub record LegArrival : Type 0 where
  pub bits : List Bool
  pub reported : ℕ
  pub place : Place

-- the mark after a packet, from the one before it
abbrev pub mark_after : Code → Packet → Bool → LegArrival → Bool
mark_after code (Start branch privilege a time context) marked x = false
mark_after code (Address report) marked x = is_inferred code x.bits (aims.Report x.reported report.notify report.updiscon) x.place
mark_after code (MapAddress count map report) marked x = is_inferred code x.bits (aims.Report x.reported report.notify report.updiscon) x.place
mark_after code (Map map) marked x = false
mark_after code (Context privilege time context) marked x = marked
mark_after code (Support enabled status) marked x = marked

-- where a packet meets the walk, and whether the trace waits there for a start packet
pub record Meeting : Type 0 where
  pub waits : Bool
  pub place : Place

abbrev pub meets : Bool → Place → Meeting
meets waits place = record { waits = waits; place = place }

-- the place after a packet and its leg
abbrev pub place_after : Code → Packet → Meeting → List StepRow → Place
place_after code packet meeting leg = if begins packet meeting.waits then record { at = reported_after packet 0; rows = leg ++ meeting.place.rows; branches = 0 } else place_along code meeting.place leg

unfoldable pub place : Code → List Packet → List (List StepRow) → Place
place code [] legs = record { at = 0; rows = []; branches = 0 }
place code (packet ∷ earlier) [] = record { at = 0; rows = []; branches = 0 }
place code (packet ∷ earlier) (leg ∷ legs) = place_after code packet (meets (waiting earlier) (place code earlier legs)) leg

-- whether the walk stands at an inferred stop
unfoldable pub marked : Code → List Packet → List (List StepRow) → Bool
marked code [] legs = false
marked code (packet ∷ earlier) [] = false
marked code (packet ∷ earlier) (leg ∷ legs) = mark_after code packet (marked code earlier legs) (record { bits = bits code (packet ∷ earlier); reported = reported (packet ∷ earlier); place = place code (packet ∷ earlier) (leg ∷ legs) })

-- what a packet is met by: all that the packets before it and their legs leave, whether the trace
-- waits for a start packet, and how many rows the route may have
pub record Met : Type 0 where
  pub number : ℕ
  pub bits : List Bool
  pub reported : ℕ
  pub marked : Bool
  pub waits : Bool
  pub place : Place
  pub room : ℕ

-- where the packet meets the walk, and with the packet's own bits
abbrev pub stand_of : Met → Stand
stand_of met = record { packet = met.number; bits = met.bits; place = met.place; room = met.room }

abbrev pub with_bits : Code → Packet → Met → Stand
with_bits code packet met = record { packet = met.number; bits = met.bits ++ bits_of code packet; place = met.place; room = met.room }

-- the address of a start packet must be a position
abbrev pub admits : Code → Packet → Result ℕ PathFault
admits code (Start branch privilege a time context) = position code a
admits code (Address report) = Ok 0
admits code (MapAddress count map report) = Ok 0
admits code (Map map) = Ok 0
admits code (Context privilege time context) = Ok 0
admits code (Support enabled status) = Ok 0

-- A packet while the trace runs has this leg.
pub record RunningLeg (code : Code) (packet : Packet) (met : Met) (leg : List StepRow) : Type 0 where
  pub admitted : (a : ℕ) × (admits code packet ≡ Ok a)
  pub legs : PhaseLegs code (with_bits code packet met) (phases_of packet met.marked met.reported) leg

abbrev pub RunningFault : Code → Packet → Met → PathFault → Type 0
RunningFault code packet met e = (admits code packet ≡ Err e) ⊎ (((a : ℕ) × (admits code packet ≡ Ok a)) × PhasesFault code (with_bits code packet met) (phases_of packet met.marked met.reported) e)

-- A packet while the trace waits has this leg: a start packet that of the gap, the others none.
abbrev pub WaitingLeg : Code → Packet → Met → List StepRow → Type 0
WaitingLeg code (Start branch privilege a time context) met leg = (gap_to_start code (stand_of met) a ≡ Ok leg) × (position code a ≡ Ok a)
WaitingLeg code (Address report) met leg = ⊥
WaitingLeg code (MapAddress count map report) met leg = ⊥
WaitingLeg code (Map map) met leg = ⊥
WaitingLeg code (Context privilege time context) met leg = leg ≡ []
WaitingLeg code (Support enabled status) met leg = leg ≡ []

abbrev pub WaitingFault : Code → Packet → Met → PathFault → Type 0
WaitingFault code (Start branch privilege a time context) met e = (gap_to_start code (stand_of met) a ≡ Err e) ⊎ (((rows : List StepRow) × (gap_to_start code (stand_of met) a ≡ Ok rows)) × (position code a ≡ Err e))
WaitingFault code (Address report) met e = e ≡ NoStart met.number
WaitingFault code (MapAddress count map report) met e = e ≡ NoStart met.number
WaitingFault code (Map map) met e = e ≡ NoStart met.number
WaitingFault code (Context privilege time context) met e = ⊥
WaitingFault code (Support enabled status) met e = ⊥

-- The first packet is a start packet, and adds no row.
abbrev pub FirstLeg : Code → Packet → List StepRow → Type 0
FirstLeg code (Start branch privilege a time context) leg = (position code a ≡ Ok a) × (leg ≡ [])
FirstLeg code (Address report) leg = ⊥
FirstLeg code (MapAddress count map report) leg = ⊥
FirstLeg code (Map map) leg = ⊥
FirstLeg code (Context privilege time context) leg = ⊥
FirstLeg code (Support enabled status) leg = ⊥

abbrev pub FirstFault : Code → Packet → PathFault → Type 0
FirstFault code (Start branch privilege a time context) e = position code a ≡ Err e
FirstFault code (Address report) e = ⊥
FirstFault code (MapAddress count map report) e = ⊥
FirstFault code (Map map) e = ⊥
FirstFault code (Context privilege time context) e = ⊥
FirstFault code (Support enabled status) e = ⊥

-- the first where the trace waits, and the second where it runs
abbrev pub by_waiting : Bool → Type 0 → Type 0 → Type 0
by_waiting true A B = A
by_waiting false A B = B

abbrev pub LegBy : Code → Packet → Met → List StepRow → Type 0
LegBy code packet met leg = by_waiting met.waits (WaitingLeg code packet met leg) (RunningLeg code packet met leg)

abbrev pub FaultBy : Code → Packet → Met → PathFault → Type 0
FaultBy code packet met e = by_waiting met.waits (WaitingFault code packet met e) (RunningFault code packet met e)

-- where a route begins: the number of its first packet, and how many rows it may have
pub record Origin : Type 0 where
  pub number : ℕ
  pub room : ℕ

-- a path of its own, before which so many packets are skipped
abbrev pub alone : ℕ → Origin
alone skipped = record { number = skipped; room = 65536 }

-- what packets of a route and their legs leave
abbrev pub met_by : Code → Origin → List Packet → List (List StepRow) → Met
met_by code origin packets legs = record { number = origin.number + length packets; bits = bits code packets; reported = reported packets; marked = marked code packets legs; waits = waiting packets; place = place code packets legs; room = origin.room }

-- the packets of a route before a packet, and their legs
pub record EarlierPackets : Type 0 where
  pub origin : Origin
  pub packets : List Packet
  pub legs : List (List StepRow)

abbrev pub earlier_by : Origin → List Packet → List (List StepRow) → EarlierPackets
earlier_by origin packets legs = record { origin = origin; packets = packets; legs = legs }

abbrev pub met_after : Code → EarlierPackets → Met
met_after code before = met_by code before.origin before.packets before.legs

-- the first where no packet is earlier, and else the second
abbrev pub by_first : List Packet → Type 0 → Type 0 → Type 0
by_first [] A B = A
by_first (last ∷ earlier) A B = B

-- The packet has this leg, after these packets and their legs.
abbrev pub Leg : Code → Packet → EarlierPackets → List StepRow → Type 0
Leg code packet before leg = by_first before.packets (FirstLeg code packet leg) (LegBy code packet (met_after code before) leg)

-- The packet has no leg, and this is why.
abbrev pub Fault : Code → Packet → EarlierPackets → PathFault → Type 0
Fault code packet before e = by_first before.packets (FirstFault code packet e) (FaultBy code packet (met_after code before) e)

-- Each packet has its leg.
abbrev pub Route : Code → Origin → List Packet → List (List StepRow) → Type 0
Route code origin [] [] = Unit {0}
Route code origin [] (leg ∷ legs) = ⊥
Route code origin (packet ∷ earlier) [] = ⊥
Route code origin (packet ∷ earlier) (leg ∷ legs) = Leg code packet (earlier_by origin earlier legs) leg × Route code origin earlier legs
