-- A path by index: a window's packets one after another, and the index in the path at which each
-- one stops. Lists of packets and rows are oldest first here.
use Rattle.std.specs.Prelude.{◌≡◌, ℕ, ◌+◌, ◌<◌, ◌≤◌, List, [], ◌∷◌, ◌++◌, length, reverse, drop, Ok, true, false}
use Rattle.std.specs.List.{between}
use Rattle.rept_path.specs.Code.{Code}
use Rattle.rept_isa.specs.declared.row.StepRow.{StepRow}
use Rattle.rept_trace.specs.declared.packet.Packet.{Packet}
use Rattle.rept_trace.specs.Stream.{Hold}
use Rattle.rept_path.specs.Packets.{bits_of, bits_before, reported_after, waits_after}
use Rattle.rept_path.specs.Moves.{Stand, misfits}
use Rattle.rept_path.specs.Index.{LeastStop}
use Rattle.rept_path.specs.Route.{Phase, heading_of, meets, further, with_bits, phases_of, Met, stand_of, admits, mark_after, place_after, by_waiting, WaitingLeg, FirstLeg, Origin, alone}
use Rattle.rept_path.specs.Gap.{gap_to_end}
use Rattle.rept_path.specs.Trace.{Window, TracedRun}
use Rattle.rept_path.specs.Traced.{RawRun, with_packets}

-- a section of a path: the rows between two of its indices
pub record Section : Type 0 where
  pub path : List StepRow
  pub from : ℕ
  pub to : ℕ

abbrev pub rows_in : Section → List StepRow
rows_in part = between part.from part.to part.path

-- a section's parts before and after an index in it
abbrev pub up_to : Section → ℕ → Section
up_to part stop = record { path = part.path; from = part.from; to = stop }

abbrev pub beyond : Section → ℕ → Section
beyond part stop = record { path = part.path; from = stop; to = part.to }

-- where the walk stands at the end of a section, from where it stands at its beginning
abbrev pub onward : Code → Stand → Section → Stand
onward code s part = further code s (reverse (rows_in part))

-- Each phase goes on to its least stop, and the last one's stop is the end of the section.
abbrev pub PhaseStops : Code → Stand → List Phase → Section → Type 0
PhaseStops code s [] part = part.from ≡ part.to
PhaseStops code s (phase ∷ phases) part =
    (stop : ℕ) × (part.from < stop) × (stop ≤ part.to) × LeastStop code (heading_of s phase) s.place (rows_in (up_to part stop))
    × (misfits code s.bits phase.aim (onward code s (up_to part stop)).place ≡ false) × PhaseStops code (onward code s (up_to part stop)) phases (beyond part stop)

-- A packet's section: its phases end there, while the trace runs, and else its rows are those of
-- the gap.
abbrev pub PacketStops : Code → Packet → Met → Section → Type 0
PacketStops code packet met part =
    by_waiting met.waits (WaitingLeg code packet met (reverse (rows_in part)))
    (((a : ℕ) × (admits code packet ≡ Ok a)) × PhaseStops code (with_bits code packet met) (phases_of packet met.marked met.reported) part)

-- what a packet and its rows leave to the one after it
abbrev pub left_by : Code → Packet → Met → List StepRow → Met
left_by code packet met rows =
    let all = bits_before packet met.waits met.bits ++ bits_of code packet in
    let r = reported_after packet met.reported in
    let p = place_after code packet (meets met.waits met.place) (reverse rows) in
    record { number = met.number + 1; bits = all; reported = r; marked = mark_after code packet met.marked (record { bits = all; reported = r; place = p }); waits = waits_after packet met.waits; place = p; room = met.room }

-- what the first packet is met by
abbrev pub nothing : Origin → Met
nothing origin = record { number = origin.number; bits = []; reported = 0; marked = false; waits = true; place = record { at = 0; rows = []; branches = 0 }; room = origin.room }

-- an index in a path, and what the next packet is met by there
pub record PathMeeting : Type 0 where
  pub path : List StepRow
  pub index : ℕ
  pub met : Met

-- the section from there to a later index, and what the packet of that section leaves
abbrev pub section_to : PathMeeting → ℕ → Section
section_to meeting j = record { path = meeting.path; from = meeting.index; to = j }

abbrev pub meeting_after : Code → Packet → PathMeeting → ℕ → PathMeeting
meeting_after code packet meeting j = record { path = meeting.path; index = j; met = left_by code packet meeting.met (rows_in (section_to meeting j)) }

-- Each packet has one stop, at or after that of the packet before it. The rows from the last stop
-- on lead to the end.
abbrev pub StopsFrom : TracedRun → List Packet → PathMeeting → List ℕ → Type 0
StopsFrom run [] meeting [] = gap_to_end run.code (stand_of meeting.met) run.pc ≡ Ok (reverse (drop meeting.index meeting.path))
StopsFrom run [] meeting (j ∷ stops) = ⊥
StopsFrom run (packet ∷ later) meeting [] = ⊥
StopsFrom run (packet ∷ later) meeting (j ∷ stops) = (meeting.index ≤ j) × (j ≤ length meeting.path) × PacketStops run.code packet meeting.met (section_to meeting j) × StopsFrom run later (meeting_after run.code packet meeting j) stops

-- The first packet of the window is at index 0, and the later ones have these stops.
pub record StopIndices (run : TracedRun) (skipped : ℕ) (path : List StepRow) (stops : List ℕ) : Type 0 where
  pub window : Window run.packets run.from skipped
  pub first : Packet
  pub later : List Packet
  pub cut : drop skipped run.packets ≡ first ∷ later
  pub start : FirstLeg run.code first []
  pub each : StopsFrom run later (record { path = path; index = 0; met = left_by run.code first (nothing (alone skipped)) [] }) stops

-- The bytes hold whole packets, which have such stops on this path.
abbrev pub HaveStops : RawRun → ℕ → List StepRow → Type 0
HaveStops raw skipped path = (list : List Packet) × (stops : List ℕ) × Hold raw.stream list × StopIndices (with_packets raw list) skipped path stops
