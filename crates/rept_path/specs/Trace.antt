-- The path of a list of packets, oldest first, and why there is none.
use Rattle.std.specs.Prelude.{◌≡◌, ◌≤◌, ℕ, Bool, true, false, List, ◌∷◌, ◌++◌, length, reverse, drop, slice_get, Option, Some, None, Ok, Err, ◌⊎◌}
use Rattle.std.specs.List.{list_any}
use Rattle.rept_path.specs.Code.{Code}
use Rattle.rept_path.specs.declared.fault.PathFault.{PathFault}
use Rattle.rept_path.specs.declared.fault.PathFault.TheVariants.{NoStart}
use Rattle.rept_isa.specs.declared.row.StepRow.{StepRow}
use Rattle.rept_trace.specs.declared.packet.Qual.TheVariants.{TraceLost}
use Rattle.rept_trace.specs.declared.packet.Packet.{Packet}
use Rattle.rept_trace.specs.declared.packet.Packet.TheVariants.{Start, Support}
use Rattle.rept_path.specs.Packets.{bits}
use Rattle.rept_path.specs.Moves.{Stand}
use Rattle.rept_path.specs.Route.{Route, Origin, alone, Fault, earlier_by, place}
use Rattle.rept_path.specs.Gap.{gap_to_end}

abbrev pub starts : Option Packet → Bool
starts (Some (Start branch privilege a time context)) = true
starts _ = false

abbrev pub loses : Packet → Bool
loses (Support enabled TraceLost) = true
loses _ = false

-- The packet of this number is a start packet from which a window may begin.
pub record MayBegin (packets : List Packet) (from i : ℕ) : Type 0 where
  pub late : from ≤ i
  pub start : starts (slice_get packets i) ≡ true
  pub whole : list_any loses (drop i packets) ≡ false

-- The window begins at the first of them.
pub record Window (packets : List Packet) (from skipped : ℕ) : Type 0 where
  pub may : MayBegin packets from skipped
  pub first : (i : ℕ) → MayBegin packets from i → skipped ≤ i

-- The window begins there, or there is none.
abbrev pub IsWindow : List Packet → ℕ → Option ℕ → Type 0
IsWindow packets from None = (i : ℕ) → MayBegin packets from i → ⊥
IsWindow packets from (Some skipped) = Window packets from skipped

-- where packets and their legs leave the walk of a path of its own, before what has this number
abbrev pub stand_after : Code → ℕ → List Packet → List (List StepRow) → Stand
stand_after code count packets legs = record { packet = count; bits = bits code packets; place = place code packets legs; room = 65536 }

-- a traced run: the program, the packets, the number from which on the window may begin, and the
-- program counter at the end
pub record TracedRun : Type 0 where
  pub code : Code
  pub packets : List Packet
  pub from : ℕ
  pub pc : ℕ

-- the packets of its window, newest first
abbrev pub newest_first : TracedRun → ℕ → List Packet
newest_first run skipped = reverse (drop skipped run.packets)

-- where a route of the window leaves the walk, before the end, whose number is the count of all
-- packets
abbrev pub last_stand : TracedRun → ℕ → List (List StepRow) → Stand
last_stand run skipped legs = stand_after run.code (length run.packets) (newest_first run skipped) legs

-- A route of the window, and the rows of the gap to the end.
pub record IsPath (run : TracedRun) (skipped : ℕ) (path : List StepRow) : Type 0 where
  pub window : Window run.packets run.from skipped
  pub legs : List (List StepRow)
  pub route : Route run.code (alone skipped) (newest_first run skipped) legs
  pub last : List StepRow
  pub end : gap_to_end run.code (last_stand run skipped legs) run.pc ≡ Ok last
  pub order : path ≡ reverse (last ++ (place run.code (newest_first run skipped) legs).rows)

-- Up to a packet of the window there is a route. The packet has no leg, by this fault.
pub record StopsAt (code : Code) (origin : Origin) (window : List Packet) (e : PathFault) : Type 0 where
  pub earlier : List Packet
  pub packet : Packet
  pub later : List Packet
  pub cut : window ≡ reverse earlier ++ packet ∷ later
  pub legs : List (List StepRow)
  pub route : Route code origin earlier legs
  pub fault : Fault code packet (earlier_by origin earlier legs) e

-- There is a route of the window, and no way from it to the end.
pub record StopsAtEnd (run : TracedRun) (skipped : ℕ) (e : PathFault) : Type 0 where
  pub legs : List (List StepRow)
  pub route : Route run.code (alone skipped) (newest_first run skipped) legs
  pub end : gap_to_end run.code (last_stand run skipped legs) run.pc ≡ Err e

abbrev pub HasNoPathOfPackets : TracedRun → PathFault → Type 0
HasNoPathOfPackets run e =
    (IsWindow run.packets run.from None × (e ≡ NoStart (length run.packets)))
    ⊎ ((skipped : ℕ) × Window run.packets run.from skipped × (StopsAt run.code (alone skipped) (drop skipped run.packets) e ⊎ StopsAtEnd run skipped e))
