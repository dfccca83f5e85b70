-- What a trace tells.
use Rattle.std.specs.Prelude.{◌≡◌, ℕ, ◌-◌, Bool, ◌<◌, List, [], ◌∷◌, ◌++◌, length, reverse, slice_get, Some, Ok, false}
use Rattle.std.specs.List.{list_any}
use Rattle.rept_dump.specs.Memory.{Contents}
use Rattle.rept_path.specs.Code.{Code}
use Rattle.rept_isa.specs.declared.row.StepRow.{StepRow}
use Rattle.rept_steps.specs.Linked.{EndBefore}
use Rattle.rept_trace.specs.declared.packet.Packet.{Packet}
use Rattle.rept_trace.specs.declared.packet.Packet.TheVariants.{Start, Context, Support, Address, Map, MapAddress}
use Rattle.rept_trace.specs.Grammar.{untimed}
use Rattle.rept_trace.specs.Stream.{header, plain}
use Rattle.rept_path.specs.Rows.{CarryCode}
use Rattle.rept_path.specs.declared.fault.PathFault.{PathFault}
use Rattle.rept_path.specs.Packets.{bits}
use Rattle.rept_path.specs.Moves.{Stand}
use Rattle.rept_path.specs.Gap.{gap}
use Rattle.rept_path.specs.Route.{alone, Route, place}
use Rattle.rept_path.specs.Trace.{loses}
use Rattle.rept_path.specs.Traced.{IsTracedPath}
use Rattle.rept_encode.specs.declared.fault.EncodeFault.{EncodeFault}
use Rattle.rept_encode.specs.declared.fault.EncodeFault.TheVariants.{JumpEnds, OutOfMemory}
use Rattle.rept_encode.specs.Bits.{start_bit}
use Rattle.rept_encode.specs.Written.{AreWritten}
use Rattle.rept_encode.specs.Walkable.{AreStraight, IsFirstJumpEnd}

-- The code of a program that may be compressed, or may not.
abbrev pub coded : Bool → Contents → Code
coded halves contents = record { contents = contents; halves = halves }

-- The header says whether code may be compressed. In each such code that has the rows' instructions
-- at their addresses, the path of the trace from its first packet on to where the rows end is these
-- rows, and no packet is skipped.
pub record TellsRows (halves : Bool) (trace : List ℕ) (rows : List StepRow) : Type 0 where
  pub rest : List ℕ
  pub layout : trace ≡ header halves ++ rest
  pub path : (contents : Contents) (pc : ℕ) → CarryCode (coded halves contents) rows → EndBefore rows pc → IsTracedPath (record { code = coded halves contents; stream = plain halves rest; from = 0; pc = pc }) 0 rows

-- the start packet at a row
abbrev pub start_at : StepRow → Packet
start_at row = Start (start_bit row) 0 row.at 0 0

-- The packet tells branches or an address, and neither starts the trace nor ends it.
abbrev pub IsReporting : Packet → Type 0
IsReporting (Start branch privilege a time context) = ⊥
IsReporting (Context privilege time context) = ⊥
IsReporting (Support enabled status) = ⊥
IsReporting (Address report) = Unit {0}
IsReporting (Map map) = Unit {0}
IsReporting (MapAddress count map report) = Unit {0}

-- Each of them does.
abbrev pub AreReporting : List Packet → Type 0
AreReporting [] = Unit {0}
AreReporting (packet ∷ packets) = IsReporting packet × AreReporting packets

-- The packets, newest first, lead to the last of the rows, after all rows before it; and from where
-- they leave the walk a gap leads over the last row to where it goes, whatever the number of the
-- next packet is.
pub record LeadsOver (code : Code) (packets : List Packet) (rows : List StepRow) : Type 0 where
  pub legs : List (List StepRow)
  pub route : Route code (alone 0) packets legs
  pub last : StepRow
  pub all : rows ≡ reverse (last ∷ (place code packets legs).rows)
  pub cross : (s : Stand) (otherwise : PathFault) → s.bits ≡ bits code packets → s.place.at ≡ (place code packets legs).at → s.place.branches ≡ (place code packets legs).branches → length s.place.rows < s.room → gap code s (record { address = last.next; otherwise = otherwise }) ≡ Ok (last ∷ [])

-- The bytes are packets that follow the start packet at the first row, and no packet is lost. In
-- each such code that has the rows' instructions, the packets with the start packet lead to the
-- last row. Where no row but the last is a call, each packet tells branches or an address.
pub record TellsAfter (halves : Bool) (bytes : List ℕ) (rows : List StepRow) : Type 0 where
  pub first : StepRow
  pub begins : slice_get rows 0 ≡ Some first
  pub packets : List Packet
  pub written : AreWritten (untimed halves) bytes packets
  pub whole : list_any loses packets ≡ false
  pub told : AreStraight rows (length rows - 1) → AreReporting packets
  pub leads : (contents : Contents) → CarryCode (coded halves contents) rows → LeadsOver (coded halves contents) (reverse (start_at first ∷ packets)) rows

-- why rows aren't written
abbrev pub IsRefusal : List StepRow → EncodeFault → Type 0
IsRefusal rows (JumpEnds i) = IsFirstJumpEnd rows i
IsRefusal rows OutOfMemory = Unit {0}
