-- The trace of several harts: what each stretch of steps is sent as, and what the file holds. This
-- project's own; the file is that of rept_trace's Streams.
use Rattle.std.specs.Prelude.{◌≡◌, ◌⊎◌, ℕ, ◌+◌, ◌^◌, ◌<◌, ◌≤◌, Bool, true, false, List, [], ◌∷◌, ◌++◌, length, reverse, slice_get, Some}
use Rattle.rept_dump.specs.Memory.{Contents}
use Rattle.rept_isa.specs.declared.row.StepRow.{StepRow}
use Rattle.rept_trace.specs.declared.packet.Packet.{Packet}
use Rattle.rept_trace.specs.declared.packet.Packet.TheVariants.{Start, Context, Support}
use Rattle.rept_trace.specs.declared.packet.Qual.TheVariants.{EndedRep}
use Rattle.rept_trace.specs.Stream.{Hold}
use Rattle.rept_trace.specs.Grammar.{timed}
use Rattle.rept_trace.specs.Streams.{AreStreams}
use Rattle.rept_path.specs.Rows.{CarryCode}
use Rattle.rept_encode.specs.Bits.{start_bit}
use Rattle.rept_encode.specs.Walkable.{IsFirstJumpEnd}
use Rattle.rept_encode.specs.Encoded.{coded, AreReporting, LeadsOver}
use Rattle.rept_encode.specs.Written.{AreWritten}
use Rattle.rept_encode.specs.declared.weaving.stretch.HartStretch.{HartStretch}
use Rattle.rept_encode.specs.declared.weaving.fault.HartPlace.{HartPlace}
use Rattle.rept_encode.specs.declared.weaving.fault.WeaveFault.{WeaveFault}
use Rattle.rept_encode.specs.declared.weaving.fault.WeaveFault.TheVariants.{HartCount, InnerCall, JumpEnds, TooLong, OutOfMemory}

-- the packet that begins a stretch at its first row, the one that ends it, and the one that tells
-- when it has ended
abbrev pub start_of : HartStretch → StepRow → Packet
start_of s first = Start (start_bit first) 0 first.at s.begin s.process

abbrev pub ended : Packet
ended = Support false EndedRep

abbrev pub end_of : HartStretch → Packet
end_of s = Context 0 s.end s.process

-- The packets are those of a stretch: between its start packet and its end each tells branches or
-- an address. In each such code that has its instructions, a walk along them comes to its last row,
-- after all rows before it, and from there a gap leads over that row to where it goes.
pub record IsStretchSent (halves : Bool) (s : HartStretch) (packets : List Packet) : Type 0 where
  pub first : StepRow
  pub begins : slice_get s.steps 0 ≡ Some first
  pub reports : List Packet
  pub told : AreReporting reports
  pub order : packets ≡ start_of s first ∷ (reports ++ ended ∷ end_of s ∷ [])
  pub leads : (contents : Contents) → CarryCode (coded halves contents) s.steps → LeadsOver (coded halves contents) (reverse packets) s.steps

-- The packets of a hart are those of its stretches, one after the other.
abbrev pub AreSent : Bool → List HartStretch → List Packet → Type 0
AreSent halves [] packets = packets ≡ []
AreSent halves (s ∷ stretches) packets = (front : List Packet) × (later : List Packet) × (packets ≡ front ++ later) × IsStretchSent halves s front × AreSent halves stretches later

-- A stream holds the packets of a hart and no others.
abbrev pub IsStreamOf : Bool → List HartStretch → List ℕ → Type 0
IsStreamOf halves hart bytes = (packets : List Packet) × Hold (record { widths = timed halves; bytes = bytes }) packets × AreSent halves hart packets

-- Each hart has its stream, in order.
abbrev pub AreStreamsOf : Bool → List (List HartStretch) → List (List ℕ) → Type 0
AreStreamsOf halves [] streams = streams ≡ []
AreStreamsOf halves (hart ∷ harts) [] = ⊥
AreStreamsOf halves (hart ∷ harts) (bytes ∷ streams) = IsStreamOf halves hart bytes × AreStreamsOf halves harts streams

-- The trace is a file of one stream for each hart.
pub record IsWoven (halves : Bool) (harts : List (List HartStretch)) (trace : List ℕ) : Type 0 where
  pub streams : List (List ℕ)
  pub file : AreStreams trace (record { halves = halves; streams = streams })
  pub each : AreStreamsOf halves harts streams

-- a call that isn't the last row
pub record IsInnerCall (rows : List StepRow) (i : ℕ) : Type 0 where
  pub row : StepRow
  pub there : slice_get rows i ≡ Some row
  pub call : row.call ≡ true
  pub early : i + 1 < length rows

-- a stretch of this number of a hart has this at a step
abbrev pub IsInStretch : List HartStretch → HartPlace → (List StepRow → ℕ → Type 0) → Type 0
IsInStretch hart p P = (s : HartStretch) × (slice_get hart p.stretch ≡ Some s) × P s.steps p.step

-- a stretch of a hart of this number has it
abbrev pub IsAtPlace : List (List HartStretch) → HartPlace → (List StepRow → ℕ → Type 0) → Type 0
IsAtPlace harts p P = (hart : List HartStretch) × (slice_get harts p.hart ≡ Some hart) × IsInStretch hart p P

-- The bytes are the packets of these stretches, and nothing else.
abbrev pub AreStretchesTold : Bool → List HartStretch → List ℕ → Type 0
AreStretchesTold halves stretches bytes = (packets : List Packet) × AreWritten (timed halves) bytes packets × AreSent halves stretches packets

-- They take 2^32 bytes or more, whose number has no room in the file.
pub record IsTooLong (halves : Bool) (stretches : List HartStretch) : Type 0 where
  pub stream : List ℕ
  pub told : AreStretchesTold halves stretches stream
  pub long : 2 ^ 32 ≤ length stream

-- the hart of this number has too many packets
abbrev pub IsHartTooLong : Bool → List (List HartStretch) → ℕ → Type 0
IsHartTooLong halves harts number = (hart : List HartStretch) × (slice_get harts number ≡ Some hart) × IsTooLong halves hart

-- why no trace is written
abbrev pub IsCause : Bool → List (List HartStretch) → WeaveFault → Type 0
IsCause halves harts HartCount = (length harts ≡ 0) ⊎ (64 < length harts)
IsCause halves harts (InnerCall place) = IsAtPlace harts place IsInnerCall
IsCause halves harts (JumpEnds place) = IsAtPlace harts place IsFirstJumpEnd
IsCause halves harts (TooLong number) = IsHartTooLong halves harts number
IsCause halves harts OutOfMemory = Unit {0}
