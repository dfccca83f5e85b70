-- What the writer has written so far. These definitions speak of the code's own values.
use Rattle.std.specs.Prelude.{◌≡◌, ℕ, ◌^◌, ◌<◌, Bool, List, [], ◌∷◌, ◌++◌, length, slice_get, Some}
use Rattle.std.specs.Int.{w32, to_le_bytes}
use Rattle.rept_isa.specs.declared.row.StepRow.{StepRow}
use Rattle.rept_trace.specs.declared.packet.Packet.{Packet}
use Rattle.rept_trace.specs.Grammar.{timed}
use Rattle.rept_trace.specs.Header.{several_streams, heading_of, header_bytes}
use Rattle.rept_trace.specs.Streams.{AreStreamsThen}
use Rattle.rept_encode.specs.Walkable.{IsFirstJumpEnd}
use Rattle.rept_encode.specs.declared.weaving.stretch.HartStretch.{HartStretch}
use Rattle.rept_encode.specs.declared.weaving.fault.HartPlace.{HartPlace}
use Rattle.rept_encode.specs.declared.weaving.fault.WeaveFault.{WeaveFault}
use Rattle.rept_encode.specs.declared.weaving.fault.WeaveFault.TheVariants.{HartCount, InnerCall, JumpEnds, TooLong, OutOfMemory}
use Rattle.rept_encode.specs.Weaving.Stamped.{AddsPackets}
use Rattle.rept_encode.specs.Weaving.Woven.{start_of, AreStretchesTold, AreStreamsOf, IsInnerCall, IsInStretch, IsStretchSent, IsTooLong}

-- The start packet of a stretch was added.
abbrev pub AddsStart : Bool → HartStretch → List ℕ → List ℕ → Type 0
AddsStart halves s old new = (first : StepRow) × (slice_get s.steps 0 ≡ Some first) × AddsPackets (timed halves) old new (start_of s first ∷ [])

-- All packets of a stretch were added.
abbrev pub AddsStretch : Bool → HartStretch → List ℕ → List ℕ → Type 0
AddsStretch halves s old new = (packets : List Packet) × IsStretchSent halves s packets × AddsPackets (timed halves) old new packets

-- a stream, with its length in front
abbrev pub framed : List ℕ → List ℕ
framed stream = to_le_bytes w32 (length stream) ++ stream

-- The stream of a hart was added.
pub record AddsHart (halves : Bool) (hart : List HartStretch) (old new : List ℕ) : Type 0 where
  pub stream : List ℕ
  pub appended : new ≡ old ++ framed stream
  pub few : length stream < 2 ^ 32
  pub told : AreStretchesTold halves hart stream

-- The header of a file of so many streams, and the streams of these harts.
pub record IsTraceFront (halves : Bool) (count : ℕ) (harts : List (List HartStretch)) (trace : List ℕ) : Type 0 where
  pub streams : List (List ℕ)
  pub body : List ℕ
  pub layout : trace ≡ header_bytes several_streams (heading_of count halves) ++ body
  pub whole : (later : List ℕ) → AreStreamsThen (body ++ later) streams later
  pub each : AreStreamsOf halves harts streams

-- why a stretch isn't written that stands at this place
abbrev pub IsStretchCause : HartPlace → List StepRow → WeaveFault → Type 0
IsStretchCause at rows HartCount = ⊥
IsStretchCause at rows (InnerCall p) = (p.hart ≡ at.hart) × (p.stretch ≡ at.stretch) × IsInnerCall rows p.step
IsStretchCause at rows (JumpEnds p) = (p.hart ≡ at.hart) × (p.stretch ≡ at.stretch) × IsFirstJumpEnd rows p.step
IsStretchCause at rows (TooLong hart) = ⊥
IsStretchCause at rows OutOfMemory = Unit {0}

-- why the hart of this number isn't written
abbrev pub IsHartCause : Bool → ℕ → List HartStretch → WeaveFault → Type 0
IsHartCause halves h hart HartCount = ⊥
IsHartCause halves h hart (InnerCall p) = (p.hart ≡ h) × IsInStretch hart p IsInnerCall
IsHartCause halves h hart (JumpEnds p) = (p.hart ≡ h) × IsInStretch hart p IsFirstJumpEnd
IsHartCause halves h hart (TooLong k) = (k ≡ h) × IsTooLong halves hart
IsHartCause halves h hart OutOfMemory = Unit {0}
