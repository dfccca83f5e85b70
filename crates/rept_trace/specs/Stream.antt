-- A trace file of one stream: a header of eight bytes, and then for each packet a length byte and
-- so many bytes of payload. A length of 0 is skipped and is no packet. The lengths are this
-- project's own; what a payload spells is Efficient Trace's, in Grammar.
use Rattle.std.specs.Prelude.{◌≡◌, ℕ, ◌+◌, ◌<◌, List, [], ◌∷◌, ◌++◌, length, replicate, Bool, Option, Some, None, Result, Ok, Err}
use Rattle.rept_trace.specs.declared.packet.Packet.{Packet}
use Rattle.rept_trace.specs.declared.fault.TraceFault.{TraceFault}
use Rattle.rept_trace.specs.declared.fault.TraceFault.TheVariants.{BadMagic, BadHeader, Truncated, Optional, Trap, BadSupport, StreamPastEnd, Rest}
use Rattle.rept_trace.specs.declared.parameters.Parameters.{Parameters}
use Rattle.rept_trace.specs.Grammar.{untimed, IsPacket, IsRefusedPayload}
use Rattle.rept_trace.specs.Header.{one_stream, heading_of, header_bytes}

-- bytes of packets, by an encoder that sends fields of these widths
pub record Stream : Type 0 where
  pub widths : Parameters
  pub bytes : List ℕ

-- without times and contexts
abbrev pub plain : Bool → List ℕ → Stream
plain halves bytes = record { widths = untimed halves; bytes = bytes }

-- the header of a file of one stream: the text RTR1, the count 1, whether code may be compressed,
-- and two zero bytes
abbrev pub header : Bool → List ℕ
header halves = header_bytes one_stream (heading_of 1 halves)

-- The bytes are some lengths of 0 and then these.
pub record AreAfterZeros (bytes rest : List ℕ) : Type 0 where
  pub zeros : ℕ
  pub layout : bytes ≡ replicate zeros 0 ++ rest

-- The next packet has this payload, which isn't empty, and these bytes follow it.
abbrev pub IsFrame : List ℕ → List ℕ → List ℕ → Type 0
IsFrame bytes payload rest = (0 < length payload) × AreAfterZeros bytes (length payload ∷ (payload ++ rest))

-- No packet follows.
abbrev pub IsStreamEnded : List ℕ → Type 0
IsStreamEnded bytes = AreAfterZeros bytes []

-- The next packet's length passes the end.
abbrev pub IsCutShort : List ℕ → Type 0
IsCutShort bytes = (size : ℕ) × (others : List ℕ) × AreAfterZeros bytes (size ∷ others) × (length others < size)

-- The packet of this number, which comes next, is refused.
abbrev pub FailsNext : ℕ → Stream → TraceFault → Type 0
FailsNext number stream BadMagic = ⊥
FailsNext number stream (BadHeader i) = ⊥
FailsNext number stream (Truncated k) = (k ≡ number) × IsCutShort stream.bytes
FailsNext number stream (Optional k) = (payload : List ℕ) × (rest : List ℕ) × IsFrame stream.bytes payload rest × IsRefusedPayload number payload (Optional k)
FailsNext number stream (Trap k) = (payload : List ℕ) × (rest : List ℕ) × IsFrame stream.bytes payload rest × IsRefusedPayload number payload (Trap k)
FailsNext number stream (BadSupport k) = (payload : List ℕ) × (rest : List ℕ) × IsFrame stream.bytes payload rest × IsRefusedPayload number payload (BadSupport k)
FailsNext number stream (StreamPastEnd s) = ⊥
FailsNext number stream (Rest offset) = ⊥

-- The next packet is this one, and this is left after it.
abbrev pub Begins : Stream → Packet → Stream → Type 0
Begins stream packet rest = (payload : List ℕ) × IsFrame stream.bytes payload rest.bytes × IsPacket stream.widths payload packet × (rest.widths ≡ stream.widths)

-- What is answered where packet `number` comes next in this stream, which number comes after, and
-- what is left. The end and a fault change nothing.
abbrev pub AnswersNext : ℕ → Stream → Result (Option Packet) TraceFault → ℕ → Stream → Type 0
AnswersNext number stream (Ok None) next rest = IsStreamEnded stream.bytes × (next ≡ number) × (rest ≡ stream)
AnswersNext number stream (Ok (Some packet)) next rest = Begins stream packet rest × (next ≡ number + 1)
AnswersNext number stream (Err fault) next rest = FailsNext number stream fault × (next ≡ number) × (rest ≡ stream)

-- The stream holds these packets, in order, and no more.
abbrev pub Hold : Stream → List Packet → Type 0
Hold stream [] = IsStreamEnded stream.bytes
Hold stream (packet ∷ packets) = (rest : Stream) × Begins stream packet rest × Hold rest packets

-- The stream begins with these packets, and then comes this fault. The first packet has this
-- number.
abbrev pub FailsAfter : ℕ → Stream → List Packet → TraceFault → Type 0
FailsAfter number stream [] fault = FailsNext number stream fault
FailsAfter number stream (packet ∷ packets) fault = (rest : Stream) × Begins stream packet rest × FailsAfter (number + 1) rest packets fault
