-- A trace file of several streams of packets, one of each hart: a header of eight bytes; then for
-- each stream its length in 32 bits, the low byte first, and so many bytes. This project's own.
use Rattle.std.specs.Prelude.{◌≡◌, ℕ, ◌+◌, ◌<◌, ◌≤◌, List, [], ◌∷◌, ◌++◌, length, drop, Bool, Result, Ok, Err, ◌⊎◌}
use Rattle.byteorder.specs.Endian.{little_number}
use Rattle.rept_trace.specs.declared.fault.TraceFault.{TraceFault}
use Rattle.rept_trace.specs.declared.fault.TraceFault.TheVariants.{BadMagic, BadHeader, Truncated, Optional, Trap, BadSupport, StreamPastEnd, Rest}
use Rattle.rept_trace.specs.declared.header.Heading.{Heading}
use Rattle.rept_trace.specs.Header.{several_streams, heading_of, HasHeader, IsHeaderFault}

-- the streams, each as its bytes, and whether code may be compressed
pub record StreamFile : Type 0 where
  pub halves : Bool
  pub streams : List (List ℕ)

-- the bytes are the length of a stream, its bytes, and then the rest
pub record IsStreamThen (bytes stream rest : List ℕ) : Type 0 where
  pub whole : 4 ≤ length bytes
  pub size : length stream ≡ little_number 4 bytes
  pub parts : drop 4 bytes ≡ stream ++ rest

-- the bytes are these streams, one after the other, and then the rest
abbrev pub AreStreamsThen : List ℕ → List (List ℕ) → List ℕ → Type 0
AreStreamsThen bytes [] rest = rest ≡ bytes
AreStreamsThen bytes (stream ∷ streams) rest = (after : List ℕ) × IsStreamThen bytes stream after × AreStreamsThen after streams rest

-- the length, or so many bytes after it, passes the end
abbrev pub IsStreamCut : List ℕ → Type 0
IsStreamCut bytes = (length bytes < 4) ⊎ (length bytes < 4 + little_number 4 bytes)

-- after so many streams one is cut short
pub record IsCutAfter (bytes : List ℕ) (count : ℕ) : Type 0 where
  pub streams : List (List ℕ)
  pub rest : List ℕ
  pub counted : length streams ≡ count
  pub before : AreStreamsThen bytes streams rest
  pub cut : IsStreamCut rest

-- the header counts more streams than this one, and it is cut short
abbrev pub IsCutStream : List ℕ → ℕ → Type 0
IsCutStream bytes s = (said : Heading) × (rest : List ℕ) × HasHeader several_streams bytes said rest × (s < said.count) × IsCutAfter rest s

-- all streams are whole, and bytes follow the last one from this offset on
pub record GoesOn (bytes : List ℕ) (offset : ℕ) : Type 0 where
  pub streams : List (List ℕ)
  pub rest : List ℕ
  pub after : List ℕ
  pub halves : Bool
  pub header : HasHeader several_streams bytes (heading_of (length streams) halves) rest
  pub whole : AreStreamsThen rest streams after
  pub some : 0 < length after
  pub place : offset + length after ≡ length bytes

-- The bytes are no file of streams, and this is the first reason.
abbrev pub AreNoStreams : List ℕ → TraceFault → Type 0
AreNoStreams bytes BadMagic = IsHeaderFault several_streams bytes BadMagic
AreNoStreams bytes (BadHeader i) = IsHeaderFault several_streams bytes (BadHeader i)
AreNoStreams bytes (Truncated k) = ⊥
AreNoStreams bytes (Optional k) = ⊥
AreNoStreams bytes (Trap k) = ⊥
AreNoStreams bytes (BadSupport k) = ⊥
AreNoStreams bytes (StreamPastEnd s) = IsCutStream bytes s
AreNoStreams bytes (Rest offset) = GoesOn bytes offset

-- The bytes are the file of these streams.
abbrev pub AreStreams : List ℕ → StreamFile → Type 0
AreStreams bytes file = (rest : List ℕ) × HasHeader several_streams bytes (heading_of (length file.streams) file.halves) rest × AreStreamsThen rest file.streams []

-- what the bytes are
abbrev pub OpensStreams : List ℕ → Result StreamFile TraceFault → Type 0
OpensStreams bytes (Ok file) = AreStreams bytes file
OpensStreams bytes (Err fault) = AreNoStreams bytes fault
