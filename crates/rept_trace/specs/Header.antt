-- The first eight bytes of a trace file: the text RTR and a digit, the count of streams, 1 where
-- code may be compressed or else 0, and two zero bytes. This project's own.
use Rattle.std.specs.Prelude.{◌≡◌, ℕ, ◌<◌, ◌≤◌, ◌==◌, ◌&&◌, nat_lt, nat_le, List, [], ◌∷◌, ◌++◌, length, slice_index, Bool, true, false, if◌then◌else◌, ◌⊎◌}
use Rattle.rept_trace.specs.declared.header.Container.{Container}
use Rattle.rept_trace.specs.declared.header.Heading.{Heading}
use Rattle.rept_trace.specs.declared.fault.TraceFault.{TraceFault}
use Rattle.rept_trace.specs.declared.fault.TraceFault.TheVariants.{BadMagic, BadHeader, Truncated, Optional, Trap, BadSupport, StreamPastEnd, Rest}

-- the text RTR1 and one stream, and the text RTR2 and up to 64 streams
abbrev pub one_stream : Container
one_stream = record { digit = 49; most = 1 }

abbrev pub several_streams : Container
several_streams = record { digit = 50; most = 64 }

abbrev pub heading_of : ℕ → Bool → Heading
heading_of count halves = record { count = count; halves = halves }

-- the header that says this
abbrev pub header_bytes : Container → Heading → List ℕ
header_bytes container said = 82 ∷ 84 ∷ 82 ∷ container.digit ∷ said.count ∷ (if said.halves then 1 else 0) ∷ 0 ∷ 0 ∷ []

-- whether this may be byte i of the header
abbrev pub is_header_byte : Container → ℕ → ℕ → Bool
is_header_byte container i byte =
    if i == 4 then nat_lt 0 byte && nat_le byte container.most
    else if i == 5 then nat_le byte 1
    else byte == slice_index (header_bytes container (heading_of 0 false)) i

-- byte i is the first of the header that is wrong
pub record IsWrongByte (container : Container) (bytes : List ℕ) (i : ℕ) : Type 0 where
  pub whole : 8 ≤ length bytes
  pub below : i < 8
  pub wrong : is_header_byte container i (slice_index bytes i) ≡ false
  pub first : (j : ℕ) → j < i → is_header_byte container j (slice_index bytes j) ≡ true

-- the bytes are the header that says this, and then the rest
pub record HasHeader (container : Container) (bytes : List ℕ) (said : Heading) (rest : List ℕ) : Type 0 where
  pub some : 0 < said.count
  pub few : said.count ≤ container.most
  pub layout : bytes ≡ header_bytes container said ++ rest

-- The bytes don't begin with a header, and this is why: they are too few or begin with another
-- text, or a later byte is the first that is wrong.
abbrev pub IsHeaderFault : Container → List ℕ → TraceFault → Type 0
IsHeaderFault container bytes BadMagic = (length bytes < 8) ⊎ ((i : ℕ) × (i < 4) × IsWrongByte container bytes i)
IsHeaderFault container bytes (BadHeader i) = (4 ≤ i) × IsWrongByte container bytes i
IsHeaderFault container bytes (Truncated k) = ⊥
IsHeaderFault container bytes (Optional k) = ⊥
IsHeaderFault container bytes (Trap k) = ⊥
IsHeaderFault container bytes (BadSupport k) = ⊥
IsHeaderFault container bytes (StreamPastEnd s) = ⊥
IsHeaderFault container bytes (Rest offset) = ⊥
