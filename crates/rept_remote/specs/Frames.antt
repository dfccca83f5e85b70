-- What arrives from a debugger (GDB manual, appendix Remote Serial Protocol, sections Overview,
-- Packet Acknowledgment and Interrupts).
use Rattle.std.specs.Prelude.{◌≡◌, ◌⊎◌, ℕ, ◌≤◌, List, [], ◌∷◌, ◌++◌, length, Bool, true, false, ◌||◌, ◌==◌, nat_lt, nat_eq, Option, None, Some, if◌then◌else◌}
use Rattle.std.specs.List.{list_any}
use Rattle.std.specs.Option.{option_map_or}
use Rattle.rept_remote.specs.Escapes.{checksum, digits_value, unescaped}
use Rattle.rept_remote.specs.declared.arrival.Arrival.{Arrival}
use Rattle.rept_remote.specs.declared.arrival.Arrival.TheVariants as arrival

-- what arrived: a packet with the bytes that it carries, one whose digits or pairs are wrong, one
-- of too many bytes, a wish to have the last reply again, or an interrupt
pub data Arrived : Type 0 where
  packet : List ℕ → Arrived
  broken : Arrived
  large : Arrived
  again : Arrived
  interrupt : Arrived

-- what the code tells of it, with the bytes that it keeps
abbrev pub arrived : Arrival → List ℕ → Arrived
arrived arrival.Packet bytes = packet bytes
arrived arrival.Broken bytes = broken
arrived arrival.Large bytes = large
arrived arrival.Again bytes = again
arrived arrival.Interrupt bytes = interrupt

-- a byte between packets that asks for something: `$`, which begins a packet, `-`, and the byte of
-- an interrupt
abbrev pub asks : ℕ → Bool
asks byte = byte == 36 || byte == 45 || byte == 3

abbrev pub has_call : List ℕ → Bool
has_call bytes = list_any asks bytes

-- `#`, which ends what a packet carries
abbrev pub is_end : ℕ → Bool
is_end byte = byte == 35

abbrev pub has_end : List ℕ → Bool
has_end bytes = list_any is_end bytes

-- the two digits after `#` are the sum of what stands before it
abbrev pub is_checked : List ℕ → Option ℕ → Bool
is_checked body value = option_map_or (λ n. nat_eq n (checksum body)) value false

abbrev pub carried : Option (List ℕ) → Arrived
carried None = broken
carried (Some bytes) = packet bytes

-- what a packet brings by what stands between `$` and `#` and the two digits after it; one of more
-- than 4096 bytes is large
abbrev pub brought : List ℕ → ℕ → ℕ → Arrived
brought body high low = if is_checked body (digits_value high low) then (if nat_lt 4096 (length body) then large else carried (unescaped body)) else broken

-- the bytes of a packet
pub record IsPacketOf (bytes : List ℕ) (what : Arrived) : Type 0 where
  pub body : List ℕ
  pub high : ℕ
  pub low : ℕ
  pub parts : bytes ≡ 36 ∷ body ++ 35 ∷ high ∷ low ∷ []
  pub plain : has_end body ≡ false
  pub brings : what ≡ brought body high low

-- a packet that carries these bytes, however many they are
pub record CarriesBytes (bytes carried : List ℕ) : Type 0 where
  pub body : List ℕ
  pub high : ℕ
  pub low : ℕ
  pub parts : bytes ≡ 36 ∷ body ++ 35 ∷ high ∷ low ∷ []
  pub plain : has_end body ≡ false
  pub checked : is_checked body (digits_value high low) ≡ true
  pub stands : unescaped body ≡ Some carried

-- the bytes of one arrival: a packet, `-`, or the byte of an interrupt
abbrev pub IsPart : List ℕ → Arrived → Type 0
IsPart bytes what = IsPacketOf bytes what ⊎ ((bytes ≡ 45 ∷ []) × (what ≡ again)) ⊎ ((bytes ≡ 3 ∷ []) × (what ≡ interrupt))

-- these bytes are an arrival, after others that ask for nothing, as `+` does
pub record Arrives (bytes : List ℕ) (what : Arrived) : Type 0 where
  pub noise : List ℕ
  pub part : List ℕ
  pub parts : bytes ≡ noise ++ part
  pub quiet : has_call noise ≡ false
  pub arrives : IsPart part what

-- the end of a packet is not whole
abbrev pub IsShortEnd : List ℕ → Type 0
IsShortEnd [] = Unit {0}
IsShortEnd (byte ∷ digits) = (byte ≡ 35) × (length digits ≤ 1)

-- `$` and what stands after it, up to `#` and one byte at most
pub record IsCutPacket (bytes : List ℕ) : Type 0 where
  pub noise : List ℕ
  pub body : List ℕ
  pub tail : List ℕ
  pub parts : bytes ≡ noise ++ (36 ∷ body ++ tail)
  pub quiet : has_call noise ≡ false
  pub plain : has_end body ≡ false
  pub short : IsShortEnd tail

-- they are no arrival: nothing that asks for anything, or a packet that isn't whole
abbrev pub HasNoArrival : List ℕ → Type 0
HasNoArrival bytes = (has_call bytes ≡ false) ⊎ IsCutPacket bytes

-- these bytes are these arrivals, one after the other
pub data AreArrivals : List ℕ → List Arrived → Type 0 where
  none : AreArrivals [] []
  one : (bytes : List ℕ) (what : Arrived) (more : List ℕ) (later : List Arrived) → Arrives bytes what → AreArrivals more later → AreArrivals (bytes ++ more) (what ∷ later)
