-- Parts of a packet, as the reader takes them.
use Rattle.std.specs.Prelude.{◌≡◌, ℕ, ◌≤◌, ◌<◌, List, [], ◌∷◌, ◌++◌, length, Bool, true, false, ◌==◌, MatchBool, Result, Ok, Err}
use Rattle.std.specs.Int.Bits.{bit_xor}
use Rattle.rept_ports.specs.Port.{Port, PortMove}
use Rattle.rept_remote.specs.Escapes.{checksum}
use Rattle.rept_remote.specs.Frames.{Arrives, IsPacketOf, IsShortEnd, arrived, has_call, has_end, asks}
use Rattle.rept_remote.specs.Reading.{Passed, ReadFailed, ReadOverran, Stops, Taking, TakingEnded, taking}
use Rattle.rept_remote.specs.declared.arrival.Arrival.{Arrival}
use Rattle.rept_remote.specs.declared.arrival.Ending.{Ending}
use Rattle.rept_remote.specs.declared.arrival.Ending.TheVariants as ending
use Rattle.rept_remote.specs.declared.bytes.NoByte.{NoByte}
use Rattle.rept_remote.specs.declared.bytes.NoByte.TheVariants as none
use Rattle.rept_remote.specs.declared.frame.Body.{Body}

-- why no more came after these bytes
abbrev pub StopsAfter : Taking → NoByte → Type 0
StopsAfter t none.End = TakingEnded t
StopsAfter t none.ReadFault = ReadFailed t
StopsAfter t none.TooMuchInput = ReadOverran t

-- one byte
abbrev pub TakesByte : PortMove ℕ → PortMove Port → Result ℕ NoByte → Type 0
TakesByte count source (Ok byte) = Passed (taking count source (byte ∷ []))
TakesByte count source (Err why) = StopsAfter (taking count source []) why

-- the first byte that asks for something
abbrev pub TakesCall : PortMove ℕ → PortMove Port → Result ℕ NoByte → Type 0
TakesCall count source (Ok byte) = (noise : List ℕ) × (has_call noise ≡ false) × (asks byte ≡ true) × Passed (taking count source (noise ++ byte ∷ []))
TakesCall count source (Err why) = (noise : List ℕ) × (has_call noise ≡ false) × StopsAfter (taking count source noise) why

-- the kept bytes are those between `$` and `#`, or these are too many
abbrev pub HoldsBody : List ℕ → Bool → List ℕ → Type 0
HoldsBody kept false body = (kept ≡ body) × (length body ≤ 4096)
HoldsBody kept true body = 4096 < length body

-- what is known of the bytes between `$` and `#`
pub record IsBody (kept : List ℕ) (told : Body) (body : List ℕ) : Type 0 where
  pub plain : has_end body ≡ false
  pub holds : HoldsBody kept told.is_large body
  pub sum : told.sum ≡ checksum body

-- all up to the first `#`
abbrev pub TakesBody : PortMove ℕ → PortMove Port → List ℕ → Result Body NoByte → Type 0
TakesBody count source kept (Ok told) = (body : List ℕ) × IsBody kept told body × Passed (taking count source (body ++ 35 ∷ []))
TakesBody count source kept (Err why) = (body : List ℕ) × (has_end body ≡ false) × StopsAfter (taking count source body) why

-- the two digits after it
abbrev pub TakesDigits : PortMove ℕ → PortMove Port → Result (ℕ × ℕ) NoByte → Type 0
TakesDigits count source (Ok digits) = Passed (taking count source (digits.0 ∷ digits.1 ∷ []))
TakesDigits count source (Err why) = (part : List ℕ) × (length part ≤ 1) × StopsAfter (taking count source part) why

-- a byte that comes, after the first byte of a pair or not; whether it is such a first byte then
abbrev pub UnescapesByte : Bool → ℕ → PortMove (List ℕ) → Bool → Type 0
UnescapesByte true byte kept result = (kept.after ≡ kept.before ++ bit_xor byte 32 ∷ []) × (result ≡ false)
UnescapesByte false byte kept result = MatchBool (byte == 125) ((kept.after ≡ kept.before) × (result ≡ true)) ((kept.after ≡ kept.before ++ byte ∷ []) × (result ≡ false))

-- what comes after `$` up to the end of the packet, or a part of that
pub record IsOpenPacket (part : List ℕ) : Type 0 where
  pub body : List ℕ
  pub tail : List ℕ
  pub parts : part ≡ body ++ tail
  pub plain : has_end body ≡ false
  pub short : IsShortEnd tail

abbrev pub TakesPacket : PortMove ℕ → PortMove Port → List ℕ → Result Arrival NoByte → Type 0
TakesPacket count source bytes (Ok what) = (part : List ℕ) × IsPacketOf (36 ∷ part) (arrived what bytes) × Passed (taking count source part)
TakesPacket count source bytes (Err why) = (part : List ℕ) × IsOpenPacket part × StopsAfter (taking count source part) why

abbrev pub TakesArrival : PortMove ℕ → PortMove Port → List ℕ → Result Arrival Ending → Type 0
TakesArrival count source bytes (Ok what) = (got : List ℕ) × Passed (taking count source got) × Arrives got (arrived what bytes)
TakesArrival count source bytes (Err why) = (got : List ℕ) × Stops (taking count source got) why

abbrev pub ending_of : NoByte → Ending → Ending
ending_of none.End last = last
ending_of none.ReadFault last = ending.ReadFault
ending_of none.TooMuchInput last = ending.TooMuchInput
