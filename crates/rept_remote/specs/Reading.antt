-- What a call of the reader of packets does. It takes bytes one by one, at most 2^40 of them in
-- all.
use Rattle.std.specs.Prelude.{◌≡◌, ℕ, ◌+◌, ◌≤◌, ◌^◌, List, [], ◌∷◌, ◌++◌, length, false, Option, None, Some, Result, Ok, Err, MatchOption}
use Rattle.std.specs.Io.KnownBytes.{Consumes, IsAtEnd}
use Rattle.rept_ports.specs.Causes.{OneFault}
use Rattle.rept_ports.specs.Port.{Port, PortMove}
use Rattle.rept_remote.specs.Frames.{Arrives, HasNoArrival, IsCutPacket, arrived, has_call}
use Rattle.rept_remote.specs.declared.arrival.Arrival.{Arrival}
use Rattle.rept_remote.specs.declared.arrival.Ending.{Ending}
use Rattle.rept_remote.specs.declared.arrival.Ending.TheVariants as ending

abbrev pub most_input : ℕ
most_input = 2 ^ 40

-- the bytes of the last packet, how many bytes were taken, and why there are no more arrivals
pub record PacketReader : Type 0 where
  pub carried : List ℕ
  pub count : ℕ
  pub over : Option Ending

-- the bytes that a call took of a source, and how many were taken before it and after it
pub record Taking : Type 0 where
  pub count : PortMove ℕ
  pub source : PortMove Port
  pub got : List ℕ

abbrev pub taking : PortMove ℕ → PortMove Port → List ℕ → Taking
taking count source got = record { count = count; source = source; got = got }

-- they were taken from what was left, and counted
pub record TookInput (t : Taking) : Type 0 where
  pub consumed : Consumes t.source.before.bytes t.source.after.bytes t.got
  pub counted : t.count.after ≡ t.count.before + length t.got
  pub within : t.count.after ≤ most_input

-- the same, and no read failed
pub record Passed (t : Taking) : Type 0 where
  pub took : TookInput t
  pub calm : t.source.after.faults ≡ t.source.before.faults

-- then the input ended
pub record TakingEnded (t : Taking) : Type 0 where
  pub passed : Passed t
  pub at_end : IsAtEnd t.source.after.bytes

-- then a read failed
pub record ReadFailed (t : Taking) : Type 0 where
  pub took : TookInput t
  pub fault : OneFault t.source.before.faults t.source.after.faults

-- they are as many as may be taken, and one more came
pub record ReadOverran (t : Taking) : Type 0 where
  pub extra : ℕ
  pub consumed : Consumes t.source.before.bytes t.source.after.bytes (t.got ++ extra ∷ [])
  pub counted : t.count.after ≡ t.count.before + length t.got
  pub full : t.count.after ≡ most_input
  pub calm : t.source.after.faults ≡ t.source.before.faults

-- why nothing arrived
abbrev pub Stops : Taking → Ending → Type 0
Stops t ending.AtEnd = (has_call t.got ≡ false) × TakingEnded t
Stops t ending.InPacket = IsCutPacket t.got × TakingEnded t
Stops t ending.ReadFault = HasNoArrival t.got × ReadFailed t
Stops t ending.TooMuchInput = HasNoArrival t.got × ReadOverran t

-- an arrival, and nothing more of the input; or none, and each later call says so again
abbrev pub ComesNext : PacketReader → PacketReader → PortMove Port → Result Arrival Ending → Type 0
ComesNext old new source (Ok what) = (got : List ℕ) × Passed (taking (record { before = old.count; after = new.count }) source got) × Arrives got (arrived what new.carried) × (new.over ≡ None)
ComesNext old new source (Err why) = (got : List ℕ) × Stops (taking (record { before = old.count; after = new.count }) source got) why × (new.over ≡ Some why)

-- what a call of the reader gives: the next arrival or why there is none; after a reason, the same
-- one again, with nothing read
abbrev pub ReadsNext : PacketReader → PacketReader → PortMove Port → Result Arrival Ending → Type 0
ReadsNext old new source result =
    MatchOption old.over (ComesNext old new source result)
    (λ why. (result ≡ Err why) × (new ≡ old) × (source.after ≡ source.before))
