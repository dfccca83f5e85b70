-- What a call does to the count of a port's faults. Such a count is an unsigned number of 64 bits
-- that stays at its greatest value.
use Rattle.std.specs.Prelude.{◌≡◌, ℕ, ◌+◌, ◌-◌, ◌^◌, ◌≤◌, min, List, take, length, Option, Result, OnOk, OnErr}
use Rattle.std.specs.Io.KnownBytes.{Appends}

-- one more, up to the greatest value
abbrev pub next_count : ℕ → ℕ
next_count n = min (n + 1) (2 ^ 64 - 1)

-- the count rose, or stands at its greatest value
abbrev pub Rose : ℕ → ℕ → Type 0
Rose before now = next_count before ≤ now

-- one fault was counted, and no more
pub record OneFault (before now : ℕ) : Type 0 where
  pub rose : Rose before now
  pub later : before ≤ now
  pub once : now ≤ before + 1

-- one fault was counted where the call failed, and else none
pub record HasCause {T E : Type 0} (before now : ℕ) (result : Result T E) : Type 0 where
  pub later : before ≤ now
  pub once : now ≤ before + 1
  pub failed : OnErr result (Rose before now)
  pub calm : OnOk result (now ≡ before)

-- known bytes grow by a part of the text that begins it
abbrev pub AppendsPrefix : Option (List ℕ) → Option (List ℕ) → List ℕ → Type 0
AppendsPrefix old new text = (n : ℕ) × (n ≤ length text) × Appends old new (take n text)
