-- A store of byte facts as a plain list of numbers and values: the number is the one of a point of
-- an address.
use Rattle.std.specs.Prelude.{◌≡◌, ◌≢◌, ℕ, ◌+◌, ◌<◌, ◌≤◌, ◌⊎◌, ltb, if◌then◌else◌, nat_eq, List, Option, Some, None, slice_get}
use Rattle.std.specs.Map.{lookup}
use Rattle.rept_versions.specs.OnLine.{key}
use Rattle.rept_versions.specs.Row.{VersionRow}
use Rattle.rept_versions.specs.Facts.{KnownValues, Store}

-- the value that is listed for a number
abbrev pub listed : List (ℕ × ℕ) → ℕ → Option ℕ
listed entries k = lookup (nat_eq k) entries

abbrev pub fact_in : List (ℕ × ℕ) → KnownValues
fact_in entries p a = if ltb p 4294967296 then listed entries (key p a) else None

pub record Plain : Type 0 where
  pub entries : List (ℕ × ℕ)
  pub row : VersionRow

-- each new fact takes memory, so none can be learnt without it
abbrev pub store : Plain → Store
store s = record { fact = fact_in s.entries; tracked = s.row.items; spare = 0; places = s.row.room }

-- of the first numbers that are listed none is in the range, or the least of those in it
abbrev pub LeastOf : List (ℕ × ℕ) → ℕ → ℕ → ℕ → Option ℕ → Type 0
LeastOf entries count low high None = (i k v : ℕ) → i < count → slice_get entries i ≡ Some (k, v) → low ≤ k → k ≤ high → ⊥
LeastOf entries count low high (Some least) = (low ≤ least) × (least ≤ high) × ((v : ℕ) × (listed entries least ≡ Some v))
    × ((i k v : ℕ) → i < count → slice_get entries i ≡ Some (k, v) → low ≤ k → k ≤ high → least ≤ k)

-- what is listed in a range: nothing, or nothing below a number that is
abbrev pub Leasts : List (ℕ × ℕ) → ℕ → ℕ → Option ℕ → Type 0
Leasts entries low high None = (k : ℕ) → low ≤ k → k ≤ high → listed entries k ≡ None
Leasts entries low high (Some least) = (low ≤ least) × (least ≤ high) × ((v : ℕ) × (listed entries least ≡ Some v))
    × ((k : ℕ) → low ≤ k → k < least → listed entries k ≡ None)

-- the next point on the way to another one
abbrev pub Toward : ℕ → ℕ → ℕ → Type 0
Toward point to next = ((point < to) × (next ≡ point + 1)) ⊎ ((to < point) × (next + 1 ≡ point))

-- v is known from one point to another, and not at the point after
pub record EndsAt (told : KnownValues) (a point last v : ℕ) : Type 0 where
  pub ordered : point ≤ last
  pub value : (q : ℕ) → point ≤ q → q ≤ last → told q a ≡ Some v
  pub ends : told (last + 1) a ≢ Some v

-- v is known from one point to another, and not at the point before
pub record BeginsAt (told : KnownValues) (a first point v : ℕ) : Type 0 where
  pub ordered : first ≤ point
  pub value : (q : ℕ) → first ≤ q → q ≤ point → told q a ≡ Some v
  pub begins : (q : ℕ) → q + 1 ≡ first → told q a ≢ Some v
