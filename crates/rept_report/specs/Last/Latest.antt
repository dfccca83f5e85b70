-- Which of some rows is the last one, and what is said of the row that last wrote a byte. This
-- project's own.
use Rattle.std.specs.Prelude.{◌≡◌, ℕ, ◌<◌, ◌≤◌, Bool, true, false, ◌&&◌, Option, Some, None}
use Rattle.rept_report.specs.Latest.{IsLatest, HasNone}
use Rattle.rept_report.specs.Moments.{Moments}
use Rattle.rept_report.specs.Spots.{Spot, spot}
use Rattle.rept_report.specs.Timeline.{Timeline, IsBegun}
use Rattle.rept_report.specs.declared.writer.Writer.{Writer}
use Rattle.rept_report.specs.declared.writer.Writer as writers
use Rattle.rept_report.specs.declared.last.sought.SoughtRows.{SoughtRows}

-- which rows may write the byte at an address, and which of them write each byte that they may
-- write
pub record Writes : Type 0 where
  pub may : ℕ → ℕ → Bool
  pub sure : ℕ → Bool

-- a row that may write the byte, and doesn't lie wholly after the moment
pub record IsMaybe (t : Timeline) (writes : Writes) (x : Spot) (i : ℕ) : Type 0 where
  pub begun : IsBegun t x.moment i
  pub may : writes.may i x.address ≡ true

abbrev sought_by : Timeline → Writes → ℕ → Option ℕ → ℕ → Type 0
sought_by t writes m None i = IsBegun t m i
sought_by t writes m (Some a) i = IsMaybe t writes (spot m a) i

-- one of the rows of which the last one is sought
abbrev pub IsSought : Timeline → Writes → SoughtRows → ℕ → Type 0
IsSought t writes x i = sought_by t writes x.moment x.address i

-- what is said of the row that last wrote, where each of some rows may have written and no other
-- did: at most one of the four fits, and never the first
abbrev pub IsPossibleWriter : Moments → (ℕ → Type 0) → Writer → Type 0
IsPossibleWriter moments Is (writers.TheVariants.Writes j) = ⊥
IsPossibleWriter moments Is (writers.TheVariants.MayWrite j) = IsLatest moments Is j
IsPossibleWriter moments Is writers.TheVariants.Several = ((j : ℕ) → IsLatest moments Is j → ⊥) × (HasNone moments Is → ⊥)
IsPossibleWriter moments Is writers.TheVariants.None = HasNone moments Is

-- the row writes each byte that it may write, and lies wholly before the moment
abbrev pub is_certain : Moments → Writes → ℕ → ℕ → Bool
is_certain moments writes m j = writes.sure j && moments.past j m

-- what is said of the row that last wrote the byte before the moment: at most one of the four fits
abbrev pub IsLastWriter : Timeline → Writes → Spot → Writer → Type 0
IsLastWriter t writes x (writers.TheVariants.Writes j) = IsLatest t.moments (IsMaybe t writes x) j × (is_certain t.moments writes x.moment j ≡ true)
IsLastWriter t writes x (writers.TheVariants.MayWrite j) = IsLatest t.moments (IsMaybe t writes x) j × (is_certain t.moments writes x.moment j ≡ false)
IsLastWriter t writes x writers.TheVariants.Several = ((j : ℕ) → IsLatest t.moments (IsMaybe t writes x) j → ⊥) × (HasNone t.moments (IsMaybe t writes x) → ⊥)
IsLastWriter t writes x writers.TheVariants.None = HasNone t.moments (IsMaybe t writes x)

-- none of some has this number or a greater one
abbrev pub IsNoneFrom : (ℕ → Type 0) → ℕ → Type 0
IsNoneFrom Is n = (k : ℕ) → n ≤ k → Is k → ⊥

-- the greatest number of some, or that there is none
abbrev pub IsGreatest : (ℕ → Type 0) → Option ℕ → Type 0
IsGreatest Is None = (k : ℕ) → Is k → ⊥
IsGreatest Is (Some j) = Is j × ((k : ℕ) → j < k → Is k → ⊥)

-- each row can be asked, where the byte at an address is meant
abbrev pub CanAsk : Timeline → (ℕ → Type 0) → SoughtRows → Type 0
CanAsk t ready x = (a : ℕ) → x.address ≡ Some a → (i : ℕ) → i < t.legs.count → ready i
