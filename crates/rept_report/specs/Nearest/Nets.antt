-- Numbers that are linked, and the nearest of them that has a value. This project's own.
use Rattle.std.specs.Prelude.{◌≡◌, ℕ, suc, ◌<◌, ◌≤◌, Bool, true, false, Option, Some, None}
use Rattle.rept_report.specs.declared.nearest.found.NearestValue.{NearestValue}

-- the numbers from 0 to `last`, which of them have a value, and to which other ones each is linked
pub record Links : Type 0 where
  pub last : ℕ
  pub value : ℕ → Option ℕ
  pub linked : ℕ → ℕ → Bool

-- the least number from one on to which a number is linked, or that there is none
abbrev pub IsNextLinked : Links → ℕ → ℕ → Option ℕ → Type 0
IsNextLinked L m least None = (w : ℕ) → least ≤ w → L.linked m w ≡ false
IsNextLinked L m least (Some w) = (L.linked m w ≡ true) × (least ≤ w) × ((v : ℕ) → least ≤ v → v < w → L.linked m v ≡ false)

-- so many links lead from one number to another one, or fewer
pub data IsWithinLinks (L : Links) (from : ℕ) : ℕ → ℕ → Type 0 where
  here : (k : ℕ) → IsWithinLinks L from k from
  onward : (k m w : ℕ) → IsWithinLinks L from k m → L.linked m w ≡ true → IsWithinLinks L from (suc k) w

-- none that so many links lead to has a value
abbrev pub IsEmptyBelow : Links → ℕ → ℕ → Type 0
IsEmptyBelow L from n = (k m : ℕ) → k < n → IsWithinLinks L from k m → L.value m ≡ None

-- a number with a value, to which as few links lead as to any; or no links lead to one
abbrev pub IsNearest : Links → ℕ → Option NearestValue → Type 0
IsNearest L from None = (k m : ℕ) → IsWithinLinks L from k m → L.value m ≡ None
IsNearest L from (Some found) = (L.value found.number ≡ Some found.value) × IsWithinLinks L from found.links found.number × IsEmptyBelow L from found.links
