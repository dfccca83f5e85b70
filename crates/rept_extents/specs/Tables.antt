-- Tables by the numbers of moments: which numbers are next to each, and by which ones each is
-- reached where nothing that isn't told may act between. This project's own.
use Rattle.std.specs.Prelude.{◌≡◌, ℕ, ◌+◌, ◌≤◌, ◌<◌, true, List, Option, None, slice_index_or}
use Rattle.std.specs.Option.{IfSome}
use Rattle.rept_report.specs.Moments.{Moments}
use Rattle.rept_report.specs.Reach.Reaching.{IsLit}
use Rattle.rept_extents.specs.declared.hulls.Bounds.{Bounds}
use Rattle.rept_extents.specs.declared.reaches.NextTables.{NextTables}
use Rattle.rept_extents.specs.declared.reaches.NextTables as tables

-- the numbers that are next to one lie within bounds
abbrev pub NextsLieIn : Moments → ℕ → Bounds → Type 0
NextsLieIn M m h = (w : ℕ) → M.next m w ≡ true → (h.least ≤ w) × (w ≤ h.most)

-- the number after one is next to the least of the bounds, which isn't after the one, and nothing
-- that isn't told may act between
pub record IsUp (M : Moments) (k : ℕ) (h : Bounds) : Type 0 where
  pub earlier : h.least ≤ k
  pub inside : k < M.end
  pub lit : IsLit M h.least (k + 1)

-- the greatest of the bounds is next to a number, which is before it, and nothing that isn't told
-- may act between
pub record IsDown (M : Moments) (k : ℕ) (h : Bounds) : Type 0 where
  pub later : k < h.most
  pub lit : IsLit M k h.most

-- bounds of numbers, those of each as they are said to be, if it has some
abbrev pub AreEach : (ℕ → Bounds → Type 0) → List (Option Bounds) → Type 0
AreEach P list = (k : ℕ) → IfSome (slice_index_or list k None) (P k)

-- the tables of several threads
pub record AreMany (M : Moments) (nexts ups downs : List (Option Bounds)) : Type 0 where
  pub next : AreEach (NextsLieIn M) nexts
  pub up : AreEach (IsUp M) ups
  pub down : AreEach (IsDown M) downs

-- of one thread alone no number but the one after it is next to a number
abbrev pub AreTables : Moments → NextTables → Type 0
AreTables M tables.TheVariants.One = (m w : ℕ) → M.next m w ≡ true → w ≡ m + 1
AreTables M (tables.TheVariants.Many nexts ups downs) = AreMany M nexts ups downs
