-- A list of moments of rows, the last one first, and the place of each from the list's end. This
-- project's own.
use Rattle.std.specs.Prelude.{◌≡◌, ℕ, slice_get, ◌==◌, ◌&&◌, ◌<◌, not, if◌then◌else◌, Bool, true, false, List, [], ◌∷◌, length, Option, Some, None, unwrap_or}
use Rattle.std.specs.Option.{is_some}
use Rattle.rept_moments.specs.declared.side.PointSide.{PointSide}

abbrev pub same_bool : Bool → Bool → Bool
same_bool true b = b
same_bool false b = not b

abbrev pub same_side : PointSide → PointSide → Bool
same_side s t = (s.point == t.point) && same_bool s.is_after t.is_after

-- the place of a moment, if it is in the list
abbrev pub find : List PointSide → PointSide → Option ℕ
find [] s = None
find (x ∷ xs) s = if same_side x s then Some (length xs) else find xs s

-- the moment at a place
abbrev pub at_place : List PointSide → ℕ → Option PointSide
at_place [] n = None
at_place (x ∷ xs) n = if n == length xs then Some x else at_place xs n

-- the list, and how many points there are
pub record Numbered : Type 0 where
  pub points : ℕ
  pub list : List PointSide

abbrev pub AreInside : ℕ → List PointSide → Type 0
AreInside n [] = Unit {0}
AreInside n (s ∷ list) = (s.point < n) × AreInside n list

-- the tables tell the place of each moment by its point
pub record AreNumbered (befores afters : List (Option ℕ)) (list : List PointSide) : Type 0 where
  pub count : length afters ≡ length befores
  pub before : (g : ℕ) → g < length befores → slice_get befores g ≡ Some (find list (record { point = g; is_after = false }))
  pub after : (g : ℕ) → g < length befores → slice_get afters g ≡ Some (find list (record { point = g; is_after = true }))
  pub inside : AreInside (length befores) list

-- the moment after a row is one with the thread's next one
abbrev pub is_merged : List Bool → PointSide → Bool
is_merged merged s = s.is_after && unwrap_or (slice_get merged s.point) false

-- with one more moment, unless it is one with the next one or has a place already
abbrev pub kept_with : Numbered → PointSide → List Bool → Numbered
kept_with n s merged = if not (is_merged merged s) && not (is_some (find n.list s)) then record { points = n.points; list = s ∷ n.list } else n
