-- The slices of all threads in the order of their begins, by their first moments. This project's
-- own.
use Rattle.std.specs.Prelude.{◌≡◌, ℕ, zero, suc, ◌≤◌, ◌==◌, ◌&&◌, ◌||◌, not, nat_lt, if◌then◌else◌, Bool, true, false, List, [], ◌∷◌, ◌++◌, Option, Some, None, slice_get}
use Rattle.std.specs.Option.{IsSome, is_some}
use Rattle.rept_steps.specs.Course.{Course}
use Rattle.rept_order.specs.Legs.{leg_row}
use Rattle.rept_moments.specs.declared.begins.SliceStart.{SliceStart}
use Rattle.rept_moments.specs.declared.nexts.Later.{Later}
use Rattle.rept_moments.specs.declared.side.PointSide.{PointSide}
use Rattle.rept_moments.specs.Ordering.{side}
use Rattle.rept_moments.specs.Edges.{begin_at, end_at}

-- whether the one moment of a thread is the other one, or comes before it
abbrev pub stands_by : PointSide → PointSide → Bool
stands_by s u = if s.point == u.point then u.is_after || not s.is_after else nat_lt s.point u.point

-- the moment of a row before one in its thread
abbrev pub former_by : Course → ℕ → Option PointSide
former_by C zero = None
former_by C (suc g) = if is_some (leg_row C g) then Some (side g true) else None

abbrev pub former_at : Course → PointSide → Option PointSide
former_at C s = if s.is_after then Some (side s.point false) else former_by C s.point

-- and after it
abbrev pub following_at : Course → PointSide → Option PointSide
following_at C s = if s.is_after then (if is_some (leg_row C (suc s.point)) then Some (side (suc s.point) false) else None) else Some (side s.point true)

-- whether the times of two moments are alike
abbrev pub same_end : Option ℕ → Option ℕ → Bool
same_end None None = true
same_end (Some e) (Some d) = e == d
same_end _ _ = false

abbrev pub is_alike : Course → PointSide → PointSide → Bool
is_alike C s u = (begin_at C s == begin_at C u) && same_end (end_at C s) (end_at C u)

abbrev pub is_first_by : Course → Option PointSide → PointSide → Bool
is_first_by C None s = true
is_first_by C (Some u) s = not (is_alike C u s)

-- whether a moment is the first one of its slice
abbrev pub is_first_at : Course → PointSide → Bool
is_first_at C s = is_first_by C (former_at C s) s

abbrev pub entry : Course → PointSide → SliceStart
entry C s = record { begin = begin_at C s; side = s; least = end_at C s }

-- the first moments of slices, thread by thread
abbrev pub first_of : Course → PointSide → List SliceStart
first_of C s = if is_first_at C s then entry C s ∷ [] else []

abbrev pub firsts_at : Course → ℕ → List SliceStart
firsts_at C g = if is_some (leg_row C g) then first_of C (side g false) ++ first_of C (side g true) else []

abbrev pub firsts_to : Course → ℕ → List SliceStart
firsts_to C zero = []
firsts_to C (suc g) = firsts_to C g ++ firsts_at C g

-- the sooner one of two times, where none is none known
abbrev pub sooner_end : Option ℕ → Option ℕ → Option ℕ
sooner_end None other = other
sooner_end (Some known) None = Some known
sooner_end (Some known) (Some time) = if nat_lt time known then Some time else Some known

-- the least end of a list, and each of its ends in the place of the least one from it on
abbrev pub least_in : List SliceStart → Option ℕ
least_in [] = None
least_in (b ∷ list) = sooner_end (least_in list) b.least

abbrev pub lowered : List SliceStart → List SliceStart
lowered [] = []
lowered (b ∷ list) = record { begin = b.begin; side = b.side; least = least_in (b ∷ list) } ∷ lowered list

-- whether there are slices from a place on, and their least end
abbrev pub later_from : Option SliceStart → Later
later_from None = record { some = false; last = None }
later_from (Some b) = record { some = true; last = b.least }

-- the one time is known, and isn't after the other
abbrev pub IsBy : Option ℕ → ℕ → Type 0
IsBy None time = ⊥
IsBy (Some last) time = last ≤ time

-- The time is the least of the ends of the slices from a place on, or none of these is known.
pub record IsLeastEnd (C : Course) (list : List SliceStart) (k : ℕ) (least : Option ℕ) : Type 0 where
  pub low : (i : ℕ) (b : SliceStart) (e : ℕ) → k ≤ i → slice_get list i ≡ Some b → end_at C b.side ≡ Some e → IsBy least e
  pub one : (e : ℕ) → least ≡ Some e → (i : ℕ) × (b : SliceStart) × (k ≤ i) × (slice_get list i ≡ Some b) × (end_at C b.side ≡ Some e)

-- They are the first moments of all slices in the order of begins.
pub record AreBegins (C : Course) (list : List SliceStart) : Type 0 where
  pub row : (k : ℕ) (b : SliceStart) → slice_get list k ≡ Some b → IsSome (leg_row C b.side.point)
  pub begin : (k : ℕ) (b : SliceStart) → slice_get list k ≡ Some b → b.begin ≡ begin_at C b.side
  pub least : (k : ℕ) (b : SliceStart) → slice_get list k ≡ Some b → IsLeastEnd C list k b.least
  pub all : (s : PointSide) → IsSome (leg_row C s.point) → is_first_at C s ≡ true → (k : ℕ) × (b : SliceStart) × (slice_get list k ≡ Some b) × (b.side ≡ s)
