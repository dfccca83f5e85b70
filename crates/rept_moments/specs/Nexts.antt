-- The moments that are next to one, and their numbers; and how these are found among the slices in
-- the order of their begins. This project's own.
use Rattle.std.specs.Prelude.{◌≡◌, ◌≢◌, ◌⊎◌, ◌↔◌, ℕ, zero, suc, ◌==◌, ◌&&◌, not, if◌then◌else◌, Bool, true, false, List, [], ◌∷◌, ◌++◌, length, Option, Some, None}
use Rattle.std.specs.List.{Contains}
use Rattle.std.specs.Option.{IsSome}
use Rattle.rept_steps.specs.Course.{Course, rows_of}
use Rattle.rept_order.specs.Moments.{Moment, Earlier, stretch}
use Rattle.rept_order.specs.Moments.Moment.{after}
use Rattle.rept_order.specs.Legs.{number_of, leg_row}
use Rattle.rept_moments.specs.Naming.Making.{is_next, moments_in}
use Rattle.rept_moments.specs.Naming.Numbered.{row_on}
use Rattle.rept_moments.specs.declared.side.PointSide.{PointSide}
use Rattle.rept_moments.specs.declared.nexts.Later.{Later}
use Rattle.rept_moments.specs.Ordering.{moment_at_side}
use Rattle.rept_moments.specs.Edges.{begin_at, end_at}
use Rattle.rept_moments.specs.Begins.{former_at, sooner_end, IsBy}
use Rattle.rept_order.specs.Crossing.Writers.{not_past}
use Rattle.rept_moments.specs.Merging.{merged_at}
use Rattle.rept_moments.specs.Numbers.{numbers_of}

-- the numbers of those of a list that are next to a moment
abbrev pub nexts_among : Course → Moment → List Moment → List ℕ
nexts_among C m [] = []
nexts_among C m (w ∷ ws) = if is_next C (stretch m w) then (numbers_of C).name w ∷ nexts_among C m ws else nexts_among C m ws

abbrev pub nexts_of : Course → Moment → List ℕ
nexts_of C m = nexts_among C m (moments_in C)

-- of the moment after the row that leads from a point, if that one is one with the thread's next
-- one
abbrev pub merged_nexts : Course → ℕ → List ℕ
merged_nexts C g = if merged_at C g then nexts_of C (after (row_on C g)) else []

abbrev pub point_nexts : Course → ℕ → List ℕ
point_nexts C zero = []
point_nexts C (suc g) = merged_nexts C g

-- of the moments that go by the number of one of a row
abbrev pub side_nexts : Course → PointSide → List ℕ
side_nexts C s = nexts_of C (moment_at_side C s) ++ (if s.is_after then [] else point_nexts C s.point)

-- of those that are one with the end, of so many threads
abbrev pub last_nexts : Course → ℕ → ℕ → List ℕ
last_nexts C t zero = []
last_nexts C t (suc n) = merged_nexts C (number_of C t n)

abbrev pub ends_to : Course → ℕ → List ℕ
ends_to C zero = []
ends_to C (suc t) = ends_to C t ++ last_nexts C t (length (rows_of C t))

-- of a number: by the last moment that has it, or of the end
abbrev pub numbers_next : Course → Option PointSide → List ℕ
numbers_next C None = ends_to C (length C.threads)
numbers_next C (Some s) = side_nexts C s

-- the number is in the list
abbrev pub Member : List ℕ → ℕ → Type 0
Member [] v = ⊥
Member (n ∷ ns) v = (n ≡ v) ⊎ Member ns v

-- numbers of which something is so, all of them but one that is left out, were added to a list
abbrev pub AddsOthers : ℕ → (ℕ → Type 0) → List ℕ → List ℕ → Type 0
AddsOthers own Is old new = (v : ℕ) → Contains new v ↔ (Contains old v ⊎ (Is v × (v ≢ own)))

-- a moment of a row that is later than one of a row
pub record IsAfter (C : Course) (s u : PointSide) : Type 0 where
  pub row : IsSome (leg_row C u.point)
  pub later : Earlier C (moment_at_side C s) (moment_at_side C u)

-- the same in another thread
pub record IsOther (C : Course) (s u : PointSide) : Type 0 where
  pub row : IsSome (leg_row C u.point)
  pub apart : (row_on C s.point).thread ≢ (row_on C u.point).thread
  pub later : Earlier C (moment_at_side C s) (moment_at_side C u)

-- with the end of one more moment, if there is one
abbrev pub end_with : Course → Option PointSide → Later → Later
end_with C None later = later
end_with C (Some s) later = record { some = true; last = sooner_end later.last (end_at C s) }

-- It tells whether a moment is later than one, and the least end of the slices of all later ones of
-- other threads, and of one more moment.
pub record IsLaterBy (C : Course) (s : PointSide) (own : Option PointSide) (later : Later) : Type 0 where
  pub each : (u : PointSide) → IsOther C s u ⊎ (own ≡ Some u) → later.some ≡ true
  pub some : later.some ≡ true → (u : PointSide) × IsAfter C s u
  pub most : (u : PointSide) (e : ℕ) → IsOther C s u ⊎ (own ≡ Some u) → end_at C u ≡ Some e → IsBy later.last e
  pub one : (e : ℕ) → later.last ≡ Some e → (u : PointSide) × IsAfter C s u × (end_at C u ≡ Some e)

-- the number of a moment, if it may come by a time
abbrev pub offers_at : Course → Option ℕ → Option PointSide → List ℕ
offers_at C last None = []
offers_at C last (Some s) = if not_past last (begin_at C s) then (numbers_of C).name (moment_at_side C s) ∷ [] else []

-- a moment of another thread, if there is one, doesn't begin after the slice of one of a row ends
abbrev pub none_late : Course → PointSide → Option PointSide → Bool
none_late C s None = true
none_late C s (Some u) = not_past (end_at C s) (begin_at C u)

-- of another thread, and the moment before it isn't later than the one
abbrev pub is_first_later : Course → PointSide → PointSide → Bool
is_first_later C s u = not ((row_on C s.point).thread == (row_on C u.point).thread) && none_late C s (former_at C u)

abbrev pub first_offer : Course → PointSide → PointSide → List ℕ
first_offer C s u = if is_first_later C s u then (numbers_of C).name (moment_at_side C u) ∷ [] else []

-- the number is that of the first moment of another thread that is later than one, and it may come
-- by a time
pub record IsOffer (C : Course) (s : PointSide) (last : Option ℕ) (v : ℕ) : Type 0 where
  pub first : PointSide
  pub row : IsSome (leg_row C first.point)
  pub late : not_past (end_at C s) (begin_at C first) ≡ false
  pub is : is_first_later C s first ≡ true
  pub in_time : not_past last (begin_at C first) ≡ true
  pub name : (numbers_of C).name (moment_at_side C first) ≡ v
