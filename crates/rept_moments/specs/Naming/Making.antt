-- Names for any course: each moment goes by the last one that it is one with, and these are
-- numbered in the order of any list of the moments, from its back, the end last. This project's
-- own.
use Rattle.std.specs.Prelude.{◌≡◌, ◌≢◌, ◌⊎◌, ℕ, suc, ◌==◌, ◌&&◌, ◌||◌, not, if◌then◌else◌, Bool, true, false, List, [], ◌∷◌, ◌++◌, length, Option, Some, None}
use Rattle.std.specs.Option.{is_some}
use Rattle.rept_steps.specs.Course.{Course, Row, calls}
use Rattle.rept_order.specs.Moments.{Moment, IsMoment, Stretch, stretch, stores}
use Rattle.rept_order.specs.Moments.Moment.{before, after, at_end}
use Rattle.rept_order.specs.Moments.Act.{row, untraced}
use Rattle.rept_order.specs.Points.{moment_of_point}
use Rattle.rept_order.specs.Times.{same_row, same_moment, is_earlier, may_act_between}
use Rattle.rept_order.specs.Links.{all_moments}
use Rattle.rept_moments.specs.Naming.Names.{MomentNames}

abbrev pub moments_in : Course → List Moment
moments_in C = all_moments C (length C.threads)

-- no row of these moments that may write may act in the stretch
abbrev pub still_by : Course → Stretch → Moment → Bool
still_by C x (before r) = not (stores C r && may_act_between C (row r) x.from x.to)
still_by C x _ = true

abbrev pub rows_still : Course → Stretch → List Moment → Bool
rows_still C x [] = true
rows_still C x (m ∷ ms) = still_by C x m && rows_still C x ms

abbrev pub is_still : Course → Stretch → Bool
is_still C x = not (is_some C.untraced && may_act_between C untraced x.from x.to) && rows_still C x (moments_in C)

-- the thread's moment after the row is over and nothing of the thread has happened since
abbrev pub next_point : Course → Row → Moment
next_point C r = moment_of_point C r.thread (suc r.step)

-- the last moment that is one with it
abbrev pub last_of : Course → Moment → Moment
last_of C (after r) = if is_still C (stretch (after r) (next_point C r)) then next_point C r else after r
last_of C m = m

abbrev pub holds : List Moment → Moment → Bool
holds [] m = false
holds (x ∷ xs) m = same_moment x m || holds xs m

abbrev pub keeps : Course → List Moment → Moment → Bool
keeps C xs m = same_moment (last_of C m) m && (not (same_moment at_end m) && not (holds xs m))

-- each last moment but the end, once
abbrev pub lasts : Course → List Moment → List Moment
lasts C [] = []
lasts C (x ∷ xs) = if keeps C (lasts C xs) x then x ∷ lasts C xs else lasts C xs

abbrev pub named_by : Course → List Moment → List Moment
named_by C L = at_end ∷ lasts C L

-- its place from the end of the list, and back
abbrev pub rank : List Moment → Moment → ℕ
rank [] m = 0
rank (x ∷ xs) m = if same_moment x m then length xs else rank xs m

abbrev pub ranked : List Moment → ℕ → Moment
ranked [] n = at_end
ranked (x ∷ xs) n = if n == length xs then x else ranked xs n

-- all stretches from one of these moments to one of those
abbrev pub from_one : Moment → List Moment → List Stretch
from_one m [] = []
from_one m (x ∷ xs) = stretch m x ∷ from_one m xs

abbrev pub from_each : List Moment → List Moment → List Stretch
from_each [] ws = []
from_each (m ∷ ms) ws = from_one m ws ++ from_each ms ws

abbrev pub first_that : (Stretch → Bool) → List Stretch → Option Stretch
first_that test [] = None
first_that test (x ∷ xs) = if test x then Some x else first_that test xs

abbrev pub none_between : Course → Stretch → List Moment → Bool
none_between C x [] = true
none_between C x (m ∷ ms) = not (is_earlier C x.from m && is_earlier C m x.to) && none_between C x ms

abbrev pub is_next : Course → Stretch → Bool
is_next C x = is_earlier C x.from x.to && none_between C x (moments_in C)

-- the moments of one row that is no call
abbrev pub own_by : Course → Moment → Moment → Bool
own_by C (before q) (after r) = same_row q r && not (calls C r)
own_by C _ _ = false

abbrev pub is_own : Course → Stretch → Bool
is_own C x = own_by C x.from x.to

abbrev pub name_by : Course → List Moment → Moment → ℕ
name_by C L m = rank (named_by C L) (last_of C m)

abbrev pub is_link : Course → List Moment → ℕ → ℕ → Stretch → Bool
is_link C L m w x = (name_by C L x.from == m) && ((name_by C L x.to == w) && is_next C x)

abbrev pub else_first : Option Stretch → Option Stretch → Option Stretch
else_first (Some x) other = Some x
else_first None other = other

abbrev pub link_by : Course → List Moment → ℕ → ℕ → Option Stretch
link_by C L m w = else_first (first_that (λ x. is_own C x && is_link C L m w x) (from_each (moments_in C) (moments_in C))) (first_that (is_link C L m w) (from_each (moments_in C) (moments_in C)))

-- the names by the order of a list
abbrev pub names_by : Course → List Moment → MomentNames
names_by C L = record { name = name_by C L; end = length (lasts C L); last = ranked (named_by C L); link = link_by C L }

-- by that of all moments, thread by thread
abbrev pub names_in : Course → MomentNames
names_in C = names_by C (moments_in C)

-- it is one of the list
abbrev pub Has : List Moment → Moment → Type 0
Has [] m = ⊥
Has (x ∷ xs) m = (x ≡ m) ⊎ Has xs m

-- each moment but the end is in the list, and nothing that is no moment
pub record IsListing (C : Course) (L : List Moment) : Type 0 where
  pub all : (m : Moment) → IsMoment C m → at_end ≢ m → Has L m
  pub only : (m : Moment) → Has L m → IsMoment C m
