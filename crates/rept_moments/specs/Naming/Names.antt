-- Names of the moments of a course: moments that are one have one name, and every other moment has
-- a name of its own. Names are numbers, and the end has the greatest one. This project's own.
use Rattle.std.specs.Prelude.{◌≡◌, ◌≢◌, ℕ, ◌≤◌, ◌⊎◌, false, Option, Some, None}
use Rattle.rept_steps.specs.Course.{Course, Row, IsRow, calls}
use Rattle.rept_order.specs.Moments.{Moment, IsMoment, IsNext, Stretch, stretch, AreOne}
use Rattle.rept_order.specs.Moments.Moment.{before, after, at_end}

pub record MomentNames : Type 0 where
  pub name : Moment → ℕ
  -- the greatest name
  pub end : ℕ
  -- the last of the moments that have a name
  pub last : ℕ → Moment
  -- where a name is next to another: a moment of the one, and one of the other that is next to it
  pub link : ℕ → ℕ → Option Stretch

-- the stretch is from a moment of the one name to a next one of the other
pub record IsLink (C : Course) (N : MomentNames) (m w : ℕ) (x : Stretch) : Type 0 where
  pub from : IsMoment C x.from
  pub to : IsMoment C x.to
  pub from_name : N.name x.from ≡ m
  pub to_name : N.name x.to ≡ w
  pub next : IsNext C x.from x.to

pub record AreNames (C : Course) (N : MomentNames) : Type 0 where
  -- moments that are one have one name
  pub one : (x : Stretch) → AreOne C x → N.name x.from ≡ N.name x.to
  -- and no others: each moment of a name is its last one, or is one with that
  pub own : (m : Moment) → IsMoment C m → (m ≡ N.last (N.name m)) ⊎ AreOne C (stretch m (N.last (N.name m)))
  -- the names are the numbers up to that of the end
  pub few : (m : Moment) → IsMoment C m → N.name m ≤ N.end
  pub named : (n : ℕ) → n ≤ N.end → IsMoment C (N.last n) × (N.name (N.last n) ≡ n)
  pub end : N.name at_end ≡ N.end
  -- a link is one, and where a moment of another name is next there is a link
  pub links : (m w : ℕ) (x : Stretch) → N.link m w ≡ Some x → IsLink C N m w x
  pub linked : (m w : Moment) → IsMoment C m → IsMoment C w → IsNext C m w → N.name m ≢ N.name w → N.link (N.name m) (N.name w) ≢ None
  -- between the names of a row that is no call it is by the row's own moments, between which no
  -- other row may act
  pub rows : (r : Row) → IsRow C r → calls C r ≡ false → N.link (N.name (before r)) (N.name (after r)) ≡ Some (stretch (before r) (after r))

-- no row that is no call has these names before and after it
abbrev pub NoOwn : Course → MomentNames → ℕ → ℕ → Type 0
NoOwn C N m w = (r : Row) → IsRow C r → calls C r ≡ false → N.name (before r) ≡ m → N.name (after r) ≡ w → ⊥
