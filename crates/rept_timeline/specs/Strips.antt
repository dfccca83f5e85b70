-- Strips of several threads, as they are found number by number. This project's own.
use Rattle.std.specs.Prelude.{◌≡◌, ℕ, ◌+◌, ◌≤◌, ◌<◌, true, false, List, length, Option, Some, None, slice_get}
use Rattle.std.specs.Option.{IsSome}
use Rattle.rept_steps.specs.Course.{Course}
use Rattle.rept_order.specs.Moments.{stores}
use Rattle.rept_moments.specs.Naming.Numbered.{row_on}
use Rattle.rept_report.specs.declared.paths.Strip.{Strip}
use Rattle.rept_report.specs.Timeline.{Timeline, IsJoined, IsClear, IsAlike, IsCut, IsPause, IsStrip}
use Rattle.rept_moments.specs.declared.course.NumberedRun as courses
use Rattle.rept_moments.specs.Several.{seen_of}
use Rattle.rept_moments.specs.Between.{IsOwnBetween}
use Rattle.rept_moments.specs.Together.{AreTogether}
use Rattle.rept_timeline.specs.declared.strips.Hint.{Hint}
use Rattle.rept_timeline.specs.declared.strips.Crossing.{Crossing}
use Rattle.rept_extents.specs.Timelines.{as_timeline}

-- two numbers of a line, of which no row has one before it and the number after that one after it
pub record AreTwo (C : Course) (p k : ℕ) : Type 0 where
  pub order : p ≤ k
  pub inside : k < (seen_of C).moments.end
  pub next : (j : ℕ) → p ≤ j → j ≤ k → (seen_of C).moments.next j (j + 1) ≡ true
  pub first : IsOwnBetween C p (p + 1) None
  pub second : IsOwnBetween C k (k + 1) None

-- no row that may act between a number and the one after it lies wholly before another number
abbrev pub DoRowsStay : Timeline → ℕ → ℕ → Type 0
DoRowsStay t p k = (i : ℕ) → t.moments.may_act i p (p + 1) ≡ true → t.moments.past i k ≡ false

-- no row before which a number lies may write memory
abbrev pub IsOwnQuiet : Course → ℕ → Type 0
IsOwnQuiet C p = (i : ℕ) → IsSome ((seen_of C).legs.row i) → (seen_of C).moments.before i ≡ p → stores C (row_on C i) ≡ false

-- a pause and a later number of its thread in slices of the same times, at the first of which no
-- row of that thread may act
pub record IsSteady (C : Course) (p k : ℕ) : Type 0 where
  pub own : IsOwnQuiet C p
  pub later : AreTogether C p k
  pub next : AreTogether C p (p + 1)

-- a row may act between a number and the one after it, and the number doesn't lie before it
pub record IsOfOtherThread (t : Timeline) (k i : ℕ) : Type 0 where
  pub row : IsSome (t.legs.row i)
  pub may_act : t.moments.may_act i k (k + 1) ≡ true
  pub other : t.moments.before i ≡ k → ⊥

-- between a number and the one after it, of which no row has them before and after it, no other row
-- may act
pub record IsStill (C : Course) (k : ℕ) : Type 0 where
  pub inside : k < (seen_of C).moments.end
  pub next : (seen_of C).moments.next k (k + 1) ≡ true
  pub apart : IsOwnBetween C k (k + 1) None
  pub own : (i : ℕ) → (seen_of C).moments.may_act i k (k + 1) ≡ true → (seen_of C).moments.before i ≡ k

-- a row that may act so, or that none does
abbrev pub IsOtherActing : Course → ℕ → Option ℕ → Type 0
IsOtherActing C k None = IsStill C k
IsOtherActing C k (Some i) = IsOfOtherThread (as_timeline (seen_of C)) k i

-- what was found at numbers before
pub record IsHint (C : Course) (hint : Hint) : Type 0 where
  pub row : (i : ℕ) → hint.row ≡ Some i → IsSome ((seen_of C).legs.row i)
  pub still : (k : ℕ) → hint.still ≡ Some k → IsStill C k

-- whether more may act between a number and the one after it than a row before which the number
-- lies, and what was found
pub record IsCrossing (C : Course) (k : ℕ) (crossing : Crossing) : Type 0 where
  pub clear : crossing.is_crossed ≡ false → IsClear (as_timeline (seen_of C)) k
  pub crossed : crossing.is_crossed ≡ true → IsClear (as_timeline (seen_of C)) k → ⊥
  pub apart : crossing.is_crossed ≡ true → IsOwnBetween C k (k + 1) None
  pub hint : IsHint C crossing.hint

-- a pause, of which no row has it before it and the number after it after it
pub record IsPauseApart (C : Course) (strip : Strip) (p : ℕ) : Type 0 where
  pub pause : IsPause (as_timeline (seen_of C)) strip p
  pub apart : IsOwnBetween C p (p + 1) None

-- a part of a strip: it may go on
pub record IsPart (C : Course) (strip : Strip) : Type 0 where
  pub up : strip.first ≤ strip.last
  pub inside : strip.last ≤ (seen_of C).moments.end
  pub joined : (k : ℕ) → strip.first ≤ k → k < strip.last → IsJoined (seen_of C).moments k
  pub alike : (k : ℕ) → strip.first ≤ k → k < strip.last → IsAlike (as_timeline (seen_of C)) strip.pause k
  pub pause : (p : ℕ) → strip.pause ≡ Some p → IsPauseApart C strip p

-- it goes on by a number, or ends
abbrev pub IsLonger : Course → Strip → Option Strip → Type 0
IsLonger C strip None = IsCut (as_timeline (seen_of C)) strip.pause strip.last
IsLonger C strip (Some more) = IsPart C more × (more.first ≡ strip.first) × (more.last ≡ strip.last + 1)

-- the list has the strips of the numbers below one
pub record AreStripsBelow (t : Timeline) (n : ℕ) (list : List Strip) : Type 0 where
  pub count : length list ≡ n
  pub each : (k : ℕ) (x : Strip) → slice_get list k ≡ Some x → IsStrip t k x

-- those of all numbers
abbrev pub AreManyStrips : Course → List Strip → Type 0
AreManyStrips C list = AreStripsBelow (as_timeline (seen_of C)) ((seen_of C).moments.end + 1) list

-- of several threads; of one thread alone no list is looked at
abbrev pub AreStripsOf : courses.NumberedRun → List Strip → Type 0
AreStripsOf (courses.TheVariants.One steps) list = Unit {0}
AreStripsOf (courses.TheVariants.Many many) list = AreManyStrips many list
