-- The rows of all threads by the points that they lead from, and the moments of their memory by
-- numbers. This project's own.
use Rattle.std.specs.Prelude.{◌≡◌, ◌≢◌, ℕ, ◌+◌, ◌≤◌, ◌<◌, true, false, List, length, Option, Some, None}
use Rattle.std.specs.Option.{IsSome}
use Rattle.rept_isa.specs.declared.row.StepRow.{StepRow}
use Rattle.rept_span.specs.Ranges.{Legs, AreLegs, legs_of}
use Rattle.rept_report.specs.Moments.{Moments, AreMoments, points_of}
use Rattle.rept_report.specs.declared.paths.NumberChain.{NumberChain}
use Rattle.rept_report.specs.declared.paths.Strip.{Strip}

pub record Timeline : Type 0 where
  pub legs : Legs
  pub moments : Moments

-- of one thread, all of whose rows are traced
abbrev pub time_alone : List StepRow → Timeline
time_alone rows = record { legs = legs_of rows; moments = points_of (length rows) }

-- rows and moments keep their laws, and are few
pub record IsTimeline (t : Timeline) : Type 0 where
  pub legs : AreLegs t.legs
  pub moments : AreMoments t.legs t.moments
  pub points : t.legs.count ≤ 66560
  pub numbers : t.moments.end ≤ 131072

abbrev pub moment_by : Moments → Option StepRow → ℕ → ℕ
moment_by moments None p = moments.end
moment_by moments (Some row) p = moments.before p

-- the moment of a point: the one before its row, and where no row leads from it the end
abbrev pub moment_in : Timeline → ℕ → ℕ
moment_in t p = moment_by t.moments (t.legs.row p) p

-- the least number from one on that is next to a number, or that there is none
abbrev pub IsNextFrom : Moments → ℕ → ℕ → Option ℕ → Type 0
IsNextFrom moments m least None = (w : ℕ) → least ≤ w → moments.next m w ≡ false
IsNextFrom moments m least (Some w) = (moments.next m w ≡ true) × (least ≤ w) × ((v : ℕ) → least ≤ v → v < w → moments.next m v ≡ false)

-- the least number from one on to which a number is next, or that there is none
abbrev pub IsFormerFrom : Moments → ℕ → ℕ → Option ℕ → Type 0
IsFormerFrom moments w least None = (m : ℕ) → least ≤ m → moments.next m w ≡ false
IsFormerFrom moments w least (Some m) = (moments.next m w ≡ true) × (least ≤ m) × ((v : ℕ) → least ≤ v → v < m → moments.next v w ≡ false)

-- the least row from one on that may act between two moments, or that there is none
abbrev pub IsActingFrom : Timeline → ℕ → ℕ → ℕ → Option ℕ → Type 0
IsActingFrom t m w least None = (i : ℕ) → least ≤ i → i < t.legs.count → t.moments.may_act i m w ≡ false
IsActingFrom t m w least (Some i) = (i < t.legs.count) × (t.moments.may_act i m w ≡ true) × (least ≤ i) × ((j : ℕ) → least ≤ j → j < i → t.moments.may_act j m w ≡ false)

-- the least number from one on of which something holds, or that there is none
abbrev pub IsLeastFrom : (ℕ → Type 0) → ℕ → Option ℕ → Type 0
IsLeastFrom P least None = (w : ℕ) → least ≤ w → P w → ⊥
IsLeastFrom P least (Some w) = P w × (least ≤ w) × ((v : ℕ) → least ≤ v → v < w → P v → ⊥)

-- the greatest number up to one of which something holds, or that there is none
abbrev pub IsGreatestTo : (ℕ → Type 0) → ℕ → Option ℕ → Type 0
IsGreatestTo P most None = (w : ℕ) → w ≤ most → P w → ⊥
IsGreatestTo P most (Some w) = P w × (w ≤ most) × ((v : ℕ) → w < v → v ≤ most → P v → ⊥)

-- the least point from one on from which no row leads, or that there is none
abbrev pub IsLastFrom : Legs → ℕ → Option ℕ → Type 0
IsLastFrom legs least None = legs.count < least
IsLastFrom legs least (Some p) = (least ≤ p) × (p ≤ legs.count) × (legs.row p ≡ None) × ((q : ℕ) → least ≤ q → q < p → IsSome (legs.row q))

-- the one row before which a moment lies, or that it lies before none
abbrev pub IsRowAt : Timeline → ℕ → Option ℕ → Type 0
IsRowAt t m None = (i : ℕ) → IsSome (t.legs.row i) → t.moments.before i ≢ m
IsRowAt t m (Some i) = IsSome (t.legs.row i) × (t.moments.before i ≡ m) × ((j : ℕ) → IsSome (t.legs.row j) → t.moments.before j ≡ m → j ≡ i)

-- a row after which a moment lies
pub record IsRowTo (t : Timeline) (m i : ℕ) : Type 0 where
  pub row : IsSome (t.legs.row i)
  pub after : t.moments.after i ≡ m

-- a row with one moment before and another one after it
pub record IsBetween (t : Timeline) (m w i : ℕ) : Type 0 where
  pub row : IsSome (t.legs.row i)
  pub before : t.moments.before i ≡ m
  pub after : t.moments.after i ≡ w

-- the one row between two moments, or that there is none
abbrev pub IsRowBetween : Timeline → ℕ → ℕ → Option ℕ → Type 0
IsRowBetween t m w None = (i : ℕ) → IsBetween t m w i → ⊥
IsRowBetween t m w (Some i) = IsBetween t m w i × ((j : ℕ) → IsBetween t m w j → j ≡ i)

-- the moment before each row has the row's number, as in a run of one thread
abbrev pub HasEqualNumbers : Timeline → Type 0
HasEqualNumbers t = (i : ℕ) → IsSome (t.legs.row i) → t.moments.before i ≡ i

-- a row that doesn't lie wholly before a moment
pub record IsOpen (t : Timeline) (m i : ℕ) : Type 0 where
  pub row : IsSome (t.legs.row i)
  pub open_at : t.moments.past i m ≡ false

-- a row that doesn't lie wholly after a moment
pub record IsBegun (t : Timeline) (m i : ℕ) : Type 0 where
  pub row : IsSome (t.legs.row i)
  pub begun_at : t.moments.ahead i m ≡ false

-- a row than which another one isn't later
pub record IsClose (t : Timeline) (j i : ℕ) : Type 0 where
  pub row : IsSome (t.legs.row i)
  pub close_to : t.moments.later j i ≡ false

-- the number after this one is next to it, and no other is
pub record IsJoined (moments : Moments) (k : ℕ) : Type 0 where
  pub next : moments.next k (k + 1) ≡ true
  pub only : (w : ℕ) → moments.next k w ≡ true → w ≡ k + 1

-- numbers one after the other, each joined to the one after it: the first isn't joined to the one
-- before it, nor the last to the one after it
pub record IsLine (moments : Moments) (m : ℕ) (line : NumberChain) : Type 0 where
  pub from : line.first ≤ m
  pub to : m ≤ line.last
  pub inside : line.last ≤ moments.end
  pub joined : (k : ℕ) → line.first ≤ k → k < line.last → IsJoined moments k
  pub begins : (k : ℕ) → k + 1 ≡ line.first → IsJoined moments k → ⊥
  pub ends : IsJoined moments line.last → ⊥

-- between a number and the one after it no row may act but one before which the number lies, and no
-- writer that isn't told
pub record IsClear (t : Timeline) (k : ℕ) : Type 0 where
  pub light : t.moments.untraced k (k + 1) ≡ false
  pub own : (i : ℕ) → t.moments.may_act i k (k + 1) ≡ true → t.moments.before i ≡ k

-- what may act between a number and the one after it, but for a row before which the number lies,
-- may act between another number and the one after that
pub record IsLike (t : Timeline) (k p : ℕ) : Type 0 where
  pub untraced : t.moments.untraced k (k + 1) ≡ true → t.moments.untraced p (p + 1) ≡ true
  pub others : (i : ℕ) → t.moments.may_act i k (k + 1) ≡ true → t.moments.before i ≢ k → t.moments.may_act i p (p + 1) ≡ true

-- so it is with the pause, if there is one
abbrev pub IsAlike : Timeline → Option ℕ → ℕ → Type 0
IsAlike t None k = IsClear t k
IsAlike t (Some p) k = IsLike t k p

-- all that may act between a number and the one after it may act between another number and the one
-- after that
pub record MayActToo (t : Timeline) (k p : ℕ) : Type 0 where
  pub untraced : t.moments.untraced k (k + 1) ≡ true → t.moments.untraced p (p + 1) ≡ true
  pub rows : (i : ℕ) → t.moments.may_act i k (k + 1) ≡ true → t.moments.may_act i p (p + 1) ≡ true

-- something that may act at the pause can't act between the number and the one after it
abbrev pub IsCut : Timeline → Option ℕ → ℕ → Type 0
IsCut t None k = ⊥
IsCut t (Some p) k = MayActToo t p k → ⊥

-- a number of a strip, between which and the one after it more may act than a row before which it
-- lies
pub record IsPause (t : Timeline) (strip : Strip) (p : ℕ) : Type 0 where
  pub from : strip.first ≤ p
  pub to : p < strip.last
  pub crossed : IsClear t p → ⊥

-- numbers one after the other, each joined to the one after it, between which the same may act.
-- They end where the last one isn't joined to the one after it, or where something can't act any
-- more.
pub record IsStrip (t : Timeline) (m : ℕ) (strip : Strip) : Type 0 where
  pub from : strip.first ≤ m
  pub to : m ≤ strip.last
  pub inside : strip.last ≤ t.moments.end
  pub joined : (k : ℕ) → strip.first ≤ k → k < strip.last → IsJoined t.moments k
  pub alike : (k : ℕ) → strip.first ≤ k → k < strip.last → IsAlike t strip.pause k
  pub pause : (p : ℕ) → strip.pause ≡ Some p → IsPause t strip p
  pub ends : IsJoined t.moments strip.last → IsCut t strip.pause strip.last
