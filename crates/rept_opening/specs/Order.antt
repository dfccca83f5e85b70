-- What is propagated and who may have written last go by the order of the steps, and by nothing
-- else: of a run that isn't one path. Of one path the moments are its points. This project's own.
use Rattle.std.specs.Prelude.{◌≡◌, ◌↔◌, ◌&&◌, ℕ, Bool, true, List, Some}
use Rattle.rept_steps.specs.Course.{Course, Row, IsRow}
use Rattle.rept_order.specs.Moments.{Moment, IsMoment, Stretch, stretch, stores, IsUntouchedStep, WhollyAfter, WhollyBefore}
use Rattle.rept_order.specs.Moments.Moment.{after, before}
use Rattle.rept_order.specs.Moments.Act.{row, untraced}
use Rattle.rept_moments.specs.Naming.Carried.{CarriedAlong, may_in}
use Rattle.rept_moments.specs.Naming.Names.{IsLink, MomentNames}
use Rattle.rept_moments.specs.Naming.Numbered.{row_on}
use Rattle.rept_reason.specs.Facts.{Knowledge}
use Rattle.rept_report.specs.Setting.{Setting}
use Rattle.rept_report.specs.Spots.{passage}
use Rattle.rept_report.specs.Views.{Carries}

-- whether a step may write a byte: it is one that writes memory, and may write this byte by what is
-- known
abbrev pub may_store : {W : Type 0} → Setting W → Knowledge → Course → Row → ℕ → Bool
may_store S K C r a = stores C r && may_in S K C r a

-- Of the numbers of a run's moments, in its setting.
pub record GoesByOrder {W : Type 0} (C : Course) (N : MomentNames) (S : Setting W) (K : Knowledge) : Type 0 where
  -- A byte that nothing may write between two moments is carried from the one to the other.
  pub carried : (a : ℕ) (m w : Moment) → IsMoment C m → IsMoment C w → IsUntouchedStep C (may_store S K C) (stretch m w) a → (ns : List ℕ) × CarriedAlong S K a (N.name m) ns (N.name w)
  -- A byte that is carried from a number to a next one is one that nothing may write between two of
  -- their moments.
  pub quiet : (a m w : ℕ) → Carries S K (passage a m w) → (x : Stretch) × IsLink C N m w x × IsUntouchedStep C (may_store S K C) x a
  -- A step that writes memory is told to lie before a moment, or after it, exactly where the order
  -- puts it so.
  pub past : (i : ℕ) (m : Moment) → IsMoment C m → stores C (row_on C i) ≡ true → (S.moments.past i (N.name m) ≡ true) ↔ WhollyBefore C (row (row_on C i)) m
  pub ahead : (i : ℕ) (m : Moment) → IsMoment C m → stores C (row_on C i) ≡ true → (S.moments.ahead i (N.name m) ≡ true) ↔ WhollyAfter C (row (row_on C i)) m
  pub later : (i j : ℕ) → IsRow C (row_on C i) → IsRow C (row_on C j) → (S.moments.later i j ≡ true) ↔ WhollyAfter C (row (row_on C i)) (after (row_on C j))
  -- So is the untraced prefix.
  pub untraced_past : (d : ℕ) (m : Moment) → IsMoment C m → C.untraced ≡ Some d → (S.moments.untraced_past (N.name m) ≡ true) ↔ WhollyBefore C untraced m
  pub untraced_before : (d i : ℕ) → IsRow C (row_on C i) → C.untraced ≡ Some d → (S.moments.untraced_before i ≡ true) ↔ WhollyBefore C untraced (before (row_on C i))
