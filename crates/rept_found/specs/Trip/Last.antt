-- What is said of the row that last wrote a byte, found by trying each row. This project's own.
use Rattle.std.specs.Prelude.{ℕ, zero, suc, ◌==◌, ◌&&◌, ◌||◌, not, if◌then◌else◌, Bool, true, Option, Some, None}
use Rattle.rept_reason.specs.Facts.{Knowledge}
use Rattle.rept_report.specs.declared.writer.Writer.{Writer}
use Rattle.rept_report.specs.declared.writer.Writer as writers
use Rattle.rept_report.specs.Moments.{Moments}
use Rattle.rept_report.specs.Setting.{Setting}
use Rattle.rept_report.specs.Spots.{Spot}
use Rattle.rept_report.specs.Views.{may_write}
use Rattle.rept_report.specs.Writers.{is_certain}

-- whether something holds of each number below one, and the greatest number below one of which it
-- holds
abbrev pub all_below : (ℕ → Bool) → ℕ → Bool
all_below test zero = true
all_below test (suc n) = test n && all_below test n

abbrev pub greatest_below : (ℕ → Bool) → ℕ → Option ℕ
greatest_below test zero = None
greatest_below test (suc n) = if test n then Some n else greatest_below test n

-- whether a row may write the byte, and doesn't lie wholly after the moment
abbrev pub is_candidate : {W : Type 0} → Setting W → Knowledge → Spot → ℕ → Bool
is_candidate S K x i = may_write S K i x.address && not (S.moments.ahead i x.moment)

-- whether the first row lies wholly after the second, and not the other way round as well
abbrev pub comes_after : Moments → ℕ → ℕ → Bool
comes_after moments j k = moments.later j k && not (moments.later k j)

-- whether row j is a candidate that lies wholly after all others, and after all writers that aren't
-- traced
abbrev pub is_last : {W : Type 0} → Setting W → Knowledge → Spot → ℕ → Bool
is_last S K x j =
    is_candidate S K x j && ((not S.moments.is_untraced || S.moments.untraced_before j)
    && all_below (λ k. k == j || (not (is_candidate S K x k) || comes_after S.moments j k)) S.legs.count)

-- whether no row is a candidate, and each writer is traced
abbrev pub has_none : {W : Type 0} → Setting W → Knowledge → Spot → Bool
has_none S K x = not S.moments.is_untraced && all_below (λ k. not (is_candidate S K x k)) S.legs.count

-- what is said of the last candidate, or where there is none
abbrev pub said_of : {W : Type 0} → Setting W → Knowledge → Spot → Option ℕ → Writer
said_of S K x (Some j) = if is_certain S K x j then writers.TheVariants.Writes j else writers.TheVariants.MayWrite j
said_of S K x None = if has_none S K x then writers.TheVariants.None else writers.TheVariants.Several

abbrev pub writer_found : {W : Type 0} → Setting W → Knowledge → Spot → Writer
writer_found S K x = said_of S K x (greatest_below (is_last S K x) S.legs.count)
