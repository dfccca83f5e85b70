-- What is shown of a path of one thread, in its own words: its points and moments are one. This
-- project's own.
use Rattle.std.specs.Prelude.{◌≡◌, ℕ, zero, suc, ◌+◌, ◌≤◌, if◌then◌else◌, length}
use Rattle.rept_reason.specs.Facts.{Knowledge}
use Rattle.rept_report.specs.declared.writer.Writer.{Writer}
use Rattle.rept_report.specs.declared.writer.Writer as writers
use Rattle.rept_report.specs.Setting.{Setting}
use Rattle.rept_report.specs.Views.{may_write, is_sure}
use Rattle.rept_report.specs.OneThread.{ThreadPath, path_setting}
use Rattle.rept_findings.specs.Shown.{Shown}
use Rattle.rept_findings.specs.declared.place.Place.TheVariants as places

-- of a step that may write a byte: whether it is known that it does
abbrev pub writer_at : {W : Type 0} → Setting W → Knowledge → ℕ → Writer
writer_at S K j = if is_sure S K j then writers.TheVariants.Writes j else writers.TheVariants.MayWrite j

-- the greatest step before a point that may write the byte
abbrev pub last_writer : {W : Type 0} → Setting W → Knowledge → ℕ → ℕ → Writer
last_writer S K zero a = writers.TheVariants.None
last_writer S K (suc j) a = if may_write S K j a then writer_at S K j else last_writer S K j a

-- There is one thread with the steps of the path. Its points are the numbers from 0 on and the
-- moments too, and a byte was last written by the greatest step before the point that may write it.
pub record IsOneThread {W : Type 0} (P : ThreadPath W) (K : Knowledge) (s : Shown) : Type 0 where
  pub threads : s.threads ≡ 1
  pub rows : s.rows 0 ≡ P.given.rows
  pub first : s.first 0 ≡ 0
  pub points : s.points ≡ length P.given.rows + 1
  pub point : (p : ℕ) → p ≤ length P.given.rows → s.point p ≡ record { thread = 0; point = p }
  pub moments : s.moments ≡ length P.given.rows + 1
  pub moment : (p : ℕ) → p ≤ length P.given.rows → s.moment p ≡ p
  pub place : (m : ℕ) → m ≤ length P.given.rows → s.place m ≡ record { thread = 0; place = places.Point m }
  pub writer : (p a : ℕ) → p ≤ length P.given.rows → s.writer p a ≡ last_writer (path_setting P) K p a
  pub steps : s.counts.steps ≡ length P.given.rows
