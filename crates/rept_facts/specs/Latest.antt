-- Which rows may write which bytes, by what is known. This project's own.
use Rattle.std.specs.Prelude.{◌≡◌, ℕ, ◌<◌, true, false, Some, slice_get}
use Rattle.rept_alias.specs.Accesses.{call_hits}
use Rattle.rept_reason.specs.Facts.{Knowledge}
use Rattle.rept_report.specs.Setting.{Setting}
use Rattle.rept_report.specs.Timeline.{Timeline}
use Rattle.rept_report.specs.Views.{may_write, is_sure}
use Rattle.rept_report.specs.Spots.{Spot}
use Rattle.rept_report.specs.Last.Latest.{Writes}
use Rattle.rept_writing.specs.declared.list.Writing.{Writing}
use Rattle.rept_facts.specs.State.{AnalysisState}

-- the rows and moments of which a setting is
abbrev pub time_of : {W : Type 0} → Setting W → Timeline
time_of S = record { legs = S.legs; moments = S.moments }

-- which rows may write the byte at an address, by what is known, and which write each byte that
-- they may write
abbrev pub writes_by : {W : Type 0} → Setting W → Knowledge → Writes
writes_by S K = record { may = may_write S K; sure = is_sure S K }

-- each row below a number that may write the byte at an address is below another number too
abbrev pub ArePassed : {W : Type 0} → Setting W → Knowledge → ℕ → ℕ → ℕ → Type 0
ArePassed S K n a end = (i : ℕ) → i < n → may_write S K i a ≡ true → i < end

-- in the list of the rows that may write, the row at an index may write the byte, and doesn't lie
-- wholly after the moment
pub record IsBegunEntry {W : Type 0} (x : Spot) (s : AnalysisState W) (j : ℕ) : Type 0 where
  pub writing : Writing
  pub stands : slice_get s.work.writing j ≡ Some writing
  pub hits : call_hits writing.access x.address ≡ true
  pub begun : s.path.given.moments.ahead writing.row x.moment ≡ false
