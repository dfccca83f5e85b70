-- What is said of the row that last wrote, by which rows may write, is said by what is known.
use Rattle.std.proofs.Common.{◌≡◌, ℕ, true, Option, Some, None, refl}
use Rattle.std.specs.Option.{IsSome}
use Rattle.std.proofs.lemmas.Bool.{false≢true}
use Rattle.rept_isa.specs.declared.row.StepRow.{StepRow}
use Rattle.rept_reason.specs.Facts.{Knowledge}
use Rattle.rept_reason.specs.View.Seen.{Seen}
use Rattle.rept_report.specs.declared.writer.Writer.{Writer}
use Rattle.rept_report.specs.declared.writer.Writer as writers
use Rattle.rept_report.specs.Latest.{IsLatest}
use Rattle.rept_report.specs.Setting.{Setting}
use Rattle.rept_report.specs.Spots.{Spot}
use Rattle.rept_report.specs.Views.{registers_at, touched_by}
use Rattle.rept_report.specs.Writers.{IsCandidate, IsLastCandidate, IsWriter}
use Rattle.rept_report.specs.Last.Latest.{IsMaybe, IsLastWriter}
use Rattle.rept_facts.specs.Latest.{time_of, writes_by}

module _ {W : Type 0} (S : Setting W) (K : Knowledge) (x : Spot) where
  there : (o : Option StepRow) (v : Seen) → touched_by S o v x.address ≡ true → IsSome o
  there None v e = absurd (false≢true e)
  there (Some row) v e = refl

  maybe_candidate : (i : ℕ) → IsMaybe (time_of S) (writes_by S K) x i → IsCandidate S K x i
  maybe_candidate i h = record { may = h.may; reaches = h.begun.begun_at }

  candidate_maybe : (i : ℕ) → IsCandidate S K x i → IsMaybe (time_of S) (writes_by S K) x i
  candidate_maybe i h = record { begun = record { row = there (S.legs.row i) (registers_at S K i) h.may; begun_at = h.reaches }; may = h.may }

  latest_last : (j : ℕ) → IsLatest S.moments (IsMaybe (time_of S) (writes_by S K) x) j → IsLastCandidate S K x j
  latest_last j h = record { one = maybe_candidate j h.one; after = λ k c other. h.after k (candidate_maybe k c) other; untraced = h.untraced }

  last_latest : (j : ℕ) → IsLastCandidate S K x j → IsLatest S.moments (IsMaybe (time_of S) (writes_by S K) x) j
  last_latest j h = record { one = candidate_maybe j h.one; after = λ k c other. h.after k (maybe_candidate k c) other; untraced = h.untraced }

  pub writer_is : (w : Writer) → IsLastWriter (time_of S) (writes_by S K) x w → IsWriter S K x w
  writer_is (writers.TheVariants.Writes j) h = (latest_last j h.0, h.1)
  writer_is (writers.TheVariants.MayWrite j) h = (latest_last j h.0, h.1)
  writer_is writers.TheVariants.Several h = (λ j last. h.0 j (last_latest j last), λ none. h.1 (record { rows = λ k c. none.rows k (maybe_candidate k c); light = none.light }))
  writer_is writers.TheVariants.None h = record { rows = λ k c. h.rows k (candidate_maybe k c); light = h.light }
